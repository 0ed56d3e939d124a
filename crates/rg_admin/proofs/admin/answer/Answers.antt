use Rattle.std.proofs.Common.{refl}
use Rattle.rg_admin.proofs.Stepping.{answered}
use Rattle.rg_admin.proofs.admin.answer.Goals as goal

pub reply_of-requires : goal.reply_of-requires
reply_of-requires g c = c.requires.kept.valid

pub accept-requires-clause-kept : goal.accept-requires-clause-kept
accept-requires-clause-kept g c = c.requires.kept

pub accept-requires-clause-packed : goal.accept-requires-clause-packed
accept-requires-clause-packed g c = c.requires.packed

pub accept-requires-clause-passes : goal.accept-requires-clause-passes
accept-requires-clause-passes g c = c.requires.passes

pub accept-requires-clause-holds : goal.accept-requires-clause-holds
accept-requires-clause-holds g c = c.requires.holds

pub returns-in-Ok-accept-clause-ok : goal.returns-in-Ok-accept-clause-ok
returns-in-Ok-accept-clause-ok g c = answered _ _ c.args.ask c.in-Ok.reply c.in-Ok-accept.ensures.ok c.in-Ok.ensures

pub returns-in-Ok-accept-clause-holds : goal.returns-in-Ok-accept-clause-holds
returns-in-Ok-accept-clause-holds g c = c.accept.ensures.holds

pub returns-in-Err-accept-clause-err : goal.returns-in-Err-accept-clause-err
returns-in-Err-accept-clause-err g c = c.in-Err-accept.ensures.err

pub returns-in-Err-accept-clause-holds : goal.returns-in-Err-accept-clause-holds
returns-in-Err-accept-clause-holds g c = c.accept.ensures.holds

pub returns-in-Err-clause-err : goal.returns-in-Err-clause-err
returns-in-Err-clause-err g c = refl

pub returns-in-Err-clause-holds : goal.returns-in-Err-clause-holds
returns-in-Err-clause-holds g c = c.requires.holds
