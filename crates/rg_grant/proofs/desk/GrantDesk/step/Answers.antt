use Rattle.rg_grant.proofs.Answered.{grant_answered, revoke_answered}
use Rattle.rg_grant.proofs.desk.GrantDesk.step.Goals as goal

pub returns-clause-in_force : goal.returns-clause-in_force
returns-clause-in_force c = grant_answered c.answer.result _ _ c.args.ask c.answer.ensures.ok

pub returns-clause-revoked : goal.returns-clause-revoked
returns-clause-revoked c = revoke_answered c.answer.result _ _ c.args.ask c.answer.ensures.kept c.answer.ensures.ok
