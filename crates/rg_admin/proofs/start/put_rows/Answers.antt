use Rattle.std.proofs.Common.{List, ◌++◌, map}
use Rattle.rg_cmd.specs.declared.ask.AdminCommand.{AdminCommand}
use Rattle.rg_cmd.specs.declared.ask.AdminCommand.TheVariants.{CreateService, PutDef, PutUser}
use Rattle.rg_admin.proofs.PutRows.{fails_first, fails_later, put_both}
use Rattle.rg_admin.proofs.start.put_rows.Goals as goal

pub put_all-requires : goal.put_all-requires
put_all-requires c = c.requires

pub put_all-requires-2 : goal.put_all-requires-2
put_all-requires-2 c = c.in_default.ensures.putting

pub put_all-requires-3 : goal.put_all-requires-3
put_all-requires-3 c = c.in_default-put_all.ensures.putting

pub put_all-requires-4 : goal.put_all-requires-4
put_all-requires-4 c = c.in_default-put_all-2.ensures.putting

pub returns-in-Err-clause-err : goal.returns-in-Err-clause-err
returns-in-Err-clause-err c =
    let A : List AdminCommand = map PutDef c.args.defs.items in
    let B : List AdminCommand = map CreateService c.args.tags.items in
    let C : List AdminCommand = map CreateService c.args.others.items in
    let D : List AdminCommand = map PutUser c.args.users.items in
    fails_first c.in-Err.fault c.args.putting.now.state A (B ++ (C ++ D)) c.in-Err.ensures.err

pub returns-in-Err-put_all-clause-err : goal.returns-in-Err-put_all-clause-err
returns-in-Err-put_all-clause-err c =
    let A : List AdminCommand = map PutDef c.args.defs.items in
    let B : List AdminCommand = map CreateService c.args.tags.items in
    let C : List AdminCommand = map CreateService c.args.others.items in
    let D : List AdminCommand = map PutUser c.args.users.items in
    let f = c.in-Err-put_all.fault in
    let s = c.put_all.new.putting.state in
    fails_later f c.args.putting.now.state s A (B ++ (C ++ D)) c.in_default.ensures.ok (fails_first f s B (C ++ D) c.in-Err-put_all.ensures.err)

pub returns-in-Err-put_all-2-clause-err : goal.returns-in-Err-put_all-2-clause-err
returns-in-Err-put_all-2-clause-err c =
    let A : List AdminCommand = map PutDef c.args.defs.items in
    let B : List AdminCommand = map CreateService c.args.tags.items in
    let C : List AdminCommand = map CreateService c.args.others.items in
    let D : List AdminCommand = map PutUser c.args.users.items in
    let f = c.in-Err-put_all-2.fault in
    let s = c.put_all.new.putting.state in
    let t = c.put_all-2.new.putting.state in
    fails_later f c.args.putting.now.state s A (B ++ (C ++ D)) c.in_default.ensures.ok
    (fails_later f s t B (C ++ D) c.in_default-put_all.ensures.ok (fails_first f t C D c.in-Err-put_all-2.ensures.err))

pub returns-in-Err-put_all-3-clause-err : goal.returns-in-Err-put_all-3-clause-err
returns-in-Err-put_all-3-clause-err c =
    let A : List AdminCommand = map PutDef c.args.defs.items in
    let B : List AdminCommand = map CreateService c.args.tags.items in
    let C : List AdminCommand = map CreateService c.args.others.items in
    let D : List AdminCommand = map PutUser c.args.users.items in
    let f = c.in-Err-put_all-3.fault in
    let s = c.put_all.new.putting.state in
    let t = c.put_all-2.new.putting.state in
    let u = c.put_all-3.new.putting.state in
    fails_later f c.args.putting.now.state s A (B ++ (C ++ D)) c.in_default.ensures.ok
    (fails_later f s t B (C ++ D) c.in_default-put_all.ensures.ok
    (fails_later f t u C D c.in_default-put_all-2.ensures.ok c.in-Err-put_all-3.ensures.err))

pub returns-clause-ok : goal.returns-clause-ok
returns-clause-ok c =
    let A : List AdminCommand = map PutDef c.args.defs.items in
    let B : List AdminCommand = map CreateService c.args.tags.items in
    let C : List AdminCommand = map CreateService c.args.others.items in
    let D : List AdminCommand = map PutUser c.args.users.items in
    let s = c.put_all.new.putting.state in
    let t = c.put_all-2.new.putting.state in
    let u = c.put_all-3.new.putting.state in
    let v = c.put_all-4.new.putting.state in
    put_both c.args.putting.now.state s v A (B ++ (C ++ D)) c.in_default.ensures.ok
    (put_both s t v B (C ++ D) c.in_default-put_all.ensures.ok (put_both t u v C D c.in_default-put_all-2.ensures.ok c.in_default-put_all-3.ensures.ok))

pub returns-clause-putting : goal.returns-clause-putting
returns-clause-putting c = c.in_default-put_all-3.ensures.putting
