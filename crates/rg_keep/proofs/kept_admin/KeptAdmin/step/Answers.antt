use Rattle.std.proofs.lemmas.Result.{IfErr-weaker, IfOk-weaker}
use Rattle.rg_keep.proofs.Kept.{kept_after, ok_from, reopens, survives}
use Rattle.rg_keep.proofs.Passing.{wider}
use Rattle.rg_keep.proofs.kept_admin.KeptAdmin.step.Goals as goal

pub returns-clause-kept : goal.returns-clause-kept
returns-clause-kept g c = λ config is.
    let list = c.step_list.ensures in
    ok_from c.step_list.result _ _ _ _ _ list.added list.fit list.answer list.full
    (λ r added fit answer full. kept_after _ _ _ config _ _ c.args.ask r.1 list.length is added fit answer full)

pub returns-clause-reopens : goal.returns-clause-reopens
returns-clause-reopens g c = λ config is.
    let list = c.step_list.ensures in
    IfErr-weaker c.step_list.result _ _ (λ s may. reopens _ _ _ config _ c.args.ask list.length is may) list.stopped

pub returns-clause-any_moment : goal.returns-clause-any_moment
returns-clause-any_moment g c = λ config is.
    let list = c.step_list.ensures in
    IfOk-weaker c.step_list.result _ _ (λ r h. wider _ _ _ _ _ _ (survives _ _ config _ c.args.ask list.length is) h) list.moments

pub returns-clause-any_moment_err : goal.returns-clause-any_moment_err
returns-clause-any_moment_err g c = λ config is.
    let list = c.step_list.ensures in
    IfErr-weaker c.step_list.result _ _ (λ s h. wider _ _ _ _ _ _ (survives _ _ config _ c.args.ask list.length is) h) list.moments_err

pub returns-clause-acknowledged : goal.returns-clause-acknowledged
returns-clause-acknowledged g c = IfOk-weaker c.step_list.result _ _ (λ r _ entries left told had. g.met.P.Keeper.only_now r.0.keeper entries left told had) c.step_list.ensures.counted
