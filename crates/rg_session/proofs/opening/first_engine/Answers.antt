use Rattle.std.proofs.Common.{[], arith, lit<, refl, sym, ap, ◌∙◌}
use Rattle.rg_admin_laws.specs.Views.{view}
use Rattle.rg_session.proofs.Opened.{built_within, compiled_all, none_built, on_ok}
use Rattle.rg_session.proofs.opening.first_engine.Goals as goal

pub build-requires : goal.build-requires
build-requires g c = c.views_are_sound.ensures c.args.admin.now [] c.requires 0 (omega arith) (lit< tt) _ c.in-Ok.facts c.in-Ok.ensures

pub returns-in-Ok-clause-compiled : goal.returns-in-Ok-clause-compiled
returns-in-Ok-clause-compiled g c =
    let seen = ap (view c.args.admin.now) (sym (c.as_str.ensures.read ∙ ap (λ s. s.plugin) c.state.ensures.state)) ∙ c.in-Ok.ensures in
    on_ok c.build.result (compiled_all (view c.args.admin.now c.args.admin.now.state.plugin) c.args.steps.now c.build.new.steps c.in-Ok.facts seen) c.build.ensures.compiled

pub returns-in-Ok-clause-steps : goal.returns-in-Ok-clause-steps
returns-in-Ok-clause-steps g c =
    let seen = ap (view c.args.admin.now) (sym (c.as_str.ensures.read ∙ ap (λ s. s.plugin) c.state.ensures.state)) ∙ c.in-Ok.ensures in
    built_within (view c.args.admin.now c.args.admin.now.state.plugin) c.args.steps.now c.build.new.steps c.in-Ok.facts seen c.build.ensures.steps

pub returns-in-Err-clause-steps : goal.returns-in-Err-clause-steps
returns-in-Err-clause-steps g c = none_built _ _ _ refl
