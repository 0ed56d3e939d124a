use Rattle.std.proofs.Common.{◌≡◌, List, map, ap, ◌∙◌}
use Rattle.rg_base.specs.Listed.{Listed}
use Rattle.rg_cond.specs.Kinds.{rule_of}
use Rattle.rg_cond.specs.declared.rules.Rule.{Rule}
use Rattle.rg_evalr.proofs.ItemsCompiled.{rules_are}
use Rattle.rg_evalr.specs.Compiled.{rules_hold}
use Rattle.rg_evalr.specs.Frames.{def_of}
use Rattle.rg_evalr.proofs.evaluator.Evaluator.conditions_hold.Goals as goal

pub returns : goal.returns
returns c =
    let s = c.args.self.now in
    let rules : c.as_slice.result.now ≡ map (rule_of (def_of s.frame s.side)) s.policy.conditions.items =
    c.as_slice.ensures ∙ ap (λ (l : Listed Rule). l.items) c.self.invariant.conditions
    ∙ (λ i. map (rule_of (def_of (c.self.view_is i).frame (c.self.view_is i).side)) (c.self.view_is i).policy.conditions.items) in
    c.all_hold.ensures
    ∙ ap (λ (xs : List Rule). rules_hold xs c.args.context.now) rules
    ∙ rules_are s.frame s.side c.args.context.now s.policy.conditions.items
