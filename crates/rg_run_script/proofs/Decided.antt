-- A decision by an engine over what is seen.
use Rattle.std.proofs.Common.{◌≡◌, ◌∙◌, Some, option_map, ap, sym}
use Rattle.rg_policy.specs.declared.request.AccessRequest.{AccessRequest}
use Rattle.rg_facts.specs.Texts.{decide}
use Rattle.rg_facts.specs.declared.decision.Decision.{Decision}
use Rattle.rg_facts.specs.declared.facts.Facts.{Facts}
use Rattle.rg_admin.specs.Logs.{Administration}
use Rattle.rg_admin.specs.Views.{view}
use Rattle.rg_run_script.specs.Current.{decision_now}

pub decided_now : (a : Administration) (q : AccessRequest) (facts engine : Facts) (d : Decision) → view a a.state.plugin ≡ Some facts → engine ≡ facts
    → d ≡ decide engine q (record { 0 = 0 }) → decision_now a q ≡ Some d
decided_now a q facts engine d seen made is =
    ap (option_map (λ (f : Facts). decide f q (record { 0 = 0 }))) seen ∙ ap Some (sym (is ∙ ap (λ (f : Facts). decide f q (record { 0 = 0 })) made))
