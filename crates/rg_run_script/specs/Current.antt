-- What the own plugin of an administration decides.
use Rattle.std.specs.Prelude.{Option, option_map}
use Rattle.rg_policy.specs.declared.request.AccessRequest.{AccessRequest}
use Rattle.rg_facts.specs.Texts.{decide}
use Rattle.rg_facts.specs.declared.decision.Decision.{Decision}
use Rattle.rg_facts.specs.declared.facts.Facts.{Facts}
use Rattle.rg_admin.specs.Logs.{Administration}
use Rattle.rg_admin.specs.Views.{view}

-- the decision over what the plugin sees of the administration as it is; nothing is published, so the serial is 0
abbrev pub decision_now : Administration → AccessRequest → Option Decision
decision_now a q = option_map (λ (facts : Facts). decide facts q (record { 0 = 0 })) (view a a.state.plugin)
