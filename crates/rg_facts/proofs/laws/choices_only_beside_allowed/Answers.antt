use Rattle.std.proofs.Common.{None, cond, ap}
use Rattle.std.specs.Prelude.{option_and_then, option_map}
use Rattle.rg_facts.specs.Candidates.{candidates, setting_of}
use Rattle.rg_facts.specs.Choices.{chosen, unless_no_mask}
use Rattle.rg_facts.specs.Flow.{outcome_of, place_of}
use Rattle.rg_facts.specs.declared.choice.Kind.TheVariants.{Mask, Filter}
use Rattle.rg_facts.proofs.laws.choices_only_beside_allowed.Goals as goal

pub returns : goal.returns
unfolding outcome_of
returns c = λ facts q h. (
  ap (λ v. option_map place_of (cond v (chosen (setting_of facts q) Filter (candidates facts q)) None)) h,
  ap (λ v. option_map place_of (cond v (option_and_then unless_no_mask (chosen (setting_of facts q) Mask (candidates facts q))) None)) h,
)
