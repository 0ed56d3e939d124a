-- Rules with whether they are passed, and the first that fails.
use Rattle.std.specs.Prelude.{not, Bool, List, Option, option_map}
use Rattle.std.specs.List.{find}
use Rattle.rg_cmd.specs.declared.rule.Rule.{Rule}

-- a rule, and whether it is passed
abbrev pub Tested : Type 0
Tested = Rule × Bool

-- the first that fails
abbrev pub first_failing : List Tested → Option Rule
first_failing rules = option_map (λ (r : Tested). r.0) (find (λ (r : Tested). not r.1) rules)
