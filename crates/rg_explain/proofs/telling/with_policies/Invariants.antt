use Rattle.std.proofs.Common.{◌≡◌, ◌++◌, take, map}
use Rattle.std.specs.Prelude.{option_map}
use Rattle.rg_base.specs.Listed.{listed}
use Rattle.rg_explain.specs.Explaining.{told_all}
use Rattle.rg_explain.specs.Parts.{candidate_in, setting_in}
use Rattle.rg_explain.proofs.telling.with_policies.Given as goal

abbrev pub invariant-loop-policy : goal.invariant-loop-policy
invariant-loop-policy l = l.list ≡ listed (l.fn.list.items
    ++ told_all (setting_in l.question (option_map (λ z. z.now) l.zone)) (map (candidate_in l.question) (take l.policy-index l.policies)))
