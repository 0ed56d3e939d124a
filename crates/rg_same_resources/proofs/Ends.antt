-- Lists that are gone over from the end.
use Rattle.std.proofs.Common.{◌≡◌, ◌&&◌, ◌++◌, Bool, true, false, List, [], ◌∷◌, refl, ◌∙◌}
use Rattle.std.proofs.lemmas.List.Folds.{list_all-append}
use Rattle.rg_policy.specs.declared.policy.PolicyResource.{PolicyResource}
use Rattle.rg_same_resources.specs.Twins.{each_resource_in}

swap : (a b : Bool) → (a && b) ≡ (b && a)
swap true true = refl
swap true false = refl
swap false true = refl
swap false false = refl

-- the last one is asked first
pub each_last : (resources : List PolicyResource) (r : PolicyResource) (others : List PolicyResource)
    → each_resource_in (resources ++ r ∷ []) others ≡ (each_resource_in (r ∷ []) others && each_resource_in resources others)
each_last resources r others = list_all-append _ resources (r ∷ []) ∙ swap (each_resource_in resources others) (each_resource_in (r ∷ []) others)

pub ruleset ends = (each_last)
