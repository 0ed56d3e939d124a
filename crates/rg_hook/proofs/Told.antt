-- What sinks tell after a line.
use Rattle.std.proofs.Common.{ℕ, List, [], ◌∷◌, map, Option, ap}
use Rattle.std.specs.List.{AllZip}
use Rattle.rg_hook.specs.Sinks.{AfterLine}
use Rattle.rg_hook.specs.Told.{IsGiven, told_by}

module _ {S : Type 0} (heard : S → Option (List (List ℕ))) (faults : S → ℕ) (line : List ℕ) where
  given_told : (old new : S × ℕ) → AfterLine heard faults line old new → IsGiven line (told_by heard faults old) (told_by heard faults new)
  given_told old new a = record { given = a.given; dropped = λ d. ap (told_by heard faults) (a.dropped d) }

  pub each_given : (xs ys : List (S × ℕ)) → AllZip (AfterLine heard faults line) xs ys → AllZip (IsGiven line) (map (told_by heard faults) xs) (map (told_by heard faults) ys)
  each_given [] [] z = tt {0}
  each_given [] (y ∷ ys) z = absurd z
  each_given (x ∷ xs) [] z = absurd z
  each_given (x ∷ xs) (y ∷ ys) z = (given_told x y z.0, each_given xs ys z.1)
