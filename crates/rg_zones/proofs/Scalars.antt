-- Lists that grow by what passes a test.
use Rattle.std.proofs.Common.{◌≡◌, ◌&&◌, ◌++◌, Bool, true, false, List, [], ◌∷◌, refl, ap, ◌∙◌}
use Rattle.std.proofs.lemmas.List.Folds.{list_all-append}
use Rattle.std.specs.List.{list_all}

and_true : (b : Bool) → (b && true) ≡ b
and_true true = refl
and_true false = refl

pub one_more : {X : Type 0} (p : X → Bool) (xs : List X) (a : X) → p a ≡ true → list_all p (xs ++ a ∷ []) ≡ list_all p xs
one_more p xs a h = list_all-append p xs (a ∷ []) ∙ ap (λ b. list_all p xs && (b && true)) h ∙ and_true (list_all p xs)

pub two_more : {X : Type 0} (p : X → Bool) (xs : List X) (a b : X) → p a ≡ true → p b ≡ true → list_all p (xs ++ a ∷ b ∷ []) ≡ list_all p xs
two_more p xs a b h k = list_all-append p xs (a ∷ b ∷ []) ∙ ap (λ c. list_all p xs && (c && (p b && true))) h ∙ ap (λ c. list_all p xs && (c && true)) k ∙ and_true (list_all p xs)
