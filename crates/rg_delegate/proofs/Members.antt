-- Tests of lists against what they contain.
use Rattle.std.proofs.Common.{◌≡◌, Bool, List, Contains, sym, ◌∙◌}
use Rattle.std.specs.List.{list_all, list_any}
use Rattle.rg_base.proofs.Lists.{all_from, all_holds, any_from, any_holds, same_truth}

pub agree_all : {X : Type 0} (p q : X → Bool) (xs : List X) → ((x : X) → Contains xs x → p x ≡ q x) → list_all p xs ≡ list_all q xs
agree_all p q xs e = same_truth (list_all p xs) (list_all q xs)
    (λ h. all_from q xs (λ x within. sym (e x within) ∙ all_holds p xs h x within))
    (λ h. all_from p xs (λ x within. e x within ∙ all_holds q xs h x within))

pub agree_any : {X : Type 0} (p q : X → Bool) (xs : List X) → ((x : X) → Contains xs x → p x ≡ q x) → list_any p xs ≡ list_any q xs
agree_any p q xs e = same_truth (list_any p xs) (list_any q xs)
    (λ h. let a = any_holds p xs h in any_from q xs a.0 a.1 (sym (e a.0 a.1) ∙ a.2))
    (λ h. let a = any_holds q xs h in any_from p xs a.0 a.1 (e a.0 a.1 ∙ a.2))
