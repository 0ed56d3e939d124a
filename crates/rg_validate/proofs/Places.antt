-- The first place of an item that passes a test.
use Rattle.std.proofs.Common.{◌≡◌, ◌+◌, ◌∷◌, ℕ, ℤ, zero, suc, Bool, true, false, not, cond, List, [], Option, Some, None, map, option_map, position, slice_get, refl, ap, sym, ◌∙◌, arith}
use Rattle.std.specs.List.{find, list_any, position_from}
use Rattle.std.specs.Option.{option_and_then}
use Rattle.std.specs.Ordering.{int_eq}
use Rattle.std.proofs.lemmas.Bool.{and_parts, false≢true}
use Rattle.std.proofs.lemmas.Bool.Decides.{Decides-int_eq}
use Rattle.std.proofs.lemmas.Iterator.Adapters.{position_from-zero}
use Rattle.std.proofs.lemmas.Option.{none-some, same_Some}
use Rattle.rg_base.proofs.Lists.{Contains-slice_get, any_from}
use Rattle.rg_base.specs.Texts.{all_distinct}
use Rattle.rg_policy.specs.declared.policy.Policy.{Policy}
use Rattle.rg_cmd.specs.Lookups.{has_id}

-- the first place, by recursion
abbrev pub place_of : {X : Type 0} → (X → Bool) → List X → Option ℕ
place_of p [] = None
place_of p (x ∷ xs) = cond (p x) (Some 0) (option_map suc (place_of p xs))

module _ {X : Type 0} (p : X → Bool) where
  place_from : (xs : List X) (n : ℕ) → position_from p n xs ≡ option_map (λ k. n + k) (place_of p xs)
  place_from [] n = refl
  place_from (x ∷ xs) n = by_case (p x) (place_of p xs) (place_from xs (n + 1)) where
    by_case : (b : Bool) (o : Option ℕ) → position_from p (n + 1) xs ≡ option_map (λ k. n + 1 + k) o
        → cond b (Some n) (position_from p (n + 1) xs) ≡ option_map (λ k. n + k) (cond b (Some 0) (option_map suc o))
    by_case true o e = ap Some (omega arith)
    by_case false None e = e
    by_case false (Some k) e = e ∙ ap Some (omega arith)

  pub place_is : (xs : List X) → position p xs ≡ place_of p xs
  place_is xs = position_from-zero p xs ∙ place_from xs 0 ∙ by_case (place_of p xs) where
    by_case : (o : Option ℕ) → option_map (λ k. 0 + k) o ≡ o
    by_case None = refl
    by_case (Some k) = ap Some (omega arith)

  found_there : (xs : List X) → find p xs ≡ option_and_then (slice_get xs) (place_of p xs)
  found_there [] = refl
  found_there (x ∷ xs) = by_case (p x) (place_of p xs) (found_there xs) where
    by_case : (b : Bool) (o : Option ℕ) → find p xs ≡ option_and_then (slice_get xs) o
        → cond b (Some x) (find p xs) ≡ option_and_then (slice_get (x ∷ xs)) (cond b (Some 0) (option_map suc o))
    by_case true o e = refl
    by_case false None e = e
    by_case false (Some k) e = e

  -- the item at the first place is the one that is found
  pub found_at : (xs : List X) → find p xs ≡ option_and_then (slice_get xs) (position p xs)
  found_at xs = found_there xs ∙ ap (option_and_then (slice_get xs)) (sym (place_is xs))

-- the first place among what was made of other items
pub position_mapped : {X Y : Type 0} (p : Y → Bool) (f : X → Y) (xs : List X) → position p (map f xs) ≡ position (λ x. p (f x)) xs
position_mapped {X = X} p f xs = place_is p (map f xs) ∙ at xs ∙ sym (place_is (λ x. p (f x)) xs) where
  at : (xs : List X) → place_of p (map f xs) ≡ place_of (λ x. p (f x)) xs
  at [] = refl
  at (x ∷ xs) = ap (λ o. cond (p (f x)) (Some 0) (option_map suc o)) (at xs)

-- of items of which no two that pass are there, one that passes stands at the first place
module _ {X : Type 0} (alike : X → X → Bool) (same : X → Bool) (shared : (a b : X) → same a ≡ true → same b ≡ true → alike a b ≡ true) where
  here : (xs : List X) (i : ℕ) (x : X) → all_distinct alike xs ≡ true → slice_get xs i ≡ Some x → same x ≡ true → place_of same xs ≡ Some i
  here [] i x h there is = absurd (none-some x there)
  here (y ∷ ys) zero x h there is = ap (λ b. cond b (Some 0) (option_map suc (place_of same ys))) (ap same (same_Some y x there) ∙ is)
  here (y ∷ ys) (suc i) x h there is = at (same y) refl (here ys i x both.1 there is)
    where
      both : (not (list_any (alike y) ys) ≡ true) × (all_distinct alike ys ≡ true)
      both = and_parts (not (list_any (alike y) ys)) (all_distinct alike ys) h

      at : (b : Bool) → same y ≡ b → place_of same ys ≡ Some i → cond b (Some 0) (option_map suc (place_of same ys)) ≡ Some (suc i)
      at true now rest = absurd (false≢true (ap not (sym (any_from (alike y) ys x (Contains-slice_get ys i x there) (shared y x now is))) ∙ both.0))
      at false _ rest = ap (option_map suc) rest

  pub stands_first : (xs : List X) (i : ℕ) (x : X) → all_distinct alike xs ≡ true → slice_get xs i ≡ Some x → same x ≡ true → Some i ≡ position same xs
  stands_first xs i x h there is = sym (place_is same xs ∙ here xs i x h there is)

pub one_id : (id : ℤ) (p q : Policy) → has_id id p ≡ true → has_id id q ≡ true → int_eq p.id.0 q.id.0 ≡ true
one_id id p q its other = (Decides-int_eq p.id.0 q.id.0).1 ((Decides-int_eq p.id.0 id).0 its ∙ sym ((Decides-int_eq q.id.0 id).0 other))
