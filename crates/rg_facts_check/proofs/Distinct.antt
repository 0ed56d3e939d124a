-- Lists without repeats.
use Rattle.std.proofs.Common.{ℤ, pos, arith, cond, ◌≡◌, ◌&&◌, ◌<◌, ◌≤◌, ◌+◌, ◌-◌, ◌||◌, ℕ, zero, suc, Bool, true, false, not, List, [], ◌∷◌, length, drop, get_or, refl, ap, sym, ◌∙◌, add-one}
use Rattle.std.proofs.Math.Seq.{drop-cons}
use Rattle.std.proofs.lemmas.Cmp.{int_eq_equiv}
use Rattle.std.specs.BTreeMap.{is_at}
use Rattle.std.specs.List.{list_any}
use Rattle.std.specs.Ordering.{int_cmp, int_eq}
use Rattle.rg_base.specs.Texts.{all_distinct}

and_false : (b : Bool) → (b && false) ≡ false
and_false true = refl
and_false false = refl

-- a list has a repeat where its rest has one
pub repeat_of_rest : {X : Type 0} (same : X → X → Bool) (n : ℕ) (xs : List X) → all_distinct same (drop n xs) ≡ false → all_distinct same xs ≡ false
repeat_of_rest same zero xs h = h
repeat_of_rest same (suc n) [] h = h
repeat_of_rest same (suc n) (x ∷ xs) h = ap (λ b. not (list_any (same x) xs) && b) (repeat_of_rest same n xs h) ∙ and_false (not (list_any (same x) xs))

-- an element that stands again later is a repeat
pub repeat_at : {X : Type 0} (same : X → X → Bool) (n : ℕ) (xs : List X) (x : X) → n < length xs → x ≡ get_or xs n x
    → list_any (same x) (drop (n + 1) xs) ≡ true → all_distinct same xs ≡ false
repeat_at same n xs x h is again = repeat_of_rest same n xs (
    ap (all_distinct same) (drop-cons xs n x h ∙ ap (λ y. y ∷ drop (suc n) xs) (sym is))
    ∙ ap (λ b. not b && all_distinct same (drop (suc n) xs)) (ap (λ m. list_any (same x) (drop m xs)) (sym (add-one n)) ∙ again))

-- the rest of a list begins with the element at its place
pub drop_before : {X : Type 0} (xs : List X) (n : ℕ) (d : X) → 0 < n → n ≤ length xs → drop (n - 1) xs ≡ get_or xs (n - 1) d ∷ drop n xs
drop_before xs n d some within =
    let next : suc (n - 1) ≡ n = omega arith in
    drop-cons xs (n - 1) d (omega arith) ∙ ap (λ m. get_or xs (n - 1) d ∷ drop m xs) next

cond_or : (a b : Bool) → cond a true b ≡ (a || b)
cond_or true b = refl
cond_or false b = refl

-- what was seen with one more id
pub seen_more : (ids : List ℤ) (n : ℕ) (id : ℤ) (has had : Bool) → 0 < n → n ≤ length ids
    → has ≡ cond (is_at (int_cmp (get_or ids (n - 1) (pos 0))) id) true had → had ≡ list_any (int_eq id) (drop n ids) → has ≡ list_any (int_eq id) (drop (n - 1) ids)
seen_more ids n id has had some within is before =
    is ∙ cond_or (int_eq (get_or ids (n - 1) (pos 0)) id) had
    ∙ ap (λ b. b || had) (int_eq_equiv.symm (get_or ids (n - 1) (pos 0)) id)
    ∙ ap (λ b. int_eq id (get_or ids (n - 1) (pos 0)) || b) before
    ∙ ap (list_any (int_eq id)) (sym (drop_before ids n (pos 0) some within))

-- one more id is distinct where it wasn't seen
pub distinct_more : (ids : List ℤ) (n : ℕ) → 0 < n → n ≤ length ids → list_any (int_eq (get_or ids (n - 1) (pos 0))) (drop n ids) ≡ false
    → all_distinct int_eq (drop n ids) ≡ true → all_distinct int_eq (drop (n - 1) ids) ≡ true
distinct_more ids n some within new rest =
    ap (all_distinct int_eq) (drop_before ids n (pos 0) some within)
    ∙ ap (λ b. not b && all_distinct int_eq (drop n ids)) new ∙ rest

-- an id that was seen is a repeat
pub repeat_before : (ids : List ℤ) (n : ℕ) → 0 < n → n ≤ length ids → list_any (int_eq (get_or ids (n - 1) (pos 0))) (drop n ids) ≡ true → all_distinct int_eq ids ≡ false
repeat_before ids n some within again =
    repeat_of_rest int_eq (n - 1) ids (ap (all_distinct int_eq) (drop_before ids n (pos 0) some within) ∙ ap (λ b. not b && all_distinct int_eq (drop n ids)) again)
