-- What the counts tell, and how they follow a list of policies.
use Rattle.std.proofs.Common.{◌≡◌, ◌≤◌, ◌+◌, ◌==◌, ◌⊎◌, ℕ, Bool, true, false, List, [], ◌∷◌, Contains, arith, ap, sym, ◌∙◌, inl, inr}
use Rattle.std.specs.List.{sum_by}
use Rattle.std.proofs.lemmas.Bool.{false≢true}
use Rattle.std.proofs.lemmas.Bool.Decides.{nat_tests}
use Rattle.std.proofs.lemmas.List.Sums.{sum_by-append}
use Rattle.rg_base.proofs.Lists.{Contains-cases, Contains-none}
use Rattle.rg_policy.specs.Maps.{maps_of}
use Rattle.rg_policy.specs.declared.policy.Policy.{Policy}
use Rattle.rg_same_resources.specs.Counts.{IsCounted, IsSame, count_of, has_print, one_if}
use Rattle.rg_same_resources.specs.Prints.{name_print_of, print_of}

-- ---- what they tell

pub sum_next : {X : Type 0} (f : X → ℕ) (y : X) (ys : List X) → sum_by f (y ∷ ys) ≡ f y + sum_by f ys
sum_next f y ys = let parts : sum_by f (y ∷ ys) ≡ sum_by f (y ∷ []) + sum_by f ys = sum_by-append f (y ∷ []) ys in omega (arith, parts)

sum_one : {X : Type 0} (f : X → ℕ) (xs : List X) (a : X) → Contains xs a → f a ≤ sum_by f xs
sum_one f [] a here = absurd (Contains-none a here)
sum_one f (y ∷ ys) a here = at (Contains-cases y ys a here) (sum_one f ys a)
  where
    at : (y ≡ a) ⊎ Contains ys a → (Contains ys a → f a ≤ sum_by f ys) → f a ≤ sum_by f (y ∷ ys)
    at (inl is) rest = let same : f y ≡ f a = ap f is in omega (arith, same, sum_next f y ys)
    at (inr later) rest = let held = rest later in omega (arith, held, sum_next f y ys)

-- two that a test tells apart are two
sum_two : {X : Type 0} (f : X → ℕ) (test : X → Bool) (xs : List X) (a b : X) → Contains xs a → Contains xs b → test a ≡ true → test b ≡ false → f a + f b ≤ sum_by f xs
sum_two f test [] a b here there h k = absurd (Contains-none a here)
sum_two f test (y ∷ ys) a b here there h k = at (Contains-cases y ys a here) (Contains-cases y ys b there) (λ x y. sum_two f test ys a b x y h k)
  where
    at : (y ≡ a) ⊎ Contains ys a → (y ≡ b) ⊎ Contains ys b → (Contains ys a → Contains ys b → f a + f b ≤ sum_by f ys) → f a + f b ≤ sum_by f (y ∷ ys)
    at (inl is) (inl same) rest = absurd (false≢true (sym k ∙ ap test (sym same ∙ is) ∙ h))
    at (inl is) (inr later) rest = let first : f y ≡ f a = ap f is in let held = sum_one f ys b later in omega (arith, first, held, sum_next f y ys)
    at (inr later) (inl is) rest = let first : f y ≡ f b = ap f is in let held = sum_one f ys a later in omega (arith, first, held, sum_next f y ys)
    at (inr later) (inr last) rest = let held = rest later last in omega (arith, held, sum_next f y ys)

one_of : (k m : ℕ) → k ≡ m → one_if (k == m) ≡ 1
one_of k m is = ap one_if (let same : (k == m) ≡ true = grind (arith, nat_tests, is) in same)

pub has_map_print : (k : ℕ) (p : Policy) → k ≡ print_of (maps_of p) → 1 ≤ has_print k p
has_map_print k p is = let one = one_of k (print_of (maps_of p)) is in omega (arith, one)

pub has_name_print : (k : ℕ) (p : Policy) → k ≡ name_print_of p → 1 ≤ has_print k p
has_name_print k p is = let one = one_of k (name_print_of p) is in omega (arith, one)

-- none that is counted has a print of which the count is 0
pub none_has : (counts : List (ℕ × ℕ)) (ps : List Policy) (k : ℕ) (q : Policy) → IsCounted counts ps → count_of counts k ≡ 0 → Contains ps q → 1 ≤ has_print k q → ⊥
unfolding IsCounted
none_has counts ps k q counted none here has =
    let all = counted k in
    let one = sum_one (has_print k) ps q here in
    omega (arith, all, one, has, none)

-- none has the same maps where none has the print
pub none_same : (counts : List (ℕ × ℕ)) (ps : List Policy) (k : ℕ) (q : Policy) → IsCounted counts ps → count_of counts k ≡ 0 → Contains ps q → k ≡ print_of (maps_of q) → ⊥
none_same counts ps k q counted none here same = none_has counts ps k q counted none here (has_map_print k q same)

-- no other has the print where no more have it than this one does
pub none_other : (counts : List (ℕ × ℕ)) (ps : List Policy) (k : ℕ) (test : Policy → Bool) (o q : Policy) → IsCounted counts ps → count_of counts k ≤ has_print k o
    → Contains ps o → Contains ps q → test o ≡ true → test q ≡ false → 1 ≤ has_print k q → ⊥
unfolding IsCounted
none_other counts ps k test o q counted few here there h n has =
    let all = counted k in
    let two = sum_two (has_print k) test ps o q here there h n in
    omega (arith, all, two, has, few)

-- ---- how they follow

pub counted_same : (ps : List Policy) (before after : List (ℕ × ℕ)) → IsSame before after → IsCounted before ps → IsCounted after ps
unfolding IsCounted
counted_same ps before after same counted k = same k ∙ counted k
