-- Work that is counted, in parts.
use Rattle.std.proofs.Common.{◌≡◌, ◌+◌, ◌<◌, ◌≤◌, ℕ, List, [], ◌∷◌, length, take, refl, sym, ap, subst, ◌∙◌, arith}
use Rattle.std.proofs.lemmas.List.Sums.{sum_by-cons, sum_by_more, sum_by_more_le}
use Rattle.std.specs.List.{sum_by}
use Rattle.rg_base.specs.Counts.{Counts, one_compile}
use Rattle.rg_index.specs.Filing.{EditsWithin}
use Rattle.rg_policy_sets.specs.Bounds.{HasCompiled, WorkWithin}

pub no_work : (n m : ℕ) (a : Counts) → WorkWithin n m a a
no_work n m a = record { compiled = omega arith; edited = omega arith; tries = refl }

pub more_allowed : (n m p q : ℕ) (a b : Counts) → n ≤ p → m ≤ q → WorkWithin n m a b → WorkWithin p q a b
more_allowed n m p q a b k l h = let c = h.compiled in let e = h.edited in record { compiled = omega (arith, c, k); edited = omega (arith, e, l); tries = h.tries }

pub no_edits : (n m : ℕ) (a b : Counts) → WorkWithin n 0 a b → WorkWithin n m a b
no_edits n m a b h = more_allowed n 0 n m a b (omega arith) (omega arith) h

pub one_compiled : (a b : Counts) → b ≡ one_compile a → WorkWithin 1 0 a b
one_compiled a b e =
    let now = ap (λ (k : Counts). k.compiles) e in
    let same = ap (λ (k : Counts). k.edits) e in
    record { compiled = omega (arith, now); edited = omega (arith, same); tries = ap (λ (k : Counts). k.tries) e }

pub exactly_one : (a b : Counts) → b ≡ one_compile a → HasCompiled 1 a b
exactly_one a b e = ap (λ (k : Counts). k.compiles) e

pub none_compiled : (a : Counts) → HasCompiled 0 a a
none_compiled a = omega arith

pub joined : (n m : ℕ) (a b c : Counts) → WorkWithin n 0 a b → WorkWithin m 0 b c → WorkWithin (n + m) 0 a c
joined n m a b c h g =
    let was = h.compiled in
    let now = g.compiled in
    let edits = h.edited in
    let more = g.edited in
    record { compiled = omega (arith, was, now); edited = omega (arith, edits, more); tries = g.tries ∙ h.tries }

-- the work for one more item, where each costs so much
module _ {X : Type 0} (cost : ℕ) (items : List X) (i : ℕ) (x : X) (within : i < length items) (a b c : Counts)
    (h : WorkWithin (sum_by (λ (x : X). cost) (take i items)) 0 a b) (g : WorkWithin cost 0 b c) where
  pub one_more : WorkWithin (sum_by (λ (x : X). cost) (take (i + 1) items)) 0 a c
  one_more =
      subst (λ (n : ℕ). WorkWithin n 0 a c) (sym (sum_by_more (λ (x : X). cost) items i x within)) (joined (sum_by (λ (x : X). cost) (take i items)) cost a b c h g)

  pub one_of : WorkWithin (sum_by (λ (x : X). cost) items) 0 a c
  one_of =
      more_allowed (sum_by (λ (x : X). cost) (take i items) + cost) 0 (sum_by (λ (x : X). cost) items) 0 a c (sum_by_more_le (λ (x : X). cost) items i x within) (omega arith)
      (joined (sum_by (λ (x : X). cost) (take i items)) cost a b c h g)

-- the compiles of one more item, where each costs so many
pub one_more_compiled : {X : Type 0} (cost : ℕ) (items : List X) (i : ℕ) (x : X) → i < length items → (a b c : Counts)
    → HasCompiled (sum_by (λ (x : X). cost) (take i items)) a b → HasCompiled cost b c → HasCompiled (sum_by (λ (x : X). cost) (take (i + 1) items)) a c
one_more_compiled {X = X} cost items i x within a b c h g =
    let more = sum_by_more (λ (x : X). cost) items i x within in
    omega (arith, h, g, more)

pub sum_of_ones : {X : Type 0} (xs : List X) → sum_by (λ (x : X). 1) xs ≡ length xs
sum_of_ones [] = refl
sum_of_ones {X = X} (x ∷ xs) =
    let first = sum_by-cons (λ (x : X). 1) x xs in
    let rest = sum_of_ones xs in
    omega (arith, first, rest)

pub sum_of_none : {X : Type 0} (xs : List X) → sum_by (λ (x : X). 0) xs ≡ 0
sum_of_none [] = refl
sum_of_none {X = X} (x ∷ xs) =
    let first = sum_by-cons (λ (x : X). 0) x xs in
    let rest = sum_of_none xs in
    omega (arith, first, rest)

pub with_edits : (n m : ℕ) (a b c : Counts) → WorkWithin n 0 a b → EditsWithin m b c → WorkWithin n m a c
with_edits n m a b c h g =
    let was = h.compiled in
    let now = g.compiles in
    let edits = h.edited in
    let more = g.edits in
    record { compiled = omega (arith, was, now); edited = omega (arith, edits, more); tries = g.tries ∙ h.tries }

pub edits_alone : (m : ℕ) (a b : Counts) → EditsWithin m a b → WorkWithin 0 m a b
edits_alone m a b g = with_edits 0 m a a b (no_work 0 0 a) g
