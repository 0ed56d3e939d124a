-- Beginnings of lists, histories that grow by one entry, and sums over views.
use Rattle.std.proofs.Common.{◌≡◌, ℕ, zero, suc, ◌+◌, ◌<◌, ◌≤◌, ◌==◌, Bool, true, false, nat_lt, ne_eqb, subst, List, [], ◌∷◌, ◌++◌, length, set, Some, slice_get, if◌then◌else◌, refl, ap, sym, ◌∙◌, arith, append_assoc, append-nil, length-append}
use mathlib.Core.Option.{some, some-injective, some-ne-none}
use mathlib.Core.List.{IsPrefix}
use mathlib.Core.Logic.{dite}
use native.Mathlib.Decide.{ℕ_discrete, dec_lt}
use lib.ListN.{get_elem?}
use Rattle.std.proofs.lemmas.Bool.Decides.{nat_tests}
use Rattle.std.proofs.lemmas.List.{take-append-le}
use Rattle.std.proofs.Math.Seq.{take-append_seam}
use Rattle.std.proofs.lemmas.Option.{slice_get_within}
use Rattle.rg_turn.specs.declared.rule.Entry.{Entry}
use Rattle.rg_turn.specs.Counting.{times, once_below, total}
use Rattle.rg_turn.specs.History.{state_after, state_at, IsLegal}
use Rattle.rg_turn.specs.View.{longer}

pub begins_self : {A : Type 0} (h : List A) → IsPrefix h h
begins_self h = ([], append-nil h)

pub begins_trans : {A : Type 0} (h m k : List A) → IsPrefix h m → IsPrefix m k → IsPrefix h k
begins_trans h m k a b = (a.0 ++ b.0, sym (append_assoc h a.0 b.0) ∙ ap (λ l. l ++ b.0) a.1 ∙ b.1)

pub begins_more : {A : Type 0} (h m k : List A) → IsPrefix h m → IsPrefix h (m ++ k)
begins_more h m k a = begins_trans h m (m ++ k) a (k, refl)

pub begins_length : {A : Type 0} (h m : List A) → IsPrefix h m → length h ≤ length m
begins_length h m a = let sum : length h + length a.0 ≡ length m = sym (length-append h a.0) ∙ ap length a.1 in omega arith

-- a beginning that is as long as the whole is the whole
pub begins_whole : {A : Type 0} (h m : List A) → IsPrefix h m → length m ≤ length h → h ≡ m
begins_whole {A} h m a long =
    let sum : length h + length a.0 ≡ length m = sym (length-append h a.0) ∙ ap length a.1 in
    sym (append-nil h) ∙ ap (λ l. h ++ l) (sym (nothing_left a.0 (omega arith))) ∙ a.1
  where
    nothing_left : (l : List A) → length l ≡ 0 → l ≡ []
    nothing_left [] none = refl
    nothing_left (x ∷ l) none = absurd (omega arith)

pub length_snoc : {A : Type 0} (xs : List A) (x : A) → length (xs ++ x ∷ []) ≡ suc (length xs)
length_snoc [] x = refl
length_snoc (y ∷ ys) x = ap suc (length_snoc ys x)

-- an item of the first list stands there in both together
get_left : {A : Type 0} (xs ys : List A) (k : ℕ) → k < length xs → slice_get (xs ++ ys) k ≡ slice_get xs k
get_left [] ys k l = absurd (omega arith)
get_left (x ∷ xs) ys zero l = refl
get_left (x ∷ xs) ys (suc k) l = get_left xs ys k (omega arith)

get_seam : {A : Type 0} (xs : List A) (y : A) → slice_get (xs ++ y ∷ []) (length xs) ≡ Some y
get_seam [] y = refl
get_seam (x ∷ xs) y = get_seam xs y

-- what doesn't stand in the first list is the last item
get_last : {A : Type 0} (xs : List A) (y z : A) (k : ℕ) → slice_get (xs ++ y ∷ []) k ≡ Some z → length xs ≤ k → (k ≡ length xs) × (y ≡ z)
get_last [] y z zero e l = (refl, cc e)
get_last [] y z (suc k) e l = absurd (cc e)
get_last (x ∷ xs) y z zero e l = absurd (omega arith)
get_last (x ∷ xs) y z (suc k) e l = let r = get_last xs y z k e (omega arith) in (ap suc r.0, r.1)

module _ {A R X : Type 0} (transition : X → A → X × R) where
  pub state_after_append : (s : X) (h k : List (Entry A R)) → state_after transition s (h ++ k) ≡ state_after transition (state_after transition s h) k
  state_after_append s [] k = refl
  state_after_append s (x ∷ h) k = state_after_append (transition s x.ask).0 h k

  pub state_after_snoc : (s : X) (h : List (Entry A R)) (e : Entry A R) → state_after transition s (h ++ e ∷ []) ≡ (transition (state_after transition s h) e.ask).0
  state_after_snoc s h e = state_after_append s h (e ∷ [])

  -- a history that goes on has the same states
  pub state_at_front : (s : X) (h k : List (Entry A R)) (n : ℕ) → n ≤ length h → state_at transition s (h ++ k) n ≡ state_at transition s h n
  state_at_front s h k n l = ap (state_after transition s) (take-append-le n h k l)

  pub state_at_end : (s : X) (h k : List (Entry A R)) → state_at transition s (h ++ k) (length h) ≡ state_after transition s h
  state_at_end s h k = ap (state_after transition s) (take-append_seam h k)

  pub legal_none : (s : X) → IsLegal transition s []
  legal_none s k e at = absurd (cc at)

  pub legal_snoc : (s : X) (h : List (Entry A R)) (e : Entry A R) → IsLegal transition s h → (transition (state_after transition s h) e.ask).1 ≡ e.reply → IsLegal transition s (h ++ e ∷ [])
  legal_snoc s h e legal fits k x at = dite (dec_lt k (length h))
      (λ l. ap (λ (y : X). (transition y x.ask).1) (state_at_front s h (e ∷ []) k (omega arith)) ∙ legal k x (sym (get_left h (e ∷ []) k l) ∙ at))
      (λ past. let r = get_last h e x k at (omega arith) in
      subst (λ (y : Entry A R). (transition (state_at transition s (h ++ e ∷ []) k) y.ask).1 ≡ y.reply) r.1
      (subst (λ n. (transition (state_at transition s (h ++ e ∷ []) n) e.ask).1 ≡ e.reply) (sym r.0) (ap (λ (y : X). (transition y e.ask).1) (state_at_end s h (e ∷ [])) ∙ fits)))

  -- the last reply of a legal history is the machine's
  pub legal_last : (s : X) (h : List (Entry A R)) (e : Entry A R) → IsLegal transition s (h ++ e ∷ []) → (transition (state_after transition s h) e.ask).1 ≡ e.reply
  legal_last s h e legal = ap (λ (y : X). (transition y e.ask).1) (sym (state_at_end s h (e ∷ []))) ∙ legal (length h) e (get_seam h e)

  -- the beginning of a legal history is legal
  pub legal_front : (s : X) (h k : List (Entry A R)) → IsLegal transition s (h ++ k) → IsLegal transition s h
  legal_front s h k legal n e at = let l = slice_get_within h n e at in ap (λ (y : X). (transition y e.ask).1) (sym (state_at_front s h k n (omega arith))) ∙ legal n e (get_left h k n l ∙ at)

pub times_snoc : (p : ℕ) (xs : List ℕ) (n : ℕ) → times p (xs ++ n ∷ []) ≡ (if n == p then 1 else 0) + times p xs
times_snoc p [] n = refl
times_snoc p (x ∷ xs) n = let t = times_snoc p xs n in omega (arith, t)

pub times_append : (p : ℕ) (xs ys : List ℕ) → times p (xs ++ ys) ≡ times p xs + times p ys
times_append p [] ys = omega arith
times_append p (x ∷ xs) ys = let t = times_append p xs ys in omega (arith, t)

pub once_below_none : (p : ℕ) → once_below p 0 ≡ 0
once_below_none p = grind (arith, nat_tests)

pub once_below_suc : (p n : ℕ) → once_below p (suc n) ≡ (if n == p then 1 else 0) + once_below p n
once_below_suc p n = grind (arith, nat_tests)

pub once_below_some : (p n : ℕ) → p < n → 0 < once_below p n
once_below_some p n l = grind (arith, nat_tests)

pub once_below_grows : (p m n : ℕ) → m ≤ n → once_below p m ≤ once_below p n
once_below_grows p m n l = grind (arith, nat_tests)

pub total_set : {V : Type 0} (f : V → ℕ) (views : List V) (j : ℕ) (v w : V) → get_elem? views j ≡ some v → total f (set views j w) + f v ≡ total f views + f w
total_set f [] j v w e = absurd (some-ne-none v (sym e))
total_set f (x ∷ xs) zero v w e = let same : f x ≡ f v = ap f (some-injective x v e) in omega arith
total_set f (x ∷ xs) (suc j) v w e = let t = total_set f xs j v w e in omega arith

pub total_snoc : {V : Type 0} (f : V → ℕ) (views : List V) (v : V) → total f (views ++ v ∷ []) ≡ total f views + f v
total_snoc f [] v = omega arith
total_snoc f (x ∷ xs) v = let t = total_snoc f xs v in omega arith

module _ {V : Type 0} where
  pub total_least : (g : V → ℕ) (views : List V) (j : ℕ) (v : V) → get_elem? views j ≡ some v → g v ≤ total g views
  total_least g [] j v e = absurd (some-ne-none v (sym e))
  total_least g (x ∷ xs) zero v e = let same : g x ≡ g v = ap g (some-injective x v e) in omega arith
  total_least g (x ∷ xs) (suc j) v e = let t = total_least g xs j v e in omega arith

  total_none : (g f : V → ℕ) (views : List V) → total g views ≡ 0 → ((j : ℕ) (u : V) → get_elem? views j ≡ some u → g u ≡ 0 → f u ≡ 0) → total f views ≡ 0
  total_none g f [] none each = refl
  total_none g f (x ∷ xs) none each = let a = each 0 x refl (omega arith) in let b = total_none g f xs (omega arith) (λ j u e. each (suc j) u e) in omega arith

  -- where one view has all that there is of g, and f is 0 wherever g is, it has all that there is of f
  pub total_only : (g f : V → ℕ) (views : List V) (id : ℕ) (v : V) → get_elem? views id ≡ some v → total g views ≡ g v → ((j : ℕ) (u : V) → get_elem? views j ≡ some u → g u ≡ 0 → f u ≡ 0) → total f views ≡ f v
  total_only g f [] id v at whole each = absurd (some-ne-none v (sym at))
  total_only g f (x ∷ xs) zero v at whole each = let same : g x ≡ g v = ap g (some-injective x v at) in let same' : f x ≡ f v = ap f (some-injective x v at) in
      let b = total_none g f xs (omega arith) (λ j u e. each (suc j) u e) in omega arith
  total_only g f (x ∷ xs) (suc id) v at whole each = let l = total_least g xs id v at in let a = each 0 x refl (omega arith) in
      let b = total_only g f xs id v at (omega arith) (λ j u e. each (suc j) u e) in omega arith

pub set_at : {V : Type 0} (l : List V) (i : ℕ) (v w : V) → get_elem? l i ≡ some v → get_elem? (set l i w) i ≡ some w
set_at [] i v w e = absurd (some-ne-none v (sym e))
set_at (x ∷ xs) zero v w e = refl
set_at (x ∷ xs) (suc i) v w e = set_at xs i v w e

pub own_snoc : (p n : ℕ) (xs : List ℕ) → (0 < times p xs → p < n) → 0 < times p (xs ++ n ∷ []) → p < suc n
own_snoc p n xs own there = dite (ℕ_discrete n p) (λ e. omega arith)
    (λ ne. let t = times_snoc p xs n in let t' : times p (xs ++ n ∷ []) ≡ 0 + times p xs = t ∙ ap (λ (b : Bool). (if b then 1 else 0) + times p xs) (ne_eqb n p ne) in let o = own (omega arith) in omega arith)

-- one more entry, and one more call at its position
pub count_snoc : (p : ℕ) (xs : List ℕ) (k n l : ℕ) → k ≡ n → l ≡ suc n → times p (xs ++ k ∷ []) + once_below p n ≡ times p xs + once_below p l
count_snoc p xs k n l is up = (λ i. times p (xs ++ is i ∷ []) + once_below p n) ∙ (let t = times_snoc p xs n in let o = once_below_suc p n in let s : times p (xs ++ n ∷ []) + once_below p n ≡ times p xs + once_below p (suc n) = omega arith in s) ∙ ap (λ z. times p xs + once_below p z) (sym up)

pub longer_prefix : {E : Type 0} (xs ys zs : List E) → IsPrefix xs zs → IsPrefix ys zs → IsPrefix (longer xs ys) zs
longer_prefix xs ys zs p q = by_test (nat_lt (length xs) (length ys))
  where
    by_test : (b : Bool) → IsPrefix (if b then ys else xs) zs
    by_test true = q
    by_test false = p

pub longer_first : {E : Type 0} (xs ys : List E) → length xs ≤ length (longer xs ys)
longer_first xs ys = by_test (nat_lt (length xs) (length ys)) refl
  where
    by_test : (b : Bool) → nat_lt (length xs) (length ys) ≡ b → length xs ≤ length (if b then ys else xs)
    by_test true e = grind (arith, nat_tests)
    by_test false e = omega arith

pub longer_second : {E : Type 0} (xs ys : List E) → length ys ≤ length (longer xs ys)
longer_second xs ys = by_test (nat_lt (length xs) (length ys)) refl
  where
    by_test : (b : Bool) → nat_lt (length xs) (length ys) ≡ b → length ys ≤ length (if b then ys else xs)
    by_test true e = omega arith
    by_test false e = grind (arith, nat_tests)
