-- What passes know once they have learnt all that was published.
use Rattle.std.proofs.Common.{◌≡◌, ℕ, zero, suc, ◌+◌, ◌<◌, ◌≤◌, All, Bool, true, false, nat_lt, if◌then◌else◌, List, [], ◌∷◌, ◌++◌, length, Some, None, slice_index_or, option_map, refl, sym, ap, subst, arith, length-append}
use Rattle.std.specs.List.{find}
use Rattle.std.specs.Prelude.{MatchBool}
use Rattle.std.proofs.lemmas.Bool.Decides.{nat_tests}
use mathlib.Core.List.{IsPrefix}
use Rattle.rg_publish.specs.Passes.{Seeing}
use Rattle.rg_publish.specs.Publications.{Published}
use Rattle.rg_publish.proofs.Lists.{prefix_whole, prefix_self}
use Rattle.rg_session.specs.Closing.{IsOwn, ahead, ahead_of, is_ahead}

-- what was learnt, where the pass had no more
pub settled : {A : Type 0} (old told new : List A) → MatchBool (nat_lt (length old) (length told)) (new ≡ told) (new ≡ old) → IsPrefix old new → IsPrefix told new → length old ≤ length told → IsPrefix old told
settled {A} old told new which own theirs short = cases (nat_lt (length old) (length told)) refl which
  where
    cases : (b : Bool) → nat_lt (length old) (length told) ≡ b → MatchBool b (new ≡ told) (new ≡ old) → IsPrefix old told
    cases true is same = subst (λ (l : List A). IsPrefix old l) same own
    cases false is same =
        let long : length told ≤ length old = grind (arith, nat_tests) in
        let whole : told ≡ old = prefix_whole told old (subst (λ (l : List A). IsPrefix told l) same theirs) short in
        subst (λ (l : List A). IsPrefix old l) (sym whole) (prefix_self old)

none_le : (n : ℕ) (ps : List Seeing) → ahead_of n ps ≡ None → (k : ℕ) (d : Seeing) → k < length ps → length (slice_index_or ps k d).list ≤ n
none_le n [] is k d lt = absurd (omega arith)
none_le n (p ∷ ps) is k d lt = cases (λ none j lt'. none_le n ps none j d lt') (is_ahead n p) refl is k lt
  where
    cases : (ahead_of n ps ≡ None → (j : ℕ) → j < length ps → length (slice_index_or ps j d).list ≤ n) → (b : Bool) → nat_lt n (length p.list) ≡ b
        → option_map (ahead n) (if b then Some p else find (is_ahead n) ps) ≡ None → (k : ℕ) → k < length (p ∷ ps) → length (slice_index_or (p ∷ ps) k d).list ≤ n
    cases later true eq none k lt = absurd (cc none)
    cases later false eq none zero lt = grind (arith, nat_tests)
    cases later false eq none (suc k) lt = later none k (omega arith)

-- where no pass has seen more, each one is the publisher's
pub none_ahead : (l : Published) (ps : List Seeing) → ahead_of (length l.list) ps ≡ None → All (IsOwn l) ps → All (λ (p : Seeing). (length p.list ≤ length l.list) × (p.book ≡ l.book)) ps
none_ahead l ps is own k d lt = let le = none_le (length l.list) ps is k d lt in (le, own k d lt le)

at_front : {A : Type 0} (xs ys : List A) (k : ℕ) (d : A) → k < length xs → slice_index_or (xs ++ ys) k d ≡ slice_index_or xs k d
at_front [] ys k d lt = absurd (omega arith)
at_front (x ∷ xs) ys zero d lt = refl
at_front (x ∷ xs) ys (suc k) d lt = at_front xs ys k d (omega arith)

pub all_front : {A : Type 0} (P : A → Type 0) (xs ys : List A) → All P (xs ++ ys) → All P xs
all_front P xs ys all k d lt = subst P (at_front xs ys k d lt) (all k d (omega (arith, length-append xs ys)))

pub nothing : {A : Type 0} (xs : List A) → length xs ≡ 0 → xs ≡ []
nothing [] is = refl
nothing (x ∷ xs) is = absurd (omega (arith, is))
