-- The steps of a walk over the chart.
use Rattle.std.proofs.Common.{eqb, ◌≡◌, ◌+◌, ◌≤◌, ◌<◌, ℕ, Bool, true, false, cond, List, [], ◌∷◌, ◌++◌, length, take, get_or, Contains, refl, sym, ap, ◌∙◌, subst, ⊎_elim, arith}
use Rattle.std.specs.Bool.{Decides}
use Rattle.std.specs.List.{All, list_any}
use Rattle.std.proofs.lemmas.Bool.{cases_lt, eq-eqb, eqb-true, true≢false}
use Rattle.std.proofs.lemmas.List.{append_assoc, get_or-replicate, get_or_past, take-append-le, take_more, take_all, length-append, append-nil, length-replicate}
use Rattle.std.proofs.lemmas.List.Elements.{All-nil, All-append, All-push, All-weaker, All-get_or, All-contains, All-same, Contains-append_left, Contains-append_right}
use Rattle.std.proofs.lemmas.List.Folds.{sum_by-replicate}
use Rattle.std.proofs.Math.ListN.{replicate}
use Rattle.rg_roles.specs.Places.{AreBounded, AreReached, IsGrown, IsMarked, IsWalked, Reaches, by_step, by_steps}
use Rattle.rg_base.proofs.Lists.{any_holds, any_from, Contains-same}

-- where all of a list is contained in another, it is contained in a longer one
pub contained_on : (ks old more new : List ℕ) → new ≡ old ++ more → All (Contains old) ks → All (Contains new) ks
contained_on ks old more new e a = All-weaker (Contains old) (Contains new) (λ k c. subst (λ l. Contains l k) (sym e) (Contains-append_left old more k c)) ks a

pub grown_more : (ps qs a b c : List ℕ) → IsGrown ps a b → IsGrown qs b c → IsGrown (ps ++ qs) a c
grown_more ps qs a b c g h = record {
  more = (
    g.more.0 ++ h.more.0,
    h.more.1 ∙ ap (λ l. l ++ h.more.0) g.more.1 ∙ append_assoc a g.more.0 h.more.0,
    All-append (Contains (ps ++ qs)) g.more.0 h.more.0
        (All-weaker (Contains ps) (Contains (ps ++ qs)) (λ k. Contains-append_left ps qs k) g.more.0 g.more.2)
        (All-weaker (Contains qs) (Contains (ps ++ qs)) (λ k. Contains-append_right ps qs k) h.more.0 h.more.2),
  );
  all = All-append (Contains c) ps qs (contained_on ps b h.more.0 c h.more.1 g.all) h.all;
}

pub grown_none : (a : List ℕ) → IsGrown [] a a
grown_none a = record { more = ([], sym (append-nil a), All-nil (Contains [])); all = All-nil (Contains a) }

pub bounded_at : (chart : List (List ℕ)) → AreBounded chart → (p : ℕ) → All (λ k. k < length chart) (get_or chart p [])
bounded_at chart bounded p = ⊎_elim
    (λ l. All-get_or (All (λ k. k < length chart)) chart p [] l bounded)
    (λ past. All-same (λ k. k < length chart) (get_or chart p []) [] (get_or_past chart p [] past) (All-nil (λ k. k < length chart)))
    (cases_lt p (length chart))

pub marked_none : (n : ℕ) → IsMarked [] (replicate n false)
marked_none n = record {
  marks = All-nil (λ k. get_or (replicate n false) k false ≡ true);
  listed = λ k e. absurd (true≢false (sym e ∙ unmarked k));
  counted = sym (sum_by-replicate (λ (b : Bool). cond b 1 0) n false ∙ omega arith);
} where
  unmarked : (k : ℕ) → get_or (replicate n false) k false ≡ false
  unmarked k = ⊎_elim (λ l. get_or-replicate n k false false l)
      (λ past. get_or_past (replicate n false) k false (let count = length-replicate n false in omega arith))
      (cases_lt k n)

pub walk_begins : (chart : List (List ℕ)) (from : ℕ) (old found : List ℕ) (seen : List Bool) → old ≡ [] → length seen ≡ length chart
    → IsMarked found seen → IsGrown (get_or chart from []) old found → IsWalked chart from 0 found seen
walk_begins chart from old found seen none wide marked g = record {
  within = omega arith;
  wide = wide;
  marked = marked;
  sound = All-weaker (Contains (get_or chart from [])) (Reaches chart from) (λ k c. by_step k c) found
      (All-same (Contains (get_or chart from [])) found g.more.0 (g.more.1 ∙ ap (λ l. l ++ g.more.0) none) g.more.2);
  first = g.all;
  closed = All-nil (λ p. All (Contains found) (get_or chart p []));
}

pub walk_goes_on : (chart : List (List ℕ)) (from looked place : ℕ) (found new : List ℕ) (seen seen_new : List Bool) → IsWalked chart from looked found seen
    → looked < length found → place ≡ get_or found looked 0 → length seen_new ≡ length chart
    → IsMarked new seen_new → IsGrown (get_or chart place []) found new → IsWalked chart from (looked + 1) new seen_new
walk_goes_on chart from looked place found new seen seen_new w within at wide marked g = record {
  within = (let longer : length new ≡ length found + length g.more.0 = ap length g.more.1 ∙ length-append found g.more.0 in omega arith);
  wide = wide;
  marked = marked;
  sound = All-same (Reaches chart from) new (found ++ g.more.0) g.more.1
      (All-append (Reaches chart from) found g.more.0 w.sound
      (All-weaker (Contains (get_or chart place [])) (Reaches chart from) (λ k c. by_steps place k reached c) g.more.0 g.more.2));
  first = contained_on (get_or chart from []) found g.more.0 new g.more.1 w.first;
  closed = All-same (λ p. All (Contains new) (get_or chart p [])) (take (looked + 1) new) (take looked found ++ place ∷ []) front
      (All-push (λ p. All (Contains new) (get_or chart p [])) (take looked found) place
      (All-weaker (λ p. All (Contains found) (get_or chart p [])) (λ p. All (Contains new) (get_or chart p []))
      (λ p. contained_on (get_or chart p []) found g.more.0 new g.more.1) (take looked found) w.closed)
      g.all);
} where
  reached : Reaches chart from place
  reached = subst (Reaches chart from) (sym at) (All-get_or (Reaches chart from) found looked 0 within w.sound)

  front : take (looked + 1) new ≡ take looked found ++ place ∷ []
  front = ap (take (looked + 1)) g.more.1 ∙ take-append-le (looked + 1) found g.more.0 (omega arith)
      ∙ take_more found looked 0 within ∙ ap (λ k. take looked found ++ k ∷ []) (sym at)

pub walk_ends : (chart : List (List ℕ)) (from looked : ℕ) (found : List ℕ) (seen : List Bool) → IsWalked chart from looked found seen
    → length found ≤ looked → AreReached chart from found
walk_ends chart from looked found seen w past = record {
  sound = w.sound;
  first = w.first;
  closed = subst (All (λ p. All (Contains found) (get_or chart p []))) (take_all looked found past) w.closed;
}

-- what steps lead to is found
pub reached_in : (chart : List (List ℕ)) (from : ℕ) (found : List ℕ) → AreReached chart from found → (k : ℕ) → Reaches chart from k → Contains found k
reached_in chart from found a k (by_step _ c) = All-contains (Contains found) (get_or chart from []) k a.first c
reached_in chart from found a k (by_steps p _ r c) = All-contains (Contains found) (get_or chart p []) k
    (All-contains (λ q. All (Contains found) (get_or chart q [])) found p a.closed (reached_in chart from found a p r)) c

pub back_found : (chart : List (List ℕ)) (place : ℕ) (found : List ℕ) → AreReached chart place found → Decides (list_any (λ k. eqb k place) found) (Reaches chart place place)
back_found chart place found a = (
  λ h. let at = any_holds (λ k. eqb k place) found h in
      All-contains (Reaches chart place) found place a.sound (Contains-same found at.0 place (eqb-true at.0 place at.2) at.1),
  λ r. any_from (λ k. eqb k place) found place (reached_in chart place found a place r) (eq-eqb place place refl),
)

pub reached_bounded : (chart : List (List ℕ)) → AreBounded chart → (from k : ℕ) → Reaches chart from k → k < length chart
reached_bounded chart bounded from k (by_step _ c) = All-contains (λ j. j < length chart) (get_or chart from []) k (bounded_at chart bounded from) c
reached_bounded chart bounded from k (by_steps p _ r c) = All-contains (λ j. j < length chart) (get_or chart p []) k (bounded_at chart bounded p) c
