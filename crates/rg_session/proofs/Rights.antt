-- How lists of publications stay right.
use Rattle.std.proofs.Common.{◌≡◌, ◌⊎◌, ◌∙◌, ℕ, zero, suc, ◌+◌, ◌-◌, ◌<◌, ◌≤◌, List, [], ◌∷◌, ◌++◌, length, map, Some, slice_get, inl, inr, refl, ap, sym, subst, arith, option_map}
use Rattle.std.proofs.lemmas.List.{length-map, map-append}
use Rattle.std.proofs.lemmas.Option.{none-some, same_Some, slice_get-map, slice_get_within}
use mathlib.Core.List.{IsPrefix}
use Rattle.rg_turn.specs.History.{state_at}
use Rattle.rg_turn.specs.declared.rule.Entry.{Entry}
use Rattle.rg_facts.specs.declared.facts.Facts.{Facts}
use Rattle.rg_cmd.specs.declared.ask.AdminReply.{AdminReply}
use Rattle.rg_cmd.specs.declared.ask.Ask.{Ask}
use Rattle.rg_admin_laws.specs.Logs.{Administration}
use Rattle.rg_admin_laws.specs.Machine.{administration}
use Rattle.rg_admin_laws.specs.Steps.{step}
use Rattle.rg_admin_laws.specs.Views.{view}
use Rattle.rg_admin_laws.specs.World.{Parts}
use Rattle.rg_admin_laws.specs.World as world
use Rattle.rg_admin_laws.proofs.Happening.{seq_low}
use Rattle.rg_publish.specs.Publications.{publication}
use Rattle.rg_publish.specs.declared.history.Publication.{Publication}
use Rattle.rg_session.specs.Right.{AreRightFor, in_world}

abbrev pub H : Type 0
H = List (Entry Ask AdminReply)

-- an item of a list that has grown by one is an old one or the last
pub at_more : {X : Type 0} (xs : List X) (x y : X) (n : ℕ) → slice_get (xs ++ x ∷ []) n ≡ Some y → (slice_get xs n ≡ Some y) ⊎ ((n ≡ length xs) × (x ≡ y))
at_more [] x y zero h = inr (refl, same_Some x y h)
at_more [] x y (suc n) h = absurd (none-some y h)
at_more (z ∷ xs) x y zero h = inl h
at_more (z ∷ xs) x y (suc n) h = elim (at_more xs x y n h) [ inl there ↦ inl there | inr last ↦ inr (ap suc last.0, last.1) ]

at_only : {X : Type 0} (x y : X) (n : ℕ) → slice_get (x ∷ []) n ≡ Some y → (n ≡ 0) × (x ≡ y)
at_only x y zero h = (refl, same_Some x y h)
at_only x y (suc n) h = absurd (none-some y h)

-- ---- one publication more

module _ (P : Parts) (s : P.State) (h : world.History P) (ps : List (world.Publication P)) (right : world.AreRight P s h ps)
    (newest : world.Publication P) (n : ℕ) (f : P.Facts) (last : slice_get ps (length ps - 1) ≡ Some newest) (up : newest.seq < n) (low : n < length h)
    (seen : P.view (state_at P.transition s h n) ≡ Some f) where
  abbrev new : world.Publication P
  new = record { serial = length ps + 1; seq = n; facts = f }

  some_there : length ps - 1 < length ps
  some_there = slice_get_within ps (length ps - 1) newest last

  right_more : world.AreRight P s h (ps ++ new ∷ [])
  right_more = record {
    numbered = λ i p is. elim (at_more ps new p i is) [
      | inl old ↦ right.numbered i p old
      | inr end ↦ subst (λ (q : world.Publication P). q.serial ≡ i + 1) end.1 (omega (arith, end.0))
    ];
    first = λ p is. elim (at_more ps new p 0 is) [ inl old ↦ right.first p old | inr end ↦ absurd (omega (arith, end.0, some_there)) ];
    rising = λ i p q is after. elim (at_more ps new q (suc i) after) [
      | inl old ↦ elim (at_more ps new p i is) [ inl before ↦ right.rising i p q before old | inr end ↦ absurd (let within = slice_get_within ps (suc i) q old in omega (arith, end.0, within)) ]
      | inr end ↦ elim (at_more ps new p i is) [
        | inl before ↦
            let place : i ≡ length ps - 1 = omega (arith, end.0) in
            let same : newest ≡ p = same_Some newest p (sym last ∙ ap (slice_get ps) (sym place) ∙ before) in
            subst (λ (y : world.Publication P). p.seq < y.seq) end.1 (subst (λ (y : world.Publication P). y.seq < n) same up)
        | inr past ↦ absurd (omega (arith, end.0, past.0))
      ]
    ];
    within = λ i p is. elim (at_more ps new p (suc i) is) [ inl old ↦ right.within i p old | inr end ↦ subst (λ (y : world.Publication P). y.seq < length h) end.1 low ];
    viewed = λ i p is. elim (at_more ps new p i is) [
      | inl old ↦ right.viewed i p old
      | inr end ↦ subst (λ (y : world.Publication P). P.view (state_at P.transition s h y.seq) ≡ Some y.facts) end.1 seen
    ];
  }

-- ---- a publisher's list

module _ (start : Administration) where
  abbrev P : Parts
  P = administration start.state.plugin

  abbrev shown : Publication → world.Publication P
  shown p = in_world start.state.plugin p

  in_map : (list : List Publication) (k : ℕ) (p : Publication) → slice_get list k ≡ Some p → slice_get (map shown list) k ≡ Some (shown p)
  in_map list k p there = slice_get-map shown list k ∙ ap (option_map shown) there

  pub right_low : (h : H) (list : List Publication) → AreRightFor start h list → (k : ℕ) (p : Publication) → slice_get list k ≡ Some p → p.seq ≤ length h
  unfolding AreRightFor
  right_low h list right k p there = seq_low P start h (map shown list) right k (shown p) (in_map list k p there)

  pub right_viewed : (h : H) (list : List Publication) → AreRightFor start h list → (k : ℕ) (p : Publication) → slice_get list k ≡ Some p
      → view (state_at step start h p.seq) start.state.plugin ≡ Some p.facts
  unfolding AreRightFor
  right_viewed h list right k p there = right.viewed k (shown p) (in_map list k p there)

  pub one_more : (h : H) (list : List Publication) (newest : Publication) (n : ℕ) (facts : Facts) → AreRightFor start h list → slice_get list (length list - 1) ≡ Some newest
      → newest.seq < n → n < length h → view (state_at step start h n) start.state.plugin ≡ Some facts
      → AreRightFor start h (list ++ publication (length list + 1) n facts ∷ [])
  unfolding AreRightFor
  one_more h list newest n facts right last up low seen =
      let many : length (map shown list) ≡ length list = length-map list shown in
      let at : slice_get (map shown list) (length (map shown list) - 1) ≡ Some (shown newest) = ap (λ k. slice_get (map shown list) (k - 1)) many ∙ in_map list (length list - 1) newest last in
      subst (λ ps. world.AreRight P start h ps)
      (ap (λ k. map shown list ++ shown (publication (k + 1) n facts) ∷ []) many ∙ sym (map-append shown list (publication (length list + 1) n facts ∷ [])))
      (right_more P start h (map shown list) right (shown newest) n facts at up low seen)

  pub opens : (facts : Facts) → view start start.state.plugin ≡ Some facts → (h : H) → AreRightFor start h (publication 1 0 facts ∷ [])
  unfolding AreRightFor
  opens facts seen h =
      let only : world.Publication P = shown (publication 1 0 facts) in record {
        numbered = λ i p is. let at = at_only only p i is in subst (λ (q : world.Publication P). q.serial ≡ i + 1) at.1 (omega (arith, at.0));
        first = λ p is. let at = at_only only p 0 is in ap (λ (q : world.Publication P). q.seq) (sym at.1);
        rising = λ i p q is after. let at = at_only only q (suc i) after in absurd (omega (arith, at.0));
        within = λ i p is. let at = at_only only p (suc i) is in absurd (omega (arith, at.0));
        viewed = λ i p is. let at = at_only only p i is in subst (λ (q : world.Publication P). view (state_at step start h q.seq) start.state.plugin ≡ Some q.facts) at.1 seen;
      }

-- what the machine's law says of a history that goes on
abbrev pub StayRight : Type 0
StayRight = (plugin : List ℕ) (start : Administration) (h more : H) (ps : List (world.Publication (administration plugin)))
    → world.AreRight (administration plugin) start h ps → world.AreRight (administration plugin) start (h ++ more) ps

pub stays_right : StayRight → (start : Administration) (h later : H) (list : List Publication) → IsPrefix h later → AreRightFor start h list → AreRightFor start later list
unfolding AreRightFor
stays_right law start h later list front right =
    subst (λ z. world.AreRight (administration start.state.plugin) start z (map (in_world start.state.plugin) list)) front.1
    (law start.state.plugin start h front.0 (map (in_world start.state.plugin) list) right)
