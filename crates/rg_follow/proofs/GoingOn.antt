-- For proofs alone: of which moments the facts are at which two rounds settle, one after the other.
use Rattle.std.proofs.Common.{arith, ◌≡◌, ◌≤◌, ℕ, List, length, Option, Some, None, [], ◌∷◌, refl, subst}
use Rattle.rg_turn.specs.History.{IsLegal, state_at}
use Rattle.rg_facts.specs.declared.facts.Facts.{Facts}
use Rattle.rg_cmd.specs.declared.download.Download.{Download}
use Rattle.rg_admin_laws.specs.Laws.{AreNoLess, IsNotDeleted}
use Rattle.rg_admin_laws.specs.Leading.{led}
use Rattle.rg_admin_laws.specs.Logs.{Administration}
use Rattle.rg_admin_laws.specs.Starts.{IsStart}
use Rattle.rg_admin_laws.specs.Steps.{step}
use Rattle.rg_admin_laws.specs.Views.{view}
use Rattle.rg_follow.specs.Answering.{AreAnswered, AreAnsweredAnew, IsRound, WasSeen}
use Rattle.rg_follow.specs.Rounds.{Settles, SettlesAnew}
use Rattle.rg_follow.proofs.Settled.{H}

-- the laws that are called
pub record Laws : Type 0 where
  pub on : (start : Administration) (h : H) → IsStart start → IsLegal step start h → (service : List ℕ) (j : ℕ) → IsNotDeleted h j (length h) service
      → (had : Facts) → view (state_at step start h j) service ≡ Some had → (first last : ℕ) → j ≤ first → (ds : List Download) → AreAnswered start h service had ds first last
      → (after : Facts) → Settles had ds after → (n : ℕ) × (first ≤ n) × (n ≤ last) × (view (state_at step start h n) service ≡ Some after)
  pub anew : (start : Administration) (h : H) → IsStart start → IsLegal step start h → (service : List ℕ) (first last : ℕ) → IsNotDeleted h first (length h) service
      → (ds : List Download) → AreAnsweredAnew start h service ds first last → (after : Facts) → SettlesAnew service ds after
      → (n : ℕ) × (first ≤ n) × (n ≤ last) × (view (state_at step start h n) service ≡ Some after)
  pub rise : (start : Administration) (h : H) → IsStart start → IsLegal step start h → (j k : ℕ) → j ≤ k → k ≤ length h → (service : List ℕ) → IsNotDeleted h j k service
      → (before after : Facts) → view (state_at step start h j) service ≡ Some before → view (state_at step start h k) service ≡ Some after → AreNoLess before after

module _ (laws : Laws) (start : Administration) (h : H) (starts : IsStart start) (legal : IsLegal step start h)
    (service : List ℕ) (j : ℕ) (kept : IsNotDeleted h j (length h) service) where
  -- of which moment it is what a round settles at
  one : (had : Option Facts) → WasSeen start h service j had → (after : Facts) (first last : ℕ) → j ≤ first → IsRound start h service had after first last
      → (n : ℕ) × (first ≤ n) × (n ≤ last) × (view (state_at step start h n) service ≡ Some after)
  one None seen after first last from round =
      laws.anew start h starts legal service first last (λ n e x y there. kept n e (omega (arith, from, x)) y there) round.downloads round.answered after round.settles
  one (Some had) seen after first last from round =
      laws.on start h starts legal service j kept had (seen had refl) first last from round.downloads round.answered after round.settles

  -- a history goes on at least as far as the last answer
  within : (ds : List Download) (facts : Facts) (first last : ℕ) → AreAnswered start h service facts ds first last → (after : Facts) → Settles facts ds after → last ≤ length h
  within [] facts first last answers after settles = absurd settles
  within (d ∷ []) facts first last answers after settles = subst (λ k. k ≤ length h) answers.2 answers.1.within
  within (d ∷ e ∷ ds) facts first last answers after settles = within (e ∷ ds) (led facts d) answers.0 last answers.2 after settles.2

  module _ (had : Option Facts) (seen : WasSeen start h service j had) (after later : Facts) (first last again end : ℕ) (from : j ≤ first)
      (earlier : IsRound start h service had after first last) (order : last ≤ again) (round : IsRound start h service (Some after) later again end) where
    pub never_back : (n : ℕ) × (k : ℕ) × (first ≤ n) × (n ≤ last) × (n ≤ k) × (again ≤ k) × (k ≤ end)
        × (view (state_at step start h n) service ≡ Some after) × (view (state_at step start h k) service ≡ Some later)
    never_back =
        let a = one had seen after first last from earlier in
        let b = laws.on start h starts legal service a.0 (λ n e x y there. kept n e (omega (arith, from, a.1, x)) y there) after a.3
        again end (omega (arith, a.2, order)) round.downloads round.answered later round.settles in
        (a.0, b.0, a.1, a.2, omega (arith, a.2, order, b.1), b.1, b.2, a.3, b.3)

    pub no_version_falls : AreNoLess after later
    no_version_falls =
        let b = never_back in
        let top = within round.downloads after again end round.answered later round.settles in
        laws.rise start h starts legal b.0 b.1 b.4 (omega (arith, b.6, top)) service
        (λ n e x y there. kept n e (omega (arith, from, b.2, x)) (omega (arith, y, b.6, top)) there) after later b.7 b.8
