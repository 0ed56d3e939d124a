-- How many publications there are at most.
use Rattle.std.proofs.Common.{◌≡◌, ℕ, zero, suc, ◌+◌, ◌<◌, ◌≤◌, List, length, map, Some, slice_get, inl, inr, refl, arith}
use Rattle.std.proofs.lemmas.List.{length-map}
use Rattle.std.proofs.lemmas.Option.{slice_get_cases, slice_get_within}
use Rattle.rg_turn.specs.declared.rule.Entry.{Entry}
use Rattle.rg_cmd.specs.declared.ask.AdminReply.{AdminReply}
use Rattle.rg_cmd.specs.declared.ask.Ask.{Ask}
use Rattle.rg_admin_laws.specs.Logs.{Administration}
use Rattle.rg_admin_laws.specs.Machine.{administration}
use Rattle.rg_admin_laws.specs.World.{Parts}
use Rattle.rg_admin_laws.specs.World as world
use Rattle.rg_publish.specs.declared.history.Publication.{Publication}
use Rattle.rg_session.specs.Right.{AreRightFor, in_world}

stands : {A : Type 0} (xs : List A) (k : ℕ) → k < length xs → (x : A) × (slice_get xs k ≡ Some x)
stands xs k lt = elim ((slice_get_cases xs k).1) [ inl there ↦ (there.0, there.2) | inr past ↦ absurd (omega (arith, lt, past.0)) ]

module _ (P : Parts) (s : P.State) (h : world.History P) (ps : List (world.Publication P)) (right : world.AreRight P s h ps) where
  -- each publication is at most as early as its place
  late : (k : ℕ) (p : world.Publication P) → slice_get ps k ≡ Some p → k ≤ p.seq
  late zero p there = omega arith
  late (suc k) p there =
      let within = slice_get_within ps (suc k) p there in
      let before = stands ps k (omega (arith, within)) in
      let up = right.rising k before.0 p before.1 there in
      let low = late k before.0 before.1 in omega (arith, up, low)

  few : length ps ≤ length h + 1
  few = cases (length ps) refl
    where
      cases : (n : ℕ) → length ps ≡ n → length ps ≤ length h + 1
      cases zero is = omega (arith, is)
      cases (suc zero) is = omega (arith, is)
      cases (suc (suc n)) is =
          let last = stands ps (suc n) (omega (arith, is)) in
          let within = right.within n last.0 last.1 in
          let low = late (suc n) last.0 last.1 in omega (arith, is, within, low)

-- right publications are at most one more than the entries
pub at_most : (start : Administration) (h : List (Entry Ask AdminReply)) (list : List Publication) → AreRightFor start h list → length list ≤ length h + 1
unfolding AreRightFor
at_most start h list right =
    let plugin = start.state.plugin in
    let low = few (administration plugin) start h (map (in_world plugin) list) right in
    let many = length-map list (in_world plugin) in omega (arith, low, many)
