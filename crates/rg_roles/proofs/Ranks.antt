-- Ranks that no step raises: where every step from a place leads to a lower one, nothing leads back to it.
use Rattle.std.proofs.Common.{◌≡◌, ◌<◌, ◌≤◌, ℕ, true, List, [], length, get_or, nat_le, nat_lt, Contains, ⊎_elim, arith, subst}
use Rattle.std.proofs.lemmas.Bool.{cases_lt}
use Rattle.std.proofs.lemmas.Bool.Decides.{nat_tests}
use Rattle.std.proofs.lemmas.List.{get_or_past}
use Rattle.rg_base.proofs.Lists.{Contains-none, all_holds}
use Rattle.rg_roles.specs.Places.{NeverRises, Reaches, by_step, by_steps, falls}

module _ (chart : List (List ℕ)) (ranks : List ℕ) where
  abbrev rank : ℕ → ℕ
  rank k = get_or ranks k 0

  lower : (place k : ℕ) → falls chart ranks place ≡ true → Contains (get_or chart place []) k → rank k < rank place
  lower place k f c = let h = all_holds (λ j. nat_lt (rank j) (rank place)) (get_or chart place []) f k c in grind (arith, nat_tests)

  not_higher : NeverRises chart ranks → (place k : ℕ) → Contains (get_or chart place []) k → rank k ≤ rank place
  not_higher never place k c = ⊎_elim
      (λ l. let h = all_holds (λ j. nat_le (rank j) (rank place)) (get_or chart place []) (never place l) k c in grind (arith, nat_tests))
      (λ past. absurd (Contains-none k (subst (λ ks. Contains ks k) (get_or_past chart place [] past) c)))
      (cases_lt place (length chart))

  below : NeverRises chart ranks → (place k : ℕ) → falls chart ranks place ≡ true → Reaches chart place k → rank k < rank place
  below never place k f (by_step _ c) = lower place k f c
  below never place k f (by_steps p _ r c) = let h = below never place p f r in let g = not_higher never p k c in omega arith

  pub never_back : NeverRises chart ranks → (place : ℕ) → falls chart ranks place ≡ true → ¬ (Reaches chart place place)
  never_back never place f r = let h = below never place place f r in omega arith
