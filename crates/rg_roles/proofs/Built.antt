-- Rows without a fault, and what is at fault.
use Rattle.std.proofs.Common.{◌≡◌, ◌<◌, ◌≤◌, ◌^◌, ℕ, List, length, Some, None, option_map, ap, sym, ◌∙◌, subst, arith}
use Rattle.rg_base.specs.Names.{first_repeat}
use Rattle.rg_base.proofs.Firsts.{none_first, some_first}
use Rattle.rg_roles.specs.declared.fault.RoleFault.TheVariants.{Cycle}
use Rattle.rg_roles.specs.declared.row.RoleRow.{RoleRow}
use Rattle.rg_roles.specs.Faults.{fault_of, first_row, is_on_cycle, names_absent, repeats}
use Rattle.rg_roles.specs.Members.{names_of}
use Rattle.rg_roles.specs.Places.{IsAllKnown, IsChart, IsExpanded, IsFirstOnCycle, Reaches, words_at}
use Rattle.rg_roles.proofs.Charted.{chart_count, known_leads, off_cycle, on_cycle}
use Rattle.rg_roles.proofs.Ranked.{cycle_last}
use Rattle.rg_roles.proofs.Rows.{names_count}

-- the first name that stands before it is that of the first row of which the name does
pub repeat_is : (rows : List RoleRow) → first_repeat (names_of rows) ≡ first_row repeats rows
repeat_is rows = rw names_count refl_of where
  refl_of : first_row repeats rows ≡ first_row repeats rows
  refl_of = λ i. first_row repeats rows

module _ (rows : List RoleRow) (chart : List (List ℕ)) (charted : IsChart rows chart) (distinct : first_row repeats rows ≡ None) where
  within : (k : ℕ) → k < length rows → k < length chart
  within k l = subst (λ n. k < n) (sym (chart_count rows chart charted)) l

  pub is_cycle : first_row names_absent rows ≡ None → (k : ℕ) → IsFirstOnCycle chart k → fault_of rows ≡ Some (Cycle k)
  is_cycle known k f =
      let lk = subst (λ n. k < n) (chart_count rows chart charted) f.within in
      cycle_last rows distinct known
      ∙ ap (option_map Cycle) (some_first (is_on_cycle rows) (length rows) k lk
      (on_cycle rows chart charted distinct k lk f.back)
      (λ j below. off_cycle rows chart charted distinct j (omega arith) (f.first j below)))

  pub no_fault : first_row names_absent rows ≡ None → ((k : ℕ) → k < length chart → ¬ (Reaches chart k k)) → fault_of rows ≡ None
  no_fault known away = cycle_last rows distinct known
      ∙ ap (option_map Cycle) (none_first (is_on_cycle rows) (length rows) (λ j l. off_cycle rows chart charted distinct j l (away j (within j l))))

  pub is_expanded : length rows < 2 ^ 32 → (reach : List _) → IsAllKnown chart reach → IsExpanded rows reach
  is_expanded fits reach known place l =
      let k = known place (within place l) in
      let most : length (words_at reach place) ≤ _ = k.within in
      let count = chart_count rows chart charted in
      (omega arith, known_leads rows chart charted distinct place l (words_at reach place) k)
