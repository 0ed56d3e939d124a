-- The faults in their order.
use Rattle.std.proofs.Common.{◌≡◌, ◌↔◌, ℕ, Bool, length, List, Option, Some, None, option_map, refl, ap, inl, inr, ⊎_elim}
use Rattle.std.specs.Option.{option_or}
use Rattle.rg_roles.specs.declared.fault.RoleFault.{RoleFault}
use Rattle.rg_roles.specs.declared.fault.RoleFault.TheVariants.{Duplicate, Unknown, Cycle}
use Rattle.rg_roles.specs.declared.row.RoleRow.{RoleRow}
use Rattle.rg_roles.specs.Faults.{IsFirstRow, NoRow, IsRefusal, fault_of, first_row, is_on_cycle, names_absent, repeats}
use Rattle.rg_base.proofs.Firsts.{first_none, first_some, none_first, some_first}

refused_by : (a b : Option RoleFault) → ((e : RoleFault) → a ≡ Some e → b ≡ Some e) → (e : RoleFault) → IsRefusal a e → IsRefusal b e
refused_by a b on e r = ⊎_elim (λ memory. inl memory) (λ found. inr (on e found)) r

module _ (rows : List RoleRow) where
  pub duplicate_first : (e : RoleFault) → IsRefusal (option_map Duplicate (first_row repeats rows)) e → IsRefusal (fault_of rows) e
  unfolding fault_of
  duplicate_first = refused_by (option_map Duplicate (first_row repeats rows)) (fault_of rows)
      (λ e found. ap (λ o. option_or o (option_or (option_map Unknown (first_row names_absent rows)) (option_map Cycle (first_row is_on_cycle rows)))) found)

  pub unknown_next : first_row repeats rows ≡ None → (e : RoleFault) → IsRefusal (option_map Unknown (first_row names_absent rows)) e → IsRefusal (fault_of rows) e
  unfolding fault_of
  unknown_next distinct = refused_by (option_map Unknown (first_row names_absent rows)) (fault_of rows)
      (λ e found. (λ i. option_or (option_map Duplicate (distinct i)) (option_or (found i) (option_map Cycle (first_row is_on_cycle rows)))))

  pub cycle_last : first_row repeats rows ≡ None → first_row names_absent rows ≡ None → fault_of rows ≡ option_map Cycle (first_row is_on_cycle rows)
  unfolding fault_of
  cycle_last distinct known =
      λ i. option_or (option_map Duplicate (distinct i)) (option_or (option_map Unknown (known i)) (option_map Cycle (first_row is_on_cycle rows)))

first_of : (test : List RoleRow → ℕ → Bool) (rows : List RoleRow) (place : ℕ) → first_row test rows ≡ Some place → IsFirstRow test rows place
first_of test rows place e = let f = first_some (test rows) (length rows) place e in record { within = f.0; passes = f.1; first = f.2 }

of_first : (test : List RoleRow → ℕ → Bool) (rows : List RoleRow) (place : ℕ) → IsFirstRow test rows place → first_row test rows ≡ Some place
of_first test rows place f = some_first (test rows) (length rows) place f.within f.passes f.first

-- by which of the three the fault is found
abbrev ranked : Option ℕ → Option ℕ → Option ℕ → Option RoleFault
ranked a b c = option_or (option_map Duplicate a) (option_or (option_map Unknown b) (option_map Cycle c))

ranked_none : (a b c : Option ℕ) → ranked a b c ≡ None → (a ≡ None) × (b ≡ None) × (c ≡ None)
ranked_none (Some x) b c e = absurd (cc)
ranked_none None (Some y) c e = absurd (cc)
ranked_none None None (Some z) e = absurd (cc)
ranked_none None None None e = (refl, refl, refl)

ranked_duplicate : (a b c : Option ℕ) (k : ℕ) → ranked a b c ≡ Some (Duplicate k) → a ≡ Some k
ranked_duplicate (Some x) b c k e = cc
ranked_duplicate None (Some y) c k e = absurd (cc)
ranked_duplicate None None (Some z) k e = absurd (cc)
ranked_duplicate None None None k e = absurd (cc)

ranked_unknown : (a b c : Option ℕ) (k : ℕ) → ranked a b c ≡ Some (Unknown k) → (a ≡ None) × (b ≡ Some k)
ranked_unknown (Some x) b c k e = absurd (cc)
ranked_unknown None (Some y) c k e = (refl, cc)
ranked_unknown None None (Some z) k e = absurd (cc)
ranked_unknown None None None k e = absurd (cc)

ranked_cycle : (a b c : Option ℕ) (k : ℕ) → ranked a b c ≡ Some (Cycle k) → (a ≡ None) × (b ≡ None) × (c ≡ Some k)
ranked_cycle (Some x) b c k e = absurd (cc)
ranked_cycle None (Some y) c k e = absurd (cc)
ranked_cycle None None (Some z) k e = (refl, refl, cc)
ranked_cycle None None None k e = absurd (cc)

module _ (rows : List RoleRow) where
  abbrev fails : (List RoleRow → ℕ → Bool) → Type 0
  fails test = first_row test rows ≡ None

  no_row : (test : List RoleRow → ℕ → Bool) → fails test → NoRow test rows
  no_row test e = first_none (test rows) (length rows) e

  of_no_row : (test : List RoleRow → ℕ → Bool) → NoRow test rows → fails test
  of_no_row test a = none_first (test rows) (length rows) a

  pub none_is : (fault_of rows ≡ None) ↔ (NoRow repeats rows × NoRow names_absent rows × NoRow is_on_cycle rows)
  unfolding fault_of
  none_is = (
    λ e. let p = ranked_none (first_row repeats rows) (first_row names_absent rows) (first_row is_on_cycle rows) e in
        (no_row repeats p.0, no_row names_absent p.1, no_row is_on_cycle p.2),
    λ a. λ i. ranked (of_no_row repeats a.0 i) (of_no_row names_absent a.1 i) (of_no_row is_on_cycle a.2 i),
  )

  pub duplicate_is : (place : ℕ) → (fault_of rows ≡ Some (Duplicate place)) ↔ IsFirstRow repeats rows place
  unfolding fault_of
  duplicate_is place = (
    λ e. first_of repeats rows place (ranked_duplicate (first_row repeats rows) (first_row names_absent rows) (first_row is_on_cycle rows) place e),
    λ f. λ i. ranked (of_first repeats rows place f i) (first_row names_absent rows) (first_row is_on_cycle rows),
  )

  pub unknown_is : (place : ℕ) → (fault_of rows ≡ Some (Unknown place)) ↔ (NoRow repeats rows × IsFirstRow names_absent rows place)
  unfolding fault_of
  unknown_is place = (
    λ e. let p = ranked_unknown (first_row repeats rows) (first_row names_absent rows) (first_row is_on_cycle rows) place e in
        (no_row repeats p.0, first_of names_absent rows place p.1),
    λ a. λ i. ranked (of_no_row repeats a.0 i) (of_first names_absent rows place a.1 i) (first_row is_on_cycle rows),
  )

  pub cycle_is : (place : ℕ) → (fault_of rows ≡ Some (Cycle place)) ↔ (NoRow repeats rows × NoRow names_absent rows × IsFirstRow is_on_cycle rows place)
  unfolding fault_of
  cycle_is place = (
    λ e. let p = ranked_cycle (first_row repeats rows) (first_row names_absent rows) (first_row is_on_cycle rows) place e in
        (no_row repeats p.0, no_row names_absent p.1, first_of is_on_cycle rows place p.2),
    λ a. λ i. ranked (of_no_row repeats a.0 i) (of_no_row names_absent a.1 i) (of_first is_on_cycle rows place a.2 i),
  )
