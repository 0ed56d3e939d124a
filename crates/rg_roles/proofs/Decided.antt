-- That the test of chains decides whether one leads to a row that passes.
use Rattle.std.proofs.Common.{◌≡◌, ◌<◌, ℕ, zero, suc, Bool, true, ◌&&◌, ◌||◌, List, length, Contains, sym, subst, ◌⊎◌, inl, inr, ⊎_elim, arith}
use Rattle.std.specs.Bool.{Decides}
use Rattle.std.specs.List.{All, list_any, count_by}
use Rattle.std.specs.Str.{bytes_eq}
use Rattle.std.proofs.lemmas.Bool.{false≢true, and_parts, and_from, or_cases, or_left, or_right}
use Rattle.std.proofs.lemmas.List.Elements.{All-contains}
use Rattle.std.proofs.lemmas.List.Sums.{count_by-le-length}
use Rattle.std.proofs.lemmas.Slice.Eq.{bytes_eq-Decides}
use Rattle.rg_roles.specs.declared.row.RoleRow.{RoleRow}
use Rattle.rg_roles.specs.Chains.{Leads, here, there, leads, leads_within}
use Rattle.rg_base.proofs.Lists.{any_from, any_holds}
use Rattle.rg_roles.proofs.Lists.{count_cases}

module _ (rows : List RoleRow) (test : RoleRow → Bool) where
  -- the row passes, or names a role from which a chain of at most n leads to one that does
  abbrev steps : ℕ → RoleRow → Bool
  steps n row = test row || list_any (leads_within n rows test) row.roles.items

  abbrev named : ℕ → List ℕ → RoleRow → Bool
  named n role row = bytes_eq row.name role && steps n row

  -- what a chain of at most n + 1 begins with
  begins : (n : ℕ) (role : List ℕ) → leads_within (suc n) rows test role ≡ true → (row : RoleRow) × Contains rows row × (row.name ≡ role) × (steps n row ≡ true)
  begins n role h =
      let a = any_holds (named n role) rows h in
      let parts = and_parts (bytes_eq a.0.name role) (steps n a.0) a.2 in
      (a.0, a.1, (bytes_eq-Decides a.0.name role).0 parts.0, parts.1)

  begin : (n : ℕ) (role : List ℕ) (row : RoleRow) → Contains rows row → row.name ≡ role → steps n row ≡ true → leads_within (suc n) rows test role ≡ true
  begin n role row c same h = any_from (named n role) rows row c (and_from (bytes_eq row.name role) (steps n row) ((bytes_eq-Decides row.name role).1 same) h)

  pub found : (n : ℕ) (role : List ℕ) → leads_within n rows test role ≡ true → Leads rows test role
  found zero role h = absurd (false≢true h)
  found (suc n) role h =
      let b = begins n role h in
      ⊎_elim
      (λ passes. here role b.0 b.1 b.2 passes)
      (λ later. let a = any_holds (leads_within n rows test) b.0.roles.items later in there role a.0 b.0 b.1 b.2 a.1 (found n a.0 a.2))
      (or_cases (test b.0) (list_any (leads_within n rows test) b.0.roles.items) b.3)

  -- where the test of shorter chains passes, so does that of longer ones
  steps_along : (m n : ℕ) → ((role : List ℕ) → leads_within m rows test role ≡ true → leads_within n rows test role ≡ true) → (row : RoleRow) → steps m row ≡ true → steps n row ≡ true
  steps_along m n up row h = ⊎_elim
      (λ passes. or_left (test row) (list_any (leads_within n rows test) row.roles.items) passes)
      (λ later. let a = any_holds (leads_within m rows test) row.roles.items later in
      or_right (test row) (list_any (leads_within n rows test) row.roles.items) (any_from (leads_within n rows test) row.roles.items a.0 a.1 (up a.0 a.2)))
      (or_cases (test row) (list_any (leads_within m rows test) row.roles.items) h)

  rises : (n : ℕ) (role : List ℕ) → leads_within n rows test role ≡ true → leads_within (suc n) rows test role ≡ true
  rises zero role h = absurd (false≢true h)
  rises (suc n) role h = let b = begins n role h in begin (suc n) role b.0 b.1 b.2 (steps_along n (suc n) (rises n) b.0 b.3)

  -- longer chains give nothing more
  abbrev IsFixed : ℕ → Type 0
  IsFixed n = (role : List ℕ) → leads_within (suc n) rows test role ≡ true → leads_within n rows test role ≡ true

  fixed_next : (n : ℕ) → IsFixed n → IsFixed (suc n)
  fixed_next n fixed role h = let b = begins (suc n) role h in begin n role b.0 b.1 b.2 (steps_along (suc n) n fixed b.0 b.3)

  abbrev at_row : ℕ → RoleRow → Bool
  at_row n row = leads_within n rows test row.name

  grows : (n : ℕ) → IsFixed n ⊎ (count_by (at_row n) rows < count_by (at_row (suc n)) rows)
  grows n = ⊎_elim (λ r. inl (fixed r.0)) (λ l. inr l) (count_cases (at_row n) (at_row (suc n)) (λ row. rises n row.name) rows) where
    fixed : All (λ row. at_row (suc n) row ≡ true → at_row n row ≡ true) rows → IsFixed n
    fixed agree role h =
        let b = begins n role h in
        subst (λ name. leads_within n rows test name ≡ true) b.2
        (All-contains (λ row. at_row (suc n) row ≡ true → at_row n row ≡ true) rows b.0 agree b.1
        (subst (λ name. leads_within (suc n) rows test name ≡ true) (sym b.2) h))

  counted : (n : ℕ) → IsFixed n ⊎ (n < count_by (at_row (suc n)) rows)
  counted zero = ⊎_elim (λ f. inl f) (λ l. inr (omega arith)) (grows zero)
  counted (suc n) = ⊎_elim
      (λ f. inl (fixed_next n f))
      (λ l. ⊎_elim (λ f. inl f) (λ g. inr (omega arith)) (grows (suc n)))
      (counted n)

  fixed : IsFixed (length rows)
  fixed = ⊎_elim (λ f. f)
      (λ l. absurd (let most = count_by-le-length (at_row (suc (length rows))) rows in omega arith))
      (counted (length rows))

  complete : (role : List ℕ) → Leads rows test role → leads_within (length rows) rows test role ≡ true
  complete role (here _ row c same passes) =
      fixed role (begin (length rows) role row c same (or_left (test row) (list_any (leads_within (length rows) rows test) row.roles.items) passes))
  complete role (there _ other row c same names rest) =
      fixed role (begin (length rows) role row c same (or_right (test row) (list_any (leads_within (length rows) rows test) row.roles.items)
      (any_from (leads_within (length rows) rows test) row.roles.items other names (complete other rest))))

  pub leads-Decides : (role : List ℕ) → Decides (leads rows test role) (Leads rows test role)
  unfolding leads
  leads-Decides role = (λ h. found (length rows) role h, λ l. complete role l)
