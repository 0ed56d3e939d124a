-- Rows and their places.
use Rattle.std.proofs.Common.{◌≡◌, ◌<◌, ℕ, zero, suc, Bool, false, List, [], ◌∷◌, length, take, map, get_or, Some, None, refl, sym, ap, ◌∙◌, ⊎_elim, arith}
use Rattle.std.specs.Option.{option_map_or}
use Rattle.std.proofs.lemmas.Bool.{both_ways, cases_order}
use Rattle.std.proofs.lemmas.List.{get_or-map, get_or-take, get_or_default, length-map, length-take-le}
use Rattle.std.proofs.lemmas.Option.{slice_get-get_or}
use Rattle.rg_roles.specs.declared.row.RoleRow.{RoleRow}
use Rattle.rg_roles.specs.Faults.{first_row, repeats}
use Rattle.rg_roles.specs.Members.{name_at, names_of, passes_at, roles_at}
use Rattle.rg_base.proofs.Firsts.{first_none}
use Rattle.rg_base.proofs.Lists.{among_from}

-- the element at a place of the list
pub element : {X : Type 0} (xs : List X) (k : ℕ) → k < length xs → (x : X) × (get_or xs k x ≡ x)
element [] k l = absurd (omega arith)
element (x ∷ xs) zero l = (x, refl)
element (x ∷ xs) (suc k) l = element xs k (omega arith)

pub get_map : {X Y : Type 0} (f : X → Y) (xs : List X) (k : ℕ) (x : X) (d : Y) → k < length xs → get_or xs k x ≡ x → get_or (map f xs) k d ≡ f x
get_map f xs k x d l e = get_or-map f xs k x d l ∙ ap f e

pub passes_is : (test : RoleRow → Bool) (rows : List RoleRow) (k : ℕ) (row : RoleRow) → k < length rows → get_or rows k row ≡ row → passes_at test rows k ≡ test row
passes_is test rows k row l e = ap (λ o. option_map_or test o false) (slice_get-get_or rows k row l ∙ ap Some e)

pub name_is : (rows : List RoleRow) (k : ℕ) (row : RoleRow) → k < length rows → get_or rows k row ≡ row → name_at rows k ≡ row.name
name_is rows k row l e = get_map (λ (r : RoleRow). r.name) rows k row [] l e

pub roles_is : (rows : List RoleRow) (k : ℕ) (row : RoleRow) → k < length rows → get_or rows k row ≡ row → roles_at rows k ≡ row.roles.items
roles_is rows k row l e = get_map (λ (r : RoleRow). r.roles.items) rows k row [] l e

pub names_count : (rows : List RoleRow) → length (names_of rows) ≡ length rows
names_count rows = length-map rows (λ (r : RoleRow). r.name)

-- no name stands twice
pub unique : (rows : List RoleRow) → first_row repeats rows ≡ None → (j k : ℕ) → j < length rows → k < length rows → name_at rows j ≡ name_at rows k → j ≡ k
unique rows none j k lj lk same = ⊎_elim (λ e. e)
    (⊎_elim (λ below. absurd (earlier j k below lk same)) (λ above. absurd (earlier k j above lj (sym same))))
    (cases_order j k) where
      earlier : (j k : ℕ) → j < k → k < length rows → name_at rows j ≡ name_at rows k → ⊥
      earlier j k below lk same =
          let count = names_count rows in
          let taken : length (take k (names_of rows)) ≡ k = length-take-le k (names_of rows) (omega arith) in
          let l : j < length (take k (names_of rows)) = omega arith in
          let lj : j < length (names_of rows) = omega arith in
          both_ways (repeats rows k) (first_none (repeats rows) (length rows) none k lk)
          (among_from (name_at rows k) (take k (names_of rows))
          (j, l, get_or-take k (names_of rows) j (name_at rows k) below ∙ get_or_default (names_of rows) j (name_at rows k) [] lj ∙ same))
