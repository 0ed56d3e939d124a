-- Rows without a fault, in the words of lists.
use Rattle.std.proofs.Common.{◌≡◌, ◌↔◌, ◌⊎◌, ℕ, Bool, true, false, not, List, [], ◌∷◌, length, map, filter, Contains, Option, Some, None, refl, sym, ap, ◌∙◌, subst, inl, inr, ⊎_elim, cond}
use Rattle.std.specs.List.{list_any}
use Rattle.std.specs.Option.{is_none}
use Rattle.std.specs.Str.{bytes_eq}
use Rattle.std.proofs.lemmas.Bool.{and_from, and_parts, both_ways, false_from_ne_true, true≢false}
use Rattle.std.proofs.lemmas.Slice.Eq.{bytes_eq-Decides}
use Rattle.rg_base.specs.Names.{first_repeat}
use Rattle.rg_base.specs.Texts.{all_distinct, is_among}
use Rattle.rg_base.proofs.Firsts.{first_none, none_first}
use Rattle.rg_base.proofs.Lists.{Contains-filter, Contains-filtered, Contains-map, Contains-mapped, all_distinct-map, among_from, among_holds, any_from, any_holds}
use Rattle.rg_base.proofs.Names.{distinct_is}
use Rattle.rg_roles.specs.declared.row.RoleRow.{RoleRow}
use Rattle.rg_roles.specs.Chains.{Leads, here, there, leads}
use Rattle.rg_roles.specs.Faults.{AreSound, IsApart, IsPut, NamesThere, NoRow, fault_of, have_own_names, is_absent, is_on_cycle, names_absent, repeats}
use Rattle.rg_roles.specs.Members.{name_at, names_of, names_role, roles_at}
use Rattle.rg_roles.proofs.Asked.{row_of}
use Rattle.rg_roles.proofs.Built.{repeat_is}
use Rattle.rg_roles.proofs.Charted.{follow}
use Rattle.rg_roles.proofs.Decided.{leads-Decides}
use Rattle.rg_roles.proofs.Ranked.{none_is}
use Rattle.rg_roles.proofs.Rows.{element, name_is, roles_is}

none_of : (o : Option ℕ) → is_none o ≡ true → o ≡ None
none_of None h = refl
none_of (Some k) h = absurd (true≢false (sym h))

abbrev named : RoleRow → List ℕ
named row = row.name

module _ (rows : List RoleRow) where
  own_names : is_none (first_repeat (names_of rows)) ≡ have_own_names rows
  own_names = distinct_is (names_of rows) ∙ all_distinct-map (λ x y. bytes_eq y x) named rows

  no_repeat : NoRow repeats rows → have_own_names rows ≡ true
  no_repeat away = sym own_names ∙ ap is_none (repeat_is rows ∙ none_first (repeats rows) (length rows) away)

  of_own_names : have_own_names rows ≡ true → NoRow repeats rows
  of_own_names h = first_none (repeats rows) (length rows) (sym (repeat_is rows) ∙ none_of (first_repeat (names_of rows)) (own_names ∙ h))

  no_absent : NoRow names_absent rows → (row : RoleRow) → Contains rows row → NamesThere rows row
  no_absent away row c role names = among_holds role (names_of rows) (by_case (is_among role (names_of rows)) refl) where
    by_case : (b : Bool) → is_among role (names_of rows) ≡ b → is_among role (names_of rows) ≡ true
    by_case true e = e
    by_case false e = absurd (both_ways (names_absent rows c.0) (away c.0 c.1)
        (ap (list_any (is_absent (names_of rows))) (roles_is rows c.0 row c.1 c.2) ∙ any_from (is_absent (names_of rows)) row.roles.items role names (ap not e)))

  of_named : ((row : RoleRow) → Contains rows row → NamesThere rows row) → NoRow names_absent rows
  of_named all place l = false_from_ne_true (names_absent rows place) (λ h.
      let a = any_holds (is_absent (names_of rows)) (roles_at rows place) h in
      let row = element rows place l in
      let names = subst (λ roles. Contains roles a.0) (roles_is rows place row.0 l row.1) a.1 in
      let known = among_from a.0 (names_of rows) (all row.0 (place, l, row.1) a.0 names) in
      true≢false (sym a.2 ∙ ap not known))

  no_cycle : NoRow is_on_cycle rows → (role : List ℕ) → IsApart rows role
  no_cycle away role chain =
      let row = row_of rows (names_role role) role chain in
      let c = row.1 in
      let at : name_at rows c.0 ≡ role = name_is rows c.0 row.0 c.1 c.2 ∙ row.2 in
      both_ways (is_on_cycle rows c.0) (away c.0 c.1)
      ((leads-Decides rows (names_role (name_at rows c.0)) (name_at rows c.0)).1 (subst (λ name. Leads rows (names_role name) name) (sym at) chain))

  of_apart : ((role : List ℕ) → IsApart rows role) → NoRow is_on_cycle rows
  of_apart apart place l = false_from_ne_true (is_on_cycle rows place) (λ h.
      apart (name_at rows place) ((leads-Decides rows (names_role (name_at rows place)) (name_at rows place)).0 h))

  pub in_lists : (fault_of rows ≡ None) ↔ AreSound rows
  in_lists = (
    λ e. let p = (none_is rows).0 e in record { distinct = no_repeat p.0; named = no_absent p.1; apart = no_cycle p.2 },
    λ s. (none_is rows).1 (of_own_names s.distinct, of_named s.named, of_apart s.apart),
  )

-- ---- fewer rows

-- a chain of some rows is one of more
pub more_rows : (rows more : List RoleRow) → ((row : RoleRow) → Contains rows row → Contains more row) → (test : RoleRow → Bool) (role : List ℕ) → Leads rows test role → Leads more test role
more_rows rows more on test role (here _ row c same passes) = here role row (on row c) same passes
more_rows rows more on test role (there _ other row c same names rest) = there role other row (on row c) same names (more_rows rows more on test other rest)

filter_distinct : (keep : RoleRow → Bool) (rows : List RoleRow) → have_own_names rows ≡ true → have_own_names (filter keep rows) ≡ true
filter_distinct keep [] h = refl
filter_distinct keep (row ∷ rows) h =
    let again = list_any (λ (other : RoleRow). bytes_eq other.name row.name) in
    let parts = and_parts (not (again rows)) (have_own_names rows) h in
    let rest = filter_distinct keep rows parts.1 in
    let none : again (filter keep rows) ≡ false = false_from_ne_true (again (filter keep rows)) (λ e.
    let a = any_holds (λ (other : RoleRow). bytes_eq other.name row.name) (filter keep rows) e in
    true≢false (sym parts.0 ∙ ap not (any_from (λ (other : RoleRow). bytes_eq other.name row.name) rows a.0 (Contains-filtered keep rows a.0 a.1).0 a.2))) in
    elim (keep row) as (λ b. have_own_names (cond b (row ∷ filter keep rows) (filter keep rows)) ≡ true) [
      | true ↦ and_from (not (again (filter keep rows))) (have_own_names (filter keep rows)) (ap not none) rest
      | false ↦ rest
    ]

pub fewer : (rows : List RoleRow) (keep : RoleRow → Bool) → fault_of rows ≡ None
    → ((row : RoleRow) → Contains (filter keep rows) row → NamesThere (filter keep rows) row) → fault_of (filter keep rows) ≡ None
fewer rows keep none named =
    let sound = (in_lists rows).0 none in
    (in_lists (filter keep rows)).1 (record {
      distinct = filter_distinct keep rows sound.distinct;
      named = named;
      apart = λ role chain. sound.apart role (more_rows (filter keep rows) rows (λ row c. (Contains-filtered keep rows row c).0) (names_role role) role chain);
    })

pub may_go : (rows : List RoleRow) (role : List ℕ) → fault_of rows ≡ None
    → ((row : RoleRow) → Contains rows row → Contains row.roles.items role → row.name ≡ role)
    → fault_of (filter (λ (row : RoleRow). not (bytes_eq row.name role)) rows) ≡ None
may_go rows role none alone = fewer rows (λ (row : RoleRow). not (bytes_eq row.name role)) none kept where
  other_name : (row : RoleRow) → not (bytes_eq row.name role) ≡ true → row.name ≡ role → ⊥
  other_name row h same = true≢false (sym h ∙ ap not ((bytes_eq-Decides row.name role).1 same))

  kept : (row : RoleRow) → Contains (filter (λ (r : RoleRow). not (bytes_eq r.name role)) rows) row → NamesThere (filter (λ (r : RoleRow). not (bytes_eq r.name role)) rows) row
  kept row c other names =
      let was = Contains-filtered (λ (r : RoleRow). not (bytes_eq r.name role)) rows row c in
      let at = Contains-mapped named rows other (((in_lists rows).0 none).named row was.0 other names) in
      let stays : not (bytes_eq at.0.name role) ≡ true = ap not (false_from_ne_true (bytes_eq at.0.name role) (λ h.
      let same : at.0.name ≡ role = (bytes_eq-Decides at.0.name role).0 h in
      other_name row was.1 (alone row was.0 (subst (Contains row.roles.items) (sym at.2 ∙ same) names)))) in
      subst (Contains (names_of (filter (λ (r : RoleRow). not (bytes_eq r.name role)) rows))) at.2
      (Contains-map named (filter (λ (r : RoleRow). not (bytes_eq r.name role)) rows) at.0 (Contains-filter (λ (r : RoleRow). not (bytes_eq r.name role)) rows at.0 at.1 stays))

-- ---- a row that is put

module _ (rows new : List RoleRow) (row : RoleRow) (others : (other : RoleRow) → Contains new other → (other ≡ row) ⊎ Contains rows other) where
  -- a chain of the new rows is one of the old, or goes through the row that was put
  Through : (RoleRow → Bool) → List ℕ → Type 0
  Through test role = ((role ≡ row.name) ⊎ Leads new (names_role row.name) role) × Leads new test row.name

  through : (test : RoleRow → Bool) (role : List ℕ) → Leads new test role → Leads rows test role ⊎ Through test role
  unfolding Through
  through test role (here _ other c same passes) = ⊎_elim
      (λ put. let own = sym same ∙ ap named put in inr (inl own, subst (Leads new test) own (here role other c same passes)))
      (λ old. inl (here role other old same passes))
      (others other c)
  through test role (there _ next other c same names rest) = ⊎_elim
      (λ put. let own = sym same ∙ ap named put in inr (inl own, subst (Leads new test) own (there role next other c same names rest)))
      (λ old. ⊎_elim
      (λ before. inl (there role next other old same names before))
      (λ via. inr (
        inr (⊎_elim
            (λ own. here role other c same (among_from row.name other.roles.items (subst (Contains other.roles.items) own names)))
            (λ chain. there role next other c same names chain)
            via.0),
        via.1,
      ))
      (through test next rest))
      (others other c)

  pub still_apart : ((role : List ℕ) → IsApart rows role) → IsApart new row.name → (role : List ℕ) → IsApart new role
  unfolding Through
  still_apart before apart role chain = ⊎_elim
      (λ old. before role old)
      (λ via. ⊎_elim
      (λ own. apart (subst (λ name. Leads new (names_role name) row.name) own via.1))
      (λ lead. apart (follow new (names_role row.name) role row.name via.1 lead))
      via.0)
      (through (names_role role) role chain)

pub may_be_put : (rows new : List RoleRow) (row : RoleRow) → fault_of rows ≡ None → IsPut rows row new → NamesThere new row → IsApart new row.name → fault_of new ≡ None
may_be_put rows new row none put known apart =
    let sound = (in_lists rows).0 none in
    (in_lists new).1 (record {
      distinct = put.distinct;
      named = λ other c role names. ⊎_elim
          (λ same. known role (subst (λ (r : RoleRow). Contains r.roles.items role) same names))
          (λ old. put.names role (sound.named other old role names))
          (put.others other c);
      apart = still_apart rows new row put.others sound.apart apart;
    })
