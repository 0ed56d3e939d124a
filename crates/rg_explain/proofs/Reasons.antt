-- A role holds the user where its row names the user, or a role that does.
use Rattle.std.proofs.Common.{◌≡◌, ◌||◌, ℕ, true, List, Option, Some, None, Contains, get_or, refl, ap, sym, subst, ◌∙◌, inl, inr}
use Rattle.std.proofs.Math.Bool.{or_assoc}
use Rattle.std.proofs.lemmas.Bool.{or_cases, or_left, or_right, true≢false}
use Rattle.std.proofs.lemmas.Bool.Decides.{same_from_decides}
use Rattle.std.proofs.lemmas.List.{get_or_default}
use Rattle.std.specs.Option.{is_none}
use Rattle.std.specs.Str.{bytes_eq}
use Rattle.rg_base.proofs.Lists.{all_distinct-map, any_from, any_holds}
use Rattle.rg_base.proofs.Names.{distinct_is}
use Rattle.rg_base.specs.Names.{first_repeat}
use Rattle.rg_roles.specs.Chains.{Leads, here, there}
use Rattle.rg_roles.specs.Faults.{first_row, have_own_names, repeats}
use Rattle.rg_roles.specs.Holding.{holds}
use Rattle.rg_roles.specs.Members.{names_asker, names_of}
use Rattle.rg_roles.specs.declared.row.RoleRow.{RoleRow}
use Rattle.rg_roles.proofs.Built.{repeat_is}
use Rattle.rg_roles.proofs.Decided.{leads-Decides}
use Rattle.rg_roles.proofs.Rows.{name_is, unique}
use Rattle.rg_items.specs.Subjects.{Subjects, names, names_group, names_role, names_user}

abbrev pub members : RoleRow → Subjects
members row = record { users = row.users.items; groups = row.groups.items; roles = row.roles.items }

none_of : (o : Option ℕ) → is_none o ≡ true → o ≡ None
none_of None h = refl
none_of (Some k) h = absurd (true≢false (sym h))

module _ (rows : List RoleRow) (own_names : have_own_names rows ≡ true) where
  once : first_row repeats rows ≡ None
  once = sym (repeat_is rows)
      ∙ none_of (first_repeat (names_of rows))
      (distinct_is (names_of rows) ∙ all_distinct-map (λ x y. bytes_eq y x) (λ (r : RoleRow). r.name) rows ∙ own_names)

  same_row : (a b : RoleRow) → Contains rows a → Contains rows b → a.name ≡ b.name → a ≡ b
  same_row a b at_a at_b same =
      let place : at_a.0 ≡ at_b.0 = unique rows once at_a.0 at_b.0 at_a.1 at_b.1
      (name_is rows at_a.0 a at_a.1 at_a.2 ∙ same ∙ sym (name_is rows at_b.0 b at_b.1 at_b.2)) in
      sym at_a.2 ∙ get_or_default rows at_a.0 a b at_a.1 ∙ ap (λ k. get_or rows k b) place ∙ at_b.2

  module _ (user : List ℕ) (groups : List (List ℕ)) (row : RoleRow) (within : Contains rows row) where
    -- the row names the user, or a role that holds the user
    named : names rows user groups (members row) ≡ (names_asker user groups row || names_role rows user groups row.roles.items)
    named = sym (or_assoc (names_user user row.users.items) (names_group groups row.groups.items) (names_role rows user groups row.roles.items))

    chained : names rows user groups (members row) ≡ true → Leads rows (names_asker user groups) row.name
    chained h = elim (or_cases (names_asker user groups row) (names_role rows user groups row.roles.items) (sym named ∙ h)) [
      | inl itself ↦ here row.name row within refl itself
      | inr by_role ↦
          let r = any_holds (λ role. holds rows role user groups) row.roles.items by_role in
          there row.name r.0 row within refl r.1 ((leads-Decides rows (names_asker user groups) r.0).0 r.2)
    ]

    -- what a chain begins with is the row
    begun : (role : List ℕ) → role ≡ row.name → Leads rows (names_asker user groups) role → names rows user groups (members row) ≡ true
    begun role is (here _ found at same passes) =
        let it = same_row found row at within (same ∙ is) in
        named ∙ or_left (names_asker user groups row) _ (ap (names_asker user groups) (sym it) ∙ passes)
    begun role is (there _ other found at same names_it rest) =
        let it = same_row found row at within (same ∙ is) in
        let named_there = subst (λ (r : RoleRow). Contains r.roles.items other) it names_it in
        named ∙ or_right (names_asker user groups row) _
        (any_from (λ r. holds rows r user groups) row.roles.items other named_there ((leads-Decides rows (names_asker user groups) other).1 rest))

    pub row_names : names rows user groups (members row) ≡ holds rows row.name user groups
    row_names = same_from_decides {P = Leads rows (names_asker user groups) row.name} (names rows user groups (members row)) (holds rows row.name user groups)
        (chained, begun row.name refl) (leads-Decides rows (names_asker user groups) row.name)
