-- That holding is the least relation that its four cases keep within.
use Rattle.std.proofs.Common.{◌≡◌, ℕ, Bool, true, ◌||◌, List, refl, subst, ⊎_elim}
use Rattle.std.specs.List.{list_any}
use Rattle.std.proofs.lemmas.Bool.{or_cases, or_left, or_right}
use Rattle.rg_roles.specs.declared.row.RoleRow.{RoleRow}
use Rattle.rg_roles.specs.Chains.{here, there}
use Rattle.rg_roles.specs.Holding.{Holds, IsClosed}
use Rattle.rg_base.specs.Texts.{is_among}
use Rattle.rg_roles.specs.Members.{everybody}
use Rattle.rg_base.proofs.Lists.{any_holds, any_from, among_from, among_holds}

module _ (rows : List RoleRow) (user : List ℕ) (groups : List (List ℕ)) where
  abbrev by_user : RoleRow → Bool
  by_user row = is_among user row.users.items

  abbrev by_group : RoleRow → Bool
  by_group row = list_any (λ g. is_among g row.groups.items) groups

  abbrev by_public : RoleRow → Bool
  by_public row = is_among everybody row.groups.items

  pub holds_closed : IsClosed rows user groups (λ role. Holds rows role user groups)
  holds_closed = record {
    by_user = λ row c h. here row.name row c refl (or_left (by_user row) (by_group row || by_public row) (among_from user row.users.items h));
    by_group = λ row group c asked h. here row.name row c refl (or_right (by_user row) (by_group row || by_public row)
        (or_left (by_group row) (by_public row) (any_from (λ g. is_among g row.groups.items) groups group asked (among_from group row.groups.items h))));
    by_public = λ row c h. here row.name row c refl (or_right (by_user row) (by_group row || by_public row)
        (or_right (by_group row) (by_public row) (among_from everybody row.groups.items h)));
    by_role = λ row role c h holds. there row.name role row c refl h holds;
  }

  pub holds_least : (held : List ℕ → Bool) → IsClosed rows user groups (λ role. held role ≡ true) → (role : List ℕ) → Holds rows role user groups → held role ≡ true
  holds_least held closed role (here _ row c same passes) = subst (λ name. held name ≡ true) same
      (⊎_elim
      (λ h. closed.by_user row c (among_holds user row.users.items h))
      (λ more. ⊎_elim
      (λ h. let a = any_holds (λ g. is_among g row.groups.items) groups h in closed.by_group row a.0 c a.1 (among_holds a.0 row.groups.items a.2))
      (λ h. closed.by_public row c (among_holds everybody row.groups.items h))
      (or_cases (by_group row) (by_public row) more))
      (or_cases (by_user row) (by_group row || by_public row) passes))
  holds_least held closed role (there _ other row c same names rest) = subst (λ name. held name ≡ true) same
      (closed.by_role row other c names (holds_least held closed other rest))
