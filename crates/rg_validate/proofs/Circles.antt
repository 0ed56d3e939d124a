-- Whether a role that is put goes in a circle.
use Rattle.std.proofs.Common.{arith, ◌≡◌, ◌↔◌, ◌⊎◌, ℕ, suc, Bool, true, false, not, List, [], ◌∷◌, length, ◌==◌, map, Option, Some, None, Contains, IsTrue, refl, sym, ap, ◌∙◌, subst, inl, inr}
use Rattle.std.specs.List.{list_all, list_any}
use Rattle.std.specs.Option.{is_none}
use Rattle.std.specs.Str.{bytes_eq}
use Rattle.std.proofs.lemmas.Bool.{and_parts, false_from_ne_true, true≢false}
use Rattle.std.proofs.lemmas.Bool.Decides.{nat_tests}
use Rattle.std.proofs.lemmas.Slice.Eq.{bytes_eq-Decides}
use Rattle.rg_base.specs.Texts.{all_distinct, is_among}
use Rattle.rg_base.proofs.Lists.{Contains-cases, Contains-none, all_distinct-map, all_holds, among_holds, any_from, any_holds, list_any_agree}
use Rattle.rg_roles.specs.Chains.{Leads, here, leads, there}
use Rattle.rg_roles.specs.Faults.{AreSound, IsApart, IsPut, NamesThere, fault_of, have_own_names}
use Rattle.rg_roles.specs.Members.{names_of, names_role}
use Rattle.rg_roles.specs.declared.fault.RoleFault.{RoleFault}
use Rattle.rg_roles.specs.declared.row.RoleRow.{RoleRow}
use Rattle.rg_cmd.specs.Lists.{put}
use Rattle.rg_cmd.specs.Lookups.{is_role}
use Rattle.rg_cmd.specs.declared.state.State.{State}
use Rattle.rg_validate.specs.Roles.{goes_in_no_circle, holds_itself, member_roles_exist, roles_with}
use Rattle.rg_validate.proofs.Putting.{distinct_last, put_has, put_last, put_names, put_others, put_there, replaced_names}

named : RoleRow → List ℕ
named row = row.name

module _ (rows : List RoleRow) (row : RoleRow) where
  abbrev new : List RoleRow
  new = put (is_role row.name) row rows

  alike : (y : RoleRow) → is_role row.name y ≡ true → y.name ≡ row.name
  alike y h = (bytes_eq-Decides y.name row.name).0 h

  own_names : (xs : List RoleRow) → all_distinct (λ (x y : List ℕ). bytes_eq y x) (map (λ (r : RoleRow). r.name) xs) ≡ have_own_names xs
  own_names xs = all_distinct-map (λ (x y : List ℕ). bytes_eq y x) (λ (r : RoleRow). r.name) xs

  turned : (y : RoleRow) → bytes_eq row.name y.name ≡ is_role row.name y
  turned y = go (is_role row.name y) refl where
    go : (b : Bool) → is_role row.name y ≡ b → bytes_eq row.name y.name ≡ is_role row.name y
    go true e = (bytes_eq-Decides row.name y.name).1 (sym (alike y e)) ∙ sym e
    go false e = false_from_ne_true (bytes_eq row.name y.name) (λ h. true≢false (sym ((bytes_eq-Decides y.name row.name).1 (sym ((bytes_eq-Decides row.name y.name).0 h))) ∙ e)) ∙ sym e

  put_distinct : have_own_names rows ≡ true → have_own_names new ≡ true
  put_distinct h = go (list_any (is_role row.name) rows) refl where
    go : (b : Bool) → list_any (is_role row.name) rows ≡ b → have_own_names new ≡ true
    go true e = sym (own_names new)
        ∙ ap (λ (xs : List RoleRow). all_distinct (λ (x y : List ℕ). bytes_eq y x) (map (λ (r : RoleRow). r.name) xs)) (put_there (is_role row.name) row rows e)
        ∙ ap (all_distinct (λ (x y : List ℕ). bytes_eq y x)) (replaced_names (is_role row.name) row (λ (r : RoleRow). r.name) alike rows) ∙ own_names rows ∙ h
    go false e = ap have_own_names (put_last (is_role row.name) row rows e)
        ∙ distinct_last (λ (a b : RoleRow). bytes_eq b.name a.name) rows row h (list_any_agree (λ (y : RoleRow). bytes_eq row.name y.name) (is_role row.name) turned rows ∙ e)

  is_put : have_own_names rows ≡ true → IsPut rows row new
  is_put h = record {
    distinct = put_distinct h;
    others = put_others (is_role row.name) row rows;
    names = put_names (is_role row.name) row (λ (r : RoleRow). r.name) alike rows;
  }

-- ---- a role that names no other

-- of rows with distinct names one has a name
one_of_name : (xs : List RoleRow) → have_own_names xs ≡ true → (a b : RoleRow) → Contains xs a → Contains xs b → a.name ≡ b.name → a ≡ b
one_of_name [] own a b in_a in_b e = absurd (Contains-none a in_a)
one_of_name (x ∷ xs) own a b in_a in_b e = at (Contains-cases x xs a in_a) (Contains-cases x xs b in_b) (one_of_name xs parts.1 a b)
  where
    parts : (not (list_any (λ (r : RoleRow). bytes_eq r.name x.name) xs) ≡ true) × (have_own_names xs ≡ true)
    parts = and_parts (not (list_any (λ (r : RoleRow). bytes_eq r.name x.name) xs)) (have_own_names xs) own

    again : (r : RoleRow) → Contains xs r → r.name ≡ x.name → ⊥
    again r later same = true≢false (sym parts.0 ∙ ap not (any_from (λ (r : RoleRow). bytes_eq r.name x.name) xs r later ((bytes_eq-Decides r.name x.name).1 same)))

    at : (x ≡ a) ⊎ Contains xs a → (x ≡ b) ⊎ Contains xs b → (Contains xs a → Contains xs b → a.name ≡ b.name → a ≡ b) → a ≡ b
    at (inl p) (inl q) rest = sym p ∙ q
    at (inl p) (inr q) rest = absurd (again b q (sym e ∙ ap (λ (r : RoleRow). r.name) (sym p)))
    at (inr p) (inl q) rest = absurd (again a p (e ∙ ap (λ (r : RoleRow). r.name) (sym q)))
    at (inr p) (inr q) rest = rest p q e

module _ (rows : List RoleRow) (row : RoleRow) (own : have_own_names rows ≡ true) (there_too : Contains rows row) (alone : row.roles.items ≡ []) where
  -- no chain leads from it to a row that names it
  leads_nowhere : (role : List ℕ) → role ≡ row.name → Leads rows (names_role row.name) role → ⊥
  leads_nowhere role is (here _ found c same passes) =
      let it : found ≡ row = one_of_name rows own found row c there_too (same ∙ is) in
      let none : names_role row.name found ≡ false = ap (λ (r : RoleRow). is_among row.name r.roles.items) it ∙ ap (is_among row.name) alone in
      true≢false (sym passes ∙ none)
  leads_nowhere role is (there _ other found c same names rest) =
      let it : found ≡ row = one_of_name rows own found row c there_too (same ∙ is) in
      Contains-none other (subst (λ roles. Contains roles other) (ap (λ (r : RoleRow). r.roles.items) it ∙ alone) names)

some_left : (n : ℕ) → (suc n == 0) ≡ false
some_left n = grind (arith, nat_tests)

pub none_there : {X : Type 0} (xs : List X) → (length xs == 0) ≡ true → xs ≡ []
none_there [] h = refl
none_there (x ∷ xs) h = absurd (true≢false (sym h ∙ some_left (length xs)))

pub alone_exist : (s : State) (row : RoleRow) → row.roles.items ≡ [] → member_roles_exist s row ≡ true
alone_exist s row alone = ap (list_all (λ name. is_among name (names_of (roles_with s row)))) alone

none_of : {X : Type 0} (o : Option X) → is_none o ≡ true → o ≡ None
none_of None h = refl
none_of (Some x) h = absurd (true≢false (sym h))

module _ (decided : (rows : List RoleRow) (test : RoleRow → Bool) (role : List ℕ) → IsTrue (leads rows test role) ↔ Leads rows test role)
    (in_lists : (rows : List RoleRow) → (fault_of rows ≡ None) ↔ AreSound rows)
    (may_be_put : (rows new : List RoleRow) (row : RoleRow) → fault_of rows ≡ None → IsPut rows row new → NamesThere new row → IsApart new row.name → fault_of new ≡ None) where
  -- where there is no fault, no row holds itself
  sound_apart : (rows : List RoleRow) → fault_of rows ≡ None → list_any (holds_itself rows) rows ≡ false
  sound_apart rows none = false_from_ne_true (list_any (holds_itself rows) rows) (λ h.
      let a = any_holds (holds_itself rows) rows h in
      ((in_lists rows).0 none).apart a.0.name ((decided rows (names_role a.0.name) a.0.name).0 a.2))

  put_sound : (rows : List RoleRow) (row : RoleRow) → fault_of rows ≡ None → NamesThere (new rows row) row → list_any (holds_itself (new rows row)) (new rows row) ≡ false → fault_of (new rows row) ≡ None
  put_sound rows row none there_too apart =
      may_be_put rows (new rows row) row none (is_put rows row ((in_lists rows).0 none).distinct) there_too (λ chain.
      true≢false (sym (any_from (holds_itself (new rows row)) (new rows row) row (put_has (is_role row.name) row rows) ((decided (new rows row) (names_role row.name) row.name).1 chain)) ∙ apart))

  -- the fault of the rows with the put one decides
  pub circle_is : (s : State) (row : RoleRow) → is_none (fault_of s.roles.items) ≡ true → member_roles_exist s row ≡ true → is_none (fault_of (roles_with s row)) ≡ goes_in_no_circle s row
  unfolding goes_in_no_circle
  circle_is s row valid exist = go (list_any (holds_itself (roles_with s row)) (roles_with s row)) refl where
    none : fault_of s.roles.items ≡ None
    none = none_of (fault_of s.roles.items) valid

    there_too : NamesThere (roles_with s row) row
    there_too role h = among_holds role (names_of (roles_with s row)) (all_holds (λ name. is_among name (names_of (roles_with s row))) row.roles.items exist role h)

    go : (b : Bool) → list_any (holds_itself (roles_with s row)) (roles_with s row) ≡ b → is_none (fault_of (roles_with s row)) ≡ not (list_any (holds_itself (roles_with s row)) (roles_with s row))
    go false e = ap is_none (put_sound s.roles.items row none there_too e) ∙ ap not (sym e)
    go true e = some (fault_of (roles_with s row)) refl ∙ ap not (sym e) where
      some : (o : Option RoleFault) → fault_of (roles_with s row) ≡ o → is_none (fault_of (roles_with s row)) ≡ false
      some None is = absurd (true≢false (sym e ∙ sound_apart (roles_with s row) is))
      some (Some f) is = ap is_none is

  -- a role that names no other may be put, whatever the others are
  pub alone_apart : (s : State) (row : RoleRow) → is_none (fault_of s.roles.items) ≡ true → row.roles.items ≡ [] → goes_in_no_circle s row ≡ true
  alone_apart s row valid alone =
      sym (circle_is s row valid (alone_exist s row alone))
      ∙ ap is_none (may_be_put s.roles.items (new s.roles.items row) row none (is_put s.roles.items row own)
      (λ role h. absurd (Contains-none role (subst (λ roles. Contains roles role) alone h)))
      (leads_nowhere (new s.roles.items row) row (put_distinct s.roles.items row own) (put_has (is_role row.name) row s.roles.items) alone row.name refl))
    where
      none : fault_of s.roles.items ≡ None
      none = none_of (fault_of s.roles.items) valid

      own : have_own_names s.roles.items ≡ true
      own = ((in_lists s.roles.items).0 none).distinct
