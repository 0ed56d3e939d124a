-- For proofs alone: roles that are put or taken away keep a state valid.
use Rattle.std.proofs.Common.{◌≡◌, ◌↔◌, ◌⊎◌, ◌||◌, ℕ, Bool, true, false, not, Contains, List, [], ◌∷◌, ◌++◌, None, refl, ap, sym, ◌∙◌, subst, inl, inr, cond}
use Rattle.std.specs.Bool.{IsTrue}
use Rattle.std.specs.List.{filter, list_all, list_any}
use Rattle.std.specs.Str.{bytes_eq}
use Rattle.std.proofs.lemmas.Bool.{and_from, and_parts, false≢true}
use Rattle.std.proofs.lemmas.List.Elements.{Contains-append_cases, Contains-append_right}
use Rattle.std.proofs.lemmas.Slice.Eq.{bytes_eq-Decides}
use Rattle.rg_base.proofs.Lists.{Contains-cases, Contains-filter, Contains-first, Contains-later, Contains-map, Contains-mapped, Contains-none, all_holds, among_from, among_holds, any_from, any_holds}
use Rattle.rg_base.specs.Texts.{is_among}
use Rattle.rg_policy.specs.Kinds.{item_lists}
use Rattle.rg_policy.specs.declared.policy.Item.{Item}
use Rattle.rg_policy.specs.declared.policy.Policy.{Policy}
use Rattle.rg_items.specs.PolicyRules.{all_among, has_subject, item_subjects_fit, subjects_fit}
use Rattle.rg_roles.specs.Chains.{Leads, leads}
use Rattle.rg_roles.specs.Faults.{AreSound, IsApart, IsPut, NamesThere, fault_of}
use Rattle.rg_roles.specs.Members.{names_of, names_role}
use Rattle.rg_roles.specs.declared.row.RoleRow.{RoleRow}
use Rattle.rg_zone_rules.specs.Rules.{subjects_exist}
use Rattle.rg_zone_rules.specs.declared.row.ZoneRow.{ZoneRow}
use Rattle.rg_cmd.specs.Lists.{put, without}
use Rattle.rg_cmd.specs.Lookups.{is_role}
use Rattle.rg_cmd.specs.declared.ask.AdminCommand.TheVariants.{DeleteRole, PutRole}
use Rattle.rg_cmd.specs.declared.rule.Rule.TheVariants.{O2, O3, O4}
use Rattle.rg_cmd.specs.declared.state.State.{State}
use Rattle.rg_validate.specs.Failing.{first_failing}
use Rattle.rg_validate.specs.Roles.{goes_in_no_circle, holds_itself, member_roles_exist, other_names_role, policy_names_role, role_is_unused, zone_names_role}
use Rattle.rg_validate.specs.Rules.{command_rules}
use Rattle.rg_admin_laws.proofs.Lists.{all_weaker, any_put, case, distinct_put, none_passes, not_true, replaced}
use Rattle.rg_admin_laws.proofs.Moves.{own_name}
use Rattle.rg_admin_laws.proofs.Passing.{passed_at}

-- ---- more names

-- each of these names is one of those
abbrev pub AreAmong : List (List ℕ) → List (List ℕ) → Type 0
AreAmong names more = (name : List ℕ) → is_among name names ≡ true → is_among name more ≡ true

-- who names roles that are there names them still
pub subjects_fit_on : (names more : List (List ℕ)) (p : Policy) → ((name : List ℕ) → policy_names_role name p ≡ true → is_among name names ≡ true → is_among name more ≡ true) → subjects_fit names p ≡ true → subjects_fit more p ≡ true
subjects_fit_on names more p on h = all_weaker (list_all (item_subjects_fit names)) (list_all (item_subjects_fit more)) (item_lists p) (λ items there its.
    all_weaker (item_subjects_fit names) (item_subjects_fit more) items (λ i i_there fits.
    let both = and_parts (has_subject i) (all_among names i.roles.items) fits in
    and_from (has_subject i) (all_among more i.roles.items) both.0 (all_weaker (λ name. is_among name names) (λ name. is_among name more) i.roles.items
    (λ name name_there is. on name (any_from (list_any (λ (x : Item). is_among name x.roles.items)) (item_lists p) items there (any_from (λ (x : Item). is_among name x.roles.items) items i i_there (among_from name i.roles.items name_there))) is) both.1)) its) h

pub subjects_exist_on : (names more : List (List ℕ)) (z : ZoneRow) → ((name : List ℕ) → zone_names_role name z ≡ true → is_among name names ≡ true → is_among name more ≡ true) → subjects_exist names z ≡ true → subjects_exist more z ≡ true
subjects_exist_on names more z on h =
    let both = and_parts (list_all (λ name. is_among name names) z.admins.roles.items) (list_all (λ name. is_among name names) z.auditors.roles.items) h in
    and_from (list_all (λ name. is_among name more) z.admins.roles.items) (list_all (λ name. is_among name more) z.auditors.roles.items)
    (all_weaker (λ name. is_among name names) (λ name. is_among name more) z.admins.roles.items (λ name there is. on name (ap (λ b. b || is_among name z.auditors.roles.items) (among_from name z.admins.roles.items there)) is) both.0)
    (all_weaker (λ name. is_among name names) (λ name. is_among name more) z.auditors.roles.items
    (λ name there is. on name (case (λ b. (b || is_among name z.auditors.roles.items) ≡ true) (is_among name z.admins.roles.items) (λ _. refl) (λ _. among_from name z.auditors.roles.items there)) is) both.1)

-- ---- what is put

-- what stands in the list after one was put is it, or stood there
pub put_cases : {X : Type 0} (same : X → Bool) (x : X) (xs : List X) (y : X) → Contains (put same x xs) y → (y ≡ x) ⊎ Contains xs y
put_cases {X = X} same x xs y there = case (λ b. Contains (cond b (replaced same x xs) (xs ++ x ∷ [])) y → (y ≡ x) ⊎ Contains xs y) (list_any same xs)
    (λ _ h. in_replaced xs h)
    (λ _ h. elim (Contains-append_cases xs (x ∷ []) y h) [ inl old ↦ inr old | inr new ↦ elim (Contains-cases x [] y new) [ inl is ↦ inl (sym is) | inr none ↦ absurd (Contains-none y none) ] ])
    there
  where
    in_replaced : (ys : List X) → Contains (replaced same x ys) y → (y ≡ x) ⊎ Contains ys y
    in_replaced [] h = absurd (Contains-none y h)
    in_replaced (z ∷ ys) h = elim (Contains-cases (cond (same z) x z) (replaced same x ys) y h) [
      | inl here ↦ case (λ b. cond b x z ≡ y → (y ≡ x) ⊎ Contains (z ∷ ys) y) (same z) (λ _ is. inl (sym is)) (λ _ is. inr (subst (Contains (z ∷ ys)) is (Contains-first z ys))) here
      | inr later ↦ elim (in_replaced ys later) [ inl is ↦ inl is | inr old ↦ inr (Contains-later z ys y old) ]
    ]

pub put_there : {X : Type 0} (same : X → Bool) (x : X) (xs : List X) → Contains (put same x xs) x
put_there {X = X} same x xs = case (λ b. list_any same xs ≡ b → Contains (cond b (replaced same x xs) (xs ++ x ∷ [])) x) (list_any same xs)
    (λ _ some. in_replaced xs some) (λ _ _. Contains-append_right xs (x ∷ []) x (Contains-first x [])) refl
  where
    in_replaced : (ys : List X) → list_any same ys ≡ true → Contains (replaced same x ys) x
    in_replaced [] h = absurd (false≢true h)
    in_replaced (z ∷ ys) h = case (λ b. (b || list_any same ys) ≡ true → Contains (cond b x z ∷ replaced same x ys) x) (same z)
        (λ _ _. Contains-first x (replaced same x ys)) (λ _ rest. Contains-later z (replaced same x ys) x (in_replaced ys rest)) h

-- a name that was there is there
names_put : (row : RoleRow) (rows : List RoleRow) (name : List ℕ) → Contains (names_of rows) name → Contains (names_of (put (is_role row.name) row rows)) name
names_put row rows name there =
    let r = Contains-mapped (λ (q : RoleRow). q.name) rows name there in
    let found = any_put (is_role name) (is_role row.name) row (λ y is same. ap (λ n. bytes_eq n name) (sym ((bytes_eq-Decides y.name row.name).0 is)) ∙ same) rows (any_from (is_role name) rows r.0 r.1 (ap (λ n. bytes_eq n name) r.2 ∙ own_name name)) in
    let q = any_holds (is_role name) (put (is_role row.name) row rows) found in
    subst (Contains (names_of (put (is_role row.name) row rows))) ((bytes_eq-Decides q.0.name name).0 q.2) (Contains-map (λ (x : RoleRow). x.name) (put (is_role row.name) row rows) q.0 q.1)

pub text_turn : (a b : List ℕ) → bytes_eq b a ≡ bytes_eq a b
text_turn a b = case (λ t. bytes_eq a b ≡ t → bytes_eq b a ≡ t) (bytes_eq a b)
    (λ _ is. (bytes_eq-Decides b a).1 (sym ((bytes_eq-Decides a b).0 is)))
    (λ _ not_is. case (λ u. bytes_eq b a ≡ u → u ≡ false) (bytes_eq b a) (λ _ is. absurd (false≢true (sym not_is ∙ (bytes_eq-Decides a b).1 (sym ((bytes_eq-Decides b a).0 is))))) (λ _ _. refl) refl)
    refl

module _ (decided : (rows : List RoleRow) (test : RoleRow → Bool) (role : List ℕ) → IsTrue (leads rows test role) ↔ Leads rows test role)
    (in_lists : (rows : List RoleRow) → (fault_of rows ≡ None) ↔ AreSound rows)
    (may_be_put : (rows new : List RoleRow) (row : RoleRow) → fault_of rows ≡ None → IsPut rows row new → NamesThere new row → IsApart new row.name → fault_of new ≡ None)
    (may_go : (rows : List RoleRow) (role : List ℕ) → fault_of rows ≡ None → ((row : RoleRow) → Contains rows row → Contains row.roles.items role → row.name ≡ role)
    → fault_of (filter (λ (row : RoleRow). not (bytes_eq row.name role)) rows) ≡ None) where
  pub roles_after_put : (s : State) (row : RoleRow) → fault_of s.roles.items ≡ None → first_failing (command_rules s (PutRole row)) ≡ None → fault_of (put (is_role row.name) row s.roles.items) ≡ None
  unfolding goes_in_no_circle
  roles_after_put s row sound h =
      may_be_put s.roles.items new row sound
      (record {
        distinct = distinct_put (λ (r : RoleRow). r.name) (λ a b. bytes_eq b a) (λ a b. text_turn a b) (is_role row.name) row (λ y is. sym ((bytes_eq-Decides y.name row.name).0 is)) (λ y. refl) s.roles.items ((in_lists s.roles.items).0 sound).distinct;
        others = λ other there. put_cases (is_role row.name) row s.roles.items other there;
        names = λ name there. names_put row s.roles.items name there;
      })
      (λ role there. among_holds role (names_of new) (all_holds (λ name. is_among name (names_of new)) row.roles.items (passed_at (command_rules s (PutRole row)) h 1 (O2, member_roles_exist s row) refl) role there))
      (λ chain. let leads_there = (decided new (names_role row.name) row.name).1 chain in
      false≢true (sym (none_passes (holds_itself new) new (not_true (list_any (holds_itself new) new) (passed_at (command_rules s (PutRole row)) h 2 (O3, goes_in_no_circle s row) refl)) row (put_there (is_role row.name) row s.roles.items)) ∙ leads_there))
    where
      new : List RoleRow
      new = put (is_role row.name) row s.roles.items

  pub roles_after_delete : (s : State) (name : List ℕ) → fault_of s.roles.items ≡ None → first_failing (command_rules s (DeleteRole name)) ≡ None → fault_of (without (is_role name) s.roles.items) ≡ None
  roles_after_delete s name sound h =
      let unused = passed_at (command_rules s (DeleteRole name)) h 1 (O4, role_is_unused s name) refl in
      let none = not_true (list_any (other_names_role name) s.roles.items) (and_parts (not (list_any (other_names_role name) s.roles.items)) _ unused).0 in
      may_go s.roles.items name sound (λ row there names.
      case (λ b. is_role name row ≡ b → row.name ≡ name) (is_role name row)
      (λ _ is. (bytes_eq-Decides row.name name).0 is)
      (λ _ other. absurd (false≢true (sym (none_passes (other_names_role name) s.roles.items none row there) ∙ and_from (not (is_role name row)) (names_role name row) (ap not other) (among_from name row.roles.items names))))
      refl)

-- ---- policies and zones

pub among_put : (row : RoleRow) (rows : List RoleRow) (name : List ℕ) → is_among name (names_of rows) ≡ true → is_among name (names_of (put (is_role row.name) row rows)) ≡ true
among_put row rows name is = among_from name (names_of (put (is_role row.name) row rows)) (names_put row rows name (among_holds name (names_of rows) is))

-- a name that isn't the one that goes
pub among_left : (rows : List RoleRow) (gone name : List ℕ) → bytes_eq name gone ≡ false → is_among name (names_of rows) ≡ true → is_among name (names_of (without (is_role gone) rows)) ≡ true
among_left rows gone name other is =
    let r = Contains-mapped (λ (q : RoleRow). q.name) rows name (among_holds name (names_of rows) is) in
    among_from name (names_of (without (is_role gone) rows)) (subst (Contains (names_of (without (is_role gone) rows))) r.2
    (Contains-map (λ (q : RoleRow). q.name) (without (is_role gone) rows) r.0 (Contains-filter (λ q. not (is_role gone q)) rows r.0 r.1 (ap not (ap (λ n. bytes_eq n gone) r.2 ∙ other)))))

-- what is named isn't what nobody names
pub named_other : (name gone : List ℕ) (t : List ℕ → Bool) → t name ≡ true → t gone ≡ false → bytes_eq name gone ≡ false
named_other name gone t is none = case (λ c. bytes_eq name gone ≡ c → c ≡ false) (bytes_eq name gone)
    (λ _ same. absurd (false≢true (sym none ∙ ap t (sym ((bytes_eq-Decides name gone).0 same)) ∙ is))) (λ _ _. refl) refl
