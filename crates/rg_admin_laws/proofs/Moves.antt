-- For proofs alone: what each accepted command does to the sides of a service, beside what it does to the service's logs.
use Rattle.std.proofs.Common.{◌≡◌, ◌||◌, ℕ, ℤ, Bool, true, false, cond, Contains, List, [], ◌∷◌, ◌++◌, Option, Some, None, refl, ap, sym, ◌∙◌, subst}
use Rattle.std.specs.List.{filter, list_any}
use Rattle.std.specs.Option.{option_and_then}
use Rattle.std.specs.Str.{bytes_eq}
use Rattle.std.proofs.lemmas.Bool.{false≢true}
use Rattle.std.proofs.lemmas.Bool.Decides.{Decides-int_eq}
use Rattle.std.proofs.lemmas.List.{append-nil}
use Rattle.std.proofs.lemmas.List.Elements.{filter-append}
use Rattle.std.proofs.lemmas.Slice.Eq.{bytes_eq-Decides}
use Rattle.rg_base.proofs.Lists.{find_contained}
use Rattle.rg_base.specs.Listed.{Listed, listed}
use Rattle.rg_base.specs.declared.numbers.PolicyId.{PolicyId}
use Rattle.rg_policy.specs.declared.policy.Policy.{Policy}
use Rattle.rg_defs.specs.declared.service_def.ServiceDef.{ServiceDef}
use Rattle.rg_tags.specs.declared.row.TagRow.{TagRow}
use Rattle.rg_cmd.specs.Lists.{put, without}
use Rattle.rg_cmd.specs.Lookups.{def_at, def_of, has_def, has_id, has_row_id, has_tag_service, is_def, is_of, is_of_tag, is_row_of, is_service, policy_at, service_at, tag_row_at, tag_service_in, tag_service_of}
use Rattle.rg_cmd.specs.declared.ask.AdminCommand.{AdminCommand}
use Rattle.rg_cmd.specs.declared.ask.AdminCommand.TheVariants.{PutDef, CreateService, UpdateService, DeleteService, CreatePolicy, UpdatePolicy, DeletePolicy, PutTags, DeleteTags}
use Rattle.rg_cmd.specs.declared.changes.LogEntry.TheVariants.{Policy as OfPolicy}
use Rattle.rg_cmd.specs.declared.state.ServiceRow.{ServiceRow}
use Rattle.rg_cmd.specs.declared.state.State.{State}
use Rattle.rg_delta.specs.Edits.{changed}
use Rattle.rg_delta.specs.declared.touch.Touch.{Touch}
use Rattle.rg_delta.specs.declared.touch.Touch.TheVariants.{Leaves, Notes, Restarts}
use Rattle.rg_admin_laws.specs.Changes.{after_command, created_form, stored_row, updated_form}
use Rattle.rg_admin_laws.specs.Sides.{IsNoted, IsRowNoted, PolicySide, policy_side}
use Rattle.rg_admin_laws.specs.Touches.{policy_touch, row_touch_of, row_touch_of_old, tag_touch, touch_of, touch_of_old}
use Rattle.rg_admin_laws.specs.Views.{tag_rows_of}
use Rattle.rg_admin_laws.proofs.Lists.{Agree, any_filtered, case, filter_put_in, filter_put_out, filter_without, filter_without_out, find_append, find_put, find_without, replaced}

abbrev pub Moved : {X C : Type 0} → (C → X → X → Type 0) → Touch C → X → X → Type 0
Moved One Leaves x y = y ≡ x
Moved One (Notes c) x y = One c x y
Moved One Restarts x y = Unit {0}

-- a service's policies are none of its tag service's
abbrev pub IsApart : State → List ℕ → Type 0
IsApart s service = (p : Policy) → is_of service p ≡ true → is_of_tag (tag_service_of s service) p ≡ false

-- each policy of this id is of this service
abbrev pub AllOf : List Policy → ℤ → List ℕ → Type 0
AllOf policies id service = (q : Policy) → Contains policies q → has_id id q ≡ true → q.service ≡ service

of_tag_by : (tag_service : Option (List ℕ)) (p q : Policy) → p.service ≡ q.service → is_of_tag tag_service p ≡ is_of_tag tag_service q
of_tag_by None p q is = refl
of_tag_by (Some t) p q is = ap (λ n. bytes_eq n t) is

-- a policy's change moves the lists where it stands
policy_moves : (kind : ℕ) (p : Policy) (service : List ℕ) (tag_service : Option (List ℕ)) (x : PolicySide) (own tags : List Policy)
    → (is_of service p ≡ true → is_of_tag tag_service p ≡ false)
    → (is_of service p ≡ true → own ≡ changed (has_id p.id.0) kind p x.policies) → (is_of service p ≡ false → own ≡ x.policies)
    → (is_of_tag tag_service p ≡ true → tags ≡ changed (has_id p.id.0) kind p x.tag_policies) → (is_of_tag tag_service p ≡ false → tags ≡ x.tag_policies)
    → Moved IsNoted (touch_of kind p service tag_service) x (record x { policies = own; tag_policies = tags })
policy_moves kind p service tag_service x own tags apart own_in own_out tag_in tag_out =
    case (λ b. is_of service p ≡ b → Moved IsNoted (cond b (Notes (OfPolicy (record { change_type = kind; tag = false; policy = p })))
    (cond (is_of_tag tag_service p) (Notes (OfPolicy (record { change_type = kind; tag = true; policy = p }))) Leaves)) x (record x { policies = own; tag_policies = tags })) (is_of service p)
    (λ _ is. λ i. record x { policies = own_in is i; tag_policies = tag_out (apart is) i })
    (λ _ other. case (λ b. is_of_tag tag_service p ≡ b → Moved IsNoted (cond b (Notes (OfPolicy (record { change_type = kind; tag = true; policy = p }))) Leaves) x (record x { policies = own; tag_policies = tags })) (is_of_tag tag_service p)
    (λ _ tagged. λ i. record x { policies = own_out other i; tag_policies = tag_in tagged i })
    (λ _ untagged. λ i. record x { policies = own_out other i; tag_policies = tag_out untagged i })
    refl)
    refl

append_in : {X : Type 0} (f : X → Bool) (xs : List X) (x : X) → f x ≡ true → filter f (xs ++ x ∷ []) ≡ filter f xs ++ x ∷ []
append_in f xs x is = filter-append f xs (x ∷ []) ∙ ap (λ b. filter f xs ++ cond b (x ∷ []) []) is

append_out : {X : Type 0} (f : X → Bool) (xs : List X) (x : X) → f x ≡ false → filter f (xs ++ x ∷ []) ≡ filter f xs
append_out f xs x is = filter-append f xs (x ∷ []) ∙ ap (λ b. filter f xs ++ cond b (x ∷ []) []) is ∙ append-nil (filter f xs)

-- a name that is a, and so isn't b
pub other_name : (a b y : List ℕ) → bytes_eq b a ≡ false → bytes_eq y a ≡ true → bytes_eq y b ≡ false
other_name a b y differ is =
    case (λ t. bytes_eq y b ≡ t → t ≡ false) (bytes_eq y b)
    (λ _ too. let bad : bytes_eq b a ≡ true = (bytes_eq-Decides b a).1 (sym ((bytes_eq-Decides y b).0 too) ∙ (bytes_eq-Decides y a).0 is) in sym bad ∙ differ)
    (λ _ _. refl)
    refl

pub own_name : (a : List ℕ) → bytes_eq a a ≡ true
own_name a = (bytes_eq-Decides a a).1 refl

or_left : (a b : Bool) → (a || b) ≡ false → a ≡ false
or_left true b h = h
or_left false b h = refl

or_right : (a b : Bool) → (a || b) ≡ false → b ≡ false
or_right true b h = absurd (false≢true (sym h))
or_right false b h = h

-- what a service's definition is after a definition of another name was put
pub def_kept : (s : State) (d : ServiceDef) (o : Option ServiceRow) → has_def d.name o ≡ false
    → option_and_then (λ (row : ServiceRow). def_at (after_command s (PutDef d)) row.def) o ≡ option_and_then (λ (row : ServiceRow). def_at s row.def) o
def_kept s d None h = refl
def_kept s d (Some row) h = find_put (is_def row.def) (is_def d.name) (λ y is. other_name d.name row.def y.name h is) d (other_name d.name row.def d.name h (own_name d.name)) s.defs.items

tag_def_kept : (s : State) (d : ServiceDef) (t : Option (List ℕ)) → has_def d.name (option_and_then (service_at s) t) ≡ false
    → option_and_then (def_of (after_command s (PutDef d))) t ≡ option_and_then (def_of s) t
tag_def_kept s d None h = refl
tag_def_kept s d (Some t) h = def_kept s d (service_at s t) h

-- the side is as before where the look-ups of the service and of its tag service are
services_kept : (s : State) (services : Listed ServiceRow) (service : List ℕ) → service_at (record s { services = services }) service ≡ service_at s service
    → ((t : List ℕ) → tag_service_of s service ≡ Some t → service_at (record s { services = services }) t ≡ service_at s t)
    → policy_side (record s { services = services }) service ≡ policy_side s service
services_kept s services service own tag =
    (λ i. with_row (own i)) ∙ (λ i. record (policy_side s service) { tag_def = tags (tag_service_of s service) refl i })
  where
    later : State
    later = record s { services = services }

    with_row : Option ServiceRow → PolicySide
    with_row o = record {
      row = o;
      def = option_and_then (λ (row : ServiceRow). def_at s row.def) o;
      tag_def = option_and_then (def_of later) (option_and_then tag_service_in o);
      policies = filter (is_of service) s.policies.items;
      tag_policies = filter (is_of_tag (option_and_then tag_service_in o)) s.policies.items;
      zones = s.zones;
      time_zones = s.time_zones;
    }

    tags : (o : Option (List ℕ)) → tag_service_of s service ≡ o → option_and_then (def_of later) o ≡ option_and_then (def_of s) o
    tags None is = refl
    tags (Some t) is = ap (option_and_then (λ (row : ServiceRow). def_at s row.def)) (tag t is)

module _ (s : State) (service : List ℕ) where
  abbrev PolicyMoves : AdminCommand → Type 0
  PolicyMoves c = Moved IsNoted (policy_touch s c service) (policy_side s service) (policy_side (after_command s c) service)

  pub create_policy_moves : (p : Policy) → IsApart s service → PolicyMoves (CreatePolicy p)
  create_policy_moves p apart =
      let q = created_form s p in
      policy_moves 0 q service (tag_service_of s service) (policy_side s service) (filter (is_of service) (s.policies.items ++ q ∷ [])) (filter (is_of_tag (tag_service_of s service)) (s.policies.items ++ q ∷ []))
      (apart q)
      (append_in (is_of service) s.policies.items q) (append_out (is_of service) s.policies.items q)
      (append_in (is_of_tag (tag_service_of s service)) s.policies.items q) (append_out (is_of_tag (tag_service_of s service)) s.policies.items q)

  pub update_policy_moves : (p : Policy) → IsApart s service → AllOf s.policies.items p.id.0 p.service → PolicyMoves (UpdatePolicy p)
  update_policy_moves p apart all =
      let q = updated_form s p in
      let same = has_id p.id.0 in
      let tag = is_of_tag (tag_service_of s service) in
      let own_agree : Agree same (is_of service) q s.policies.items = λ y there is. ap (λ n. bytes_eq n service) (all y there is) in
      let tag_agree : Agree same tag q s.policies.items = λ y there is. of_tag_by (tag_service_of s service) y q (all y there is) in
      policy_moves 1 q service (tag_service_of s service) (policy_side s service) (filter (is_of service) (put same q s.policies.items)) (filter tag (put same q s.policies.items))
      (apart q)
      (λ is. filter_put_in same (is_of service) q s.policies.items is own_agree) (λ is. filter_put_out same (is_of service) q s.policies.items is own_agree)
      (λ is. filter_put_in same tag q s.policies.items is tag_agree) (λ is. filter_put_out same tag q s.policies.items is tag_agree)

  pub delete_policy_moves : (id : PolicyId) (p : Policy) → IsApart s service → policy_at s id.0 ≡ Some p → AllOf s.policies.items id.0 p.service → PolicyMoves (DeletePolicy id)
  delete_policy_moves id p apart found all =
      let tag = is_of_tag (tag_service_of s service) in
      let is_id : p.id.0 ≡ id.0 = (Decides-int_eq p.id.0 id.0).0 (find_contained (has_id id.0) s.policies.items p found).1 in
      subst (λ (o : Option Policy). Moved IsNoted (touch_of_old o service (tag_service_of s service)) (policy_side s service) (policy_side (after_command s (DeletePolicy id)) service)) (sym found)
      (subst (λ (n : ℤ). Moved IsNoted (touch_of 2 p service (tag_service_of s service)) (policy_side s service)
      (record (policy_side s service) { policies = filter (is_of service) (without (has_id n) s.policies.items); tag_policies = filter tag (without (has_id n) s.policies.items) })) is_id
      (policy_moves 2 p service (tag_service_of s service) (policy_side s service) (filter (is_of service) (without (has_id p.id.0) s.policies.items)) (filter tag (without (has_id p.id.0) s.policies.items))
      (apart p)
      (λ _. filter_without (has_id p.id.0) (is_of service) s.policies.items)
      (λ other. filter_without_out (has_id p.id.0) (is_of service) p s.policies.items (λ y there is. ap (λ n. bytes_eq n service) (all_of_p is_id y there is) ∙ other))
      (λ _. filter_without (has_id p.id.0) tag s.policies.items)
      (λ other. filter_without_out (has_id p.id.0) tag p s.policies.items (λ y there is. of_tag_by (tag_service_of s service) y p (all_of_p is_id y there is) ∙ other))))
    where
      all_of_p : p.id.0 ≡ id.0 → AllOf s.policies.items p.id.0 p.service
      all_of_p is_id = subst (λ (n : ℤ). AllOf s.policies.items n p.service) (sym is_id) all

  pub put_def_moves : (d : ServiceDef) → PolicyMoves (PutDef d)
  put_def_moves d =
      let own = has_def d.name (service_at s service) in
      let tag = has_def d.name (option_and_then (service_at s) (tag_service_of s service)) in
      case (λ b. (own || tag) ≡ b → Moved IsNoted (cond b Restarts Leaves) (policy_side s service) (policy_side (after_command s (PutDef d)) service)) (own || tag)
      (λ _ _. tt)
      (λ _ none. λ i. record (policy_side s service) { def = def_kept s d (service_at s service) (or_left own tag none) i; tag_def = tag_def_kept s d (tag_service_of s service) (or_right own tag none) i })
      refl

  pub create_service_leaves : (row r : ServiceRow) → service_at s service ≡ Some r
      → ((t : List ℕ) → tag_service_of s service ≡ Some t → (q : ServiceRow) × (service_at s t ≡ Some q)) → PolicyMoves (CreateService row)
  create_service_leaves row r found tag =
      services_kept s (listed (s.services.items ++ row ∷ [])) service
      (find_append (is_service service) s.services.items (row ∷ []) r found ∙ sym found)
      (λ t is. let q = tag t is in find_append (is_service t) s.services.items (row ∷ []) q.0 q.1 ∙ sym q.1)

  pub update_service_moves : (row : ServiceRow) → PolicyMoves (UpdateService row)
  update_service_moves row =
      let own = bytes_eq row.name service in
      let tag = has_tag_service row.name (tag_service_of s service) in
      case (λ b. (own || tag) ≡ b → Moved IsNoted (cond b Restarts Leaves) (policy_side s service) (policy_side (after_command s (UpdateService row)) service)) (own || tag)
      (λ _ _. tt)
      (λ _ none. services_kept s (listed (put (is_service row.name) row s.services.items)) service
      (find_put (is_service service) (is_service row.name) (λ y is. other y.name is (or_left own tag none)) row (or_left own tag none) s.services.items)
      (λ t is. let apart = subst (λ (o : Option (List ℕ)). has_tag_service row.name o ≡ false) is (or_right own tag none) in
      find_put (is_service t) (is_service row.name) (λ y h. other_name row.name t y.name apart h) row (other_name row.name t row.name apart (own_name row.name)) s.services.items))
      refl
    where
      other : (y : List ℕ) → bytes_eq y row.name ≡ true → bytes_eq row.name service ≡ false → bytes_eq y service ≡ false
      other y is differ = subst (λ n. bytes_eq n service ≡ false) (sym ((bytes_eq-Decides y row.name).0 is)) differ

  pub delete_service_leaves : (name : List ℕ) → bytes_eq service name ≡ false → has_tag_service name (tag_service_of s service) ≡ false → PolicyMoves (DeleteService name)
  delete_service_leaves name own tag =
      services_kept s (listed (without (is_service name) s.services.items)) service
      (find_without (is_service service) (is_service name) (λ y is. other_name name service y.name own is) s.services.items)
      (λ t is. let apart = subst (λ (o : Option (List ℕ)). has_tag_service name o ≡ false) is tag in
      find_without (is_service t) (is_service name) (λ y h. other_name name t y.name apart h) s.services.items)

-- ---- tag rows

-- each row of this id is of this service
abbrev pub AllRowsOf : List TagRow → ℤ → List ℕ → Type 0
AllRowsOf rows id service = (q : TagRow) → Contains rows q → has_row_id id q ≡ true → q.service ≡ service

row_moves : (kind : ℕ) (row : TagRow) (service : List ℕ) (x y : List TagRow) → (is_row_of service row ≡ true → y ≡ changed (has_row_id row.id) kind row x) → (is_row_of service row ≡ false → y ≡ x)
    → Moved IsRowNoted (row_touch_of kind row service) x y
row_moves kind row service x y inside outside =
    case (λ b. is_row_of service row ≡ b → Moved IsRowNoted (cond b (Notes (record { change_type = kind; row = row })) Leaves) x y) (is_row_of service row) (λ _ is. inside is) (λ _ is. outside is) refl

module _ (s : State) (service : List ℕ) where
  abbrev TagMoves : AdminCommand → Type 0
  TagMoves c = Moved IsRowNoted (tag_touch s c service) (tag_rows_of s service) (tag_rows_of (after_command s c) service)

  pub put_tags_moves : (id : ℤ) (row : TagRow) → AllRowsOf s.tag_rows.items id row.service → TagMoves (PutTags id row)
  put_tags_moves id row all =
      let new = stored_row id row in
      let rows = s.tag_rows.items in
      let same = has_row_id id in
      let agree : Agree same (is_row_of service) new rows = λ y there is. ap (λ n. bytes_eq n service) (all y there is) in
      case (λ b. list_any same rows ≡ b → Moved IsRowNoted (row_touch_of (cond b 1 0) new service) (filter (is_row_of service) rows) (filter (is_row_of service) (put same new rows))) (list_any same rows)
      (λ _ _. row_moves 1 new service (filter (is_row_of service) rows) (filter (is_row_of service) (put same new rows))
      (λ is. filter_put_in same (is_row_of service) new rows is agree) (λ is. filter_put_out same (is_row_of service) new rows is agree))
      (λ _ absent. row_moves 0 new service (filter (is_row_of service) rows) (filter (is_row_of service) (put same new rows))
      (λ is. filter_put_in same (is_row_of service) new rows is agree
      ∙ ap (λ b. cond b (replaced same new (filter (is_row_of service) rows)) (filter (is_row_of service) rows ++ new ∷ [])) (any_filtered same (is_row_of service) new rows is agree ∙ absent))
      (λ is. filter_put_out same (is_row_of service) new rows is agree))
      refl

  pub delete_tags_moves : (id : ℤ) (row : TagRow) → tag_row_at s id ≡ Some row → AllRowsOf s.tag_rows.items id row.service → TagMoves (DeleteTags id)
  delete_tags_moves id row found all =
      let rows = s.tag_rows.items in
      let is_id : row.id ≡ id = (Decides-int_eq row.id id).0 (find_contained (has_row_id id) rows row found).1 in
      subst (λ (o : Option TagRow). Moved IsRowNoted (row_touch_of_old o service) (filter (is_row_of service) rows) (filter (is_row_of service) (without (has_row_id id) rows))) (sym found)
      (subst (λ (n : ℤ). Moved IsRowNoted (row_touch_of 2 row service) (filter (is_row_of service) rows) (filter (is_row_of service) (without (has_row_id n) rows))) is_id
      (row_moves 2 row service (filter (is_row_of service) rows) (filter (is_row_of service) (without (has_row_id row.id) rows))
      (λ _. filter_without (has_row_id row.id) (is_row_of service) rows)
      (λ other. filter_without_out (has_row_id row.id) (is_row_of service) row rows (λ y there is. ap (λ n. bytes_eq n service) (all y there (subst (λ (n : ℤ). has_row_id n y ≡ true) is_id is)) ∙ other))))
