-- For proofs alone: an orderly state, and a command that passed its rules, are as the law of downloads wants them.
use Rattle.std.proofs.Common.{◌≡◌, ◌&&◌, ◌||◌, ℕ, ℤ, pos, int_lt, Bool, true, false, not, cond, List, ◌∷◌, Option, Some, None, refl, ap, sym, ◌∙◌, subst}
use Rattle.std.specs.Option.{option_and_then}
use Rattle.std.specs.List.{list_any}
use Rattle.std.specs.Ordering.{int_eq}
use Rattle.std.specs.Str.{bytes_eq}
use Rattle.std.proofs.lemmas.Bool.{and_parts}
use Rattle.std.proofs.lemmas.Bool.Decides.{Decides-int_eq}
use Rattle.std.proofs.lemmas.Option.{none-some, same_Some}
use Rattle.std.proofs.lemmas.Slice.Eq.{bytes_eq-Decides}
use Rattle.rg_base.proofs.Lists.{all_holds, find_contained}
use Rattle.rg_base.specs.Texts.{is_empty}
use Rattle.rg_policy.specs.declared.policy.Policy.{Policy}
use Rattle.rg_defs.specs.Rules.{tag_name}
use Rattle.rg_defs.specs.declared.service_def.ServiceDef.{ServiceDef}
use Rattle.rg_tags.specs.declared.row.TagRow.{TagRow}
use Rattle.rg_cmd.specs.Lookups.{has_def, has_id, has_row_id, has_tag_service, is_def, is_of, is_of_tag, is_service, is_tag_service, policy_at, service_at, tag_row_at, tag_service_in, tag_service_of}
use Rattle.rg_cmd.specs.declared.ask.AdminCommand.{AdminCommand}
use Rattle.rg_cmd.specs.declared.ask.AdminCommand.TheVariants.{DeletePolicy, DeleteService, DeleteTags, PutTags, UpdatePolicy}
use Rattle.rg_cmd.specs.declared.rule.Rule.TheVariants.{G4, V14}
use Rattle.rg_cmd.specs.declared.state.ServiceRow.{ServiceRow}
use Rattle.rg_cmd.specs.declared.state.State.{State}
use Rattle.rg_validate.specs.Definitions.{tag_service_fits}
use Rattle.rg_validate.specs.Failing.{first_failing}
use Rattle.rg_validate.specs.Policies.{policy_place_fits, policy_rules, stays_in, zone_fits}
use Rattle.rg_validate.specs.Rules.{command_rules, policy_exists, rules_under, service_exists, tag_row_exists}
use Rattle.rg_validate.specs.Tags.{row_id_fits, row_stays_in}
use Rattle.rg_validate.specs.Valid.{service_valid}
use Rattle.rg_admin_laws.proofs.Books.{IsTidy, Passed}
use Rattle.rg_admin_laws.proofs.Lists.{case, find_none, find_some, none_passes, not_true, one_of_id}
use Rattle.rg_admin_laws.proofs.Moves.{AllRowsOf}
use Rattle.rg_admin_laws.proofs.Orderly.{IsOrderlyState, ServicesValid, def_there, has_row, not_tag_service, same_policy_id, same_row_id}
use Rattle.rg_admin_laws.proofs.Passing.{passed_at}

-- the row of a service that has a tag service
pub record HasTag (s : State) (service t : List ℕ) : Type 0 where
  pub row : ServiceRow
  pub found : service_at s service ≡ Some row
  pub tag : tag_service_in row ≡ Some t

pub with_tag : (s : State) (service t : List ℕ) → tag_service_of s service ≡ Some t → HasTag s service t
with_tag s service t is = go (service_at s service) refl is
  where
    go : (o : Option ServiceRow) → service_at s service ≡ o → option_and_then tag_service_in o ≡ Some t → HasTag s service t
    go None found h = absurd (none-some t h)
    go (Some row) found h = record { row = row; found = found; tag = h }

tag_service_is : (row : ServiceRow) (t : List ℕ) → tag_service_in row ≡ Some t → (is_empty row.tag_service ≡ false) × (row.tag_service ≡ t)
tag_service_is row t h =
    case (λ b. is_empty row.tag_service ≡ b → cond b None (Some row.tag_service) ≡ Some t → (is_empty row.tag_service ≡ false) × (row.tag_service ≡ t)) (is_empty row.tag_service)
    (λ _ _ bad. absurd (none-some t bad)) (λ _ is some. (is, same_Some row.tag_service t some)) refl h

-- C3: it is a tag service, and the service itself is none
pub record TagFacts (s : State) (row : ServiceRow) (t : List ℕ) : Type 0 where
  pub is_tag : is_tag_service s t ≡ true
  pub other : bytes_eq row.def tag_name ≡ false

pub tag_facts : (s : State) → ServicesValid s → (service t : List ℕ) (row : ServiceRow) → service_at s service ≡ Some row → tag_service_in row ≡ Some t → TagFacts s row t
tag_facts s valid service t row found tag =
    let own = and_parts (list_any (is_def row.def) s.defs.items) (tag_service_fits s row) (all_holds (service_valid s) s.services.items valid row (find_contained (is_service service) s.services.items row found).0) in
    let named = tag_service_is row t tag in
    let fits : (is_tag_service s row.tag_service && not (bytes_eq row.def tag_name)) ≡ true = ap (λ b. b || (is_tag_service s row.tag_service && not (bytes_eq row.def tag_name))) (sym named.0) ∙ own.1 in
    let parts = and_parts (is_tag_service s row.tag_service) (not (bytes_eq row.def tag_name)) fits in
    record { is_tag = subst (λ n. is_tag_service s n ≡ true) named.1 parts.0; other = not_true (bytes_eq row.def tag_name) parts.1 }

-- so it isn't its own tag service
pub not_itself : (s : State) → ServicesValid s → (service t : List ℕ) (row : ServiceRow) → service_at s service ≡ Some row → tag_service_in row ≡ Some t → bytes_eq service t ≡ false
not_itself s valid service t row found tag =
    let facts = tag_facts s valid service t row found tag in
    case (λ b. bytes_eq service t ≡ b → b ≡ false) (bytes_eq service t)
    (λ _ same. sym facts.is_tag ∙ ap (λ n. is_tag_service s n) (sym ((bytes_eq-Decides service t).0 same)) ∙ ap (has_def tag_name) found ∙ facts.other)
    (λ _ _. refl) refl

by_id : (id a b : ℤ) → int_eq a id ≡ true → int_eq b id ≡ true → int_eq a b ≡ true
by_id id a b x y = (Decides-int_eq a b).1 ((Decides-int_eq a id).0 x ∙ sym ((Decides-int_eq b id).0 y))

pub tidy : (s : State) → IsOrderlyState s → IsTidy s
tidy s o = record {
  apart = λ service p own. apart service p own (tag_service_of s service) refl;
  tag_there = λ service t is. let w = with_tag s service t is in has_row (service_at s t) tag_name (tag_facts s o.services service t w.row w.found w.tag).is_tag;
  one_service = λ id p found q there is. ap (λ (r : Policy). r.service) (one_of_id same_policy_id (has_id id) (λ a b x y. by_id id a.id.0 b.id.0 x y) s.policies.items o.policies p q found there is);
  one_row_service = λ id p found q there is. ap (λ (r : TagRow). r.service) (one_of_id same_row_id (has_row_id id) (λ a b x y. by_id id a.id b.id x y) s.tag_rows.items o.rows p q found there is);
}
  where
    apart : (service : List ℕ) (p : Policy) → is_of service p ≡ true → (t : Option (List ℕ)) → tag_service_of s service ≡ t → is_of_tag t p ≡ false
    apart service p own None is = refl
    apart service p own (Some t) is =
        let w = with_tag s service t is in
        ap (λ n. bytes_eq n t) ((bytes_eq-Decides p.service service).0 own) ∙ not_itself s o.services service t w.row w.found w.tag

-- no service has the name as tag service
unused : (s : State) (name : List ℕ) → list_any (λ (row : ServiceRow). bytes_eq row.tag_service name) s.services.items ≡ false → (service : List ℕ) → has_tag_service name (tag_service_of s service) ≡ false
unused s name none service = go (service_at s service) refl
  where
    in_row : (row : ServiceRow) → service_at s service ≡ Some row → (b : Bool) → has_tag_service name (cond b None (Some row.tag_service)) ≡ false
    in_row row found true = refl
    in_row row found false = none_passes (λ (r : ServiceRow). bytes_eq r.tag_service name) s.services.items none row (find_contained (is_service service) s.services.items row found).0

    go : (o : Option ServiceRow) → service_at s service ≡ o → has_tag_service name (option_and_then tag_service_in o) ≡ false
    go None found = refl
    go (Some row) found = in_row row found _

-- what the rules say of a command that passed them
pub passed_rules : (s : State) → IsOrderlyState s → (c : AdminCommand) → first_failing (command_rules s c) ≡ None → Passed s c
passed_rules s o (UpdatePolicy p) h =
    let old = find_some (has_id p.id.0) s.policies.items (passed_at (command_rules s (UpdatePolicy p)) h 0 (policy_exists s p.id.0) refl) in
    let def = def_there s o.services p.service (passed_at (command_rules s (UpdatePolicy p)) h 1 (service_exists s p.service) refl) in
    let under = λ (d : Option ServiceDef). policy_exists s p.id.0 ∷ service_exists s p.service ∷ rules_under d (policy_rules s (Some p.id) p) in
    let last = passed_at (under (Some def.0)) (subst (λ d. first_failing (under d) ≡ None) def.1 h) 15 (V14, policy_place_fits s (Some p.id) p) refl in
    let stays = subst (λ (o : Option Policy). stays_in o p ≡ true) old.1 (and_parts (zone_fits s p) (stays_in (policy_at s p.id.0) p) last).1 in
    (old.0, old.1, sym ((bytes_eq-Decides p.service old.0.service).0 (and_parts (bytes_eq p.service old.0.service) (bytes_eq p.zone old.0.zone) stays).0))
passed_rules s o (DeletePolicy id) h = find_some (has_id id.0) s.policies.items (passed_at (command_rules s (DeletePolicy id)) h 0 (policy_exists s id.0) refl)
passed_rules s o (DeleteService name) h = unused s name (not_tag_service s name h)
passed_rules s o (PutTags id row) h =
    rows (tag_row_at s id) refl (and_parts (int_lt (pos 0) id) (row_stays_in (tag_row_at s id) row) (passed_at (command_rules s (PutTags id row)) h 4 (G4, row_id_fits s id row) refl)).1
  where
    rows : (o : Option TagRow) → tag_row_at s id ≡ o → row_stays_in o row ≡ true → AllRowsOf s.tag_rows.items id row.service
    rows None none same q there is = absurd (find_none (has_row_id id) s.tag_rows.items none q there is)
    rows (Some old) found same q there is = (tidy s o).one_row_service id old found q there is ∙ (bytes_eq-Decides old.service row.service).0 same
passed_rules s o (DeleteTags id) h = find_some (has_row_id id) s.tag_rows.items (passed_at (command_rules s (DeleteTags id)) h 0 (tag_row_exists s id) refl)
passed_rules s o c h = tt
