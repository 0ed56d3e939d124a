-- What was printed for facts has no fault.
use Rattle.std.proofs.Common.{◌≡◌, ℕ, List, ◌++◌, Option, Some, None, option_and_then, refl, ap}
use Rattle.std.specs.Str.{chars}
use Rattle.serde_json.specs.Data.{Data, no_members}
use Rattle.serde_json.specs.Find.{get}
use Rattle.rg_base.specs.Listed.{Listed}
use Rattle.rg_facts.specs.declared.facts.Facts.{Facts}
use Rattle.rg_policy.specs.declared.policy.Policy.{Policy}
use Rattle.rg_policy.specs.declared.policy.TimeZoneRow.{TimeZoneRow}
use Rattle.rg_tags.specs.declared.row.TagRow.{TagRow}
use Rattle.rg_json.specs.declared.shape.Keys.TheVariants.{Any}
use Rattle.rg_json.specs.declared.shape.Need.TheVariants.{Must, May}
use Rattle.rg_json.specs.Faults.{below, fault_of, field_fault}
use Rattle.rg_json.specs.Fields.{field, unless_null}
use Rattle.rg_json.specs.Own.{OwnList, OwnOption}
use Rattle.rg_json.specs.Printing.{text_data, bool_data, count_data, integer_data, list_data, option_data}
use Rattle.rg_json.specs.Shape.{Shape, text, truth, count, integer, list_of, map_of}
use Rattle.rg_json.proofs.Again.{get_with}
use Rattle.rg_json.proofs.Right.{count_right, first_right, head, integer_right, list_right, own_list_right, text_right}
use Rattle.rg_wire.specs.declared.key.Key.{Key}
use Rattle.rg_wire.specs.declared.key.Key.TheVariants as key
use Rattle.rg_wire.specs.Names.{name_of}
use Rattle.rg_wire.specs.Own.{IsPolicy}
use Rattle.rg_wire.specs.Printing.{policy_data, resources_data}
use Rattle.rg_wire.specs.Shapes.{facts_shape, facts_tag_row_shape, policy_shape, policy_resource_shape, role_shape, service_def_shape, tag_shape, time_zone_shape, zone_shape}
use Rattle.rg_wire.proofs.Right.{policy_right}
use Rattle.rg_cmd_wire.specs.PrintedNames.{name_of as printed_name}
use Rattle.rg_cmd_wire.specs.PrintedRows.{def_data, role_data, tag_data, tag_row_data, tag_row_members, time_zone_data, time_zone_members, zone_data}
use Rattle.rg_ask_wire.specs.KeyOrder.{IsDef, IsTag, IsZone}
use Rattle.rg_ask_wire.proofs.Asked.{def_there}
use Rattle.rg_ask_wire.proofs.Right.{def_right, resources_right, role_right, tag_right, zone_right}
use Rattle.rg_download_wire.specs.InOrder.{AreFacts, IsRowOf}
use Rattle.rg_download_wire.specs.PrintedFacts.{facts_data, row_members, rule_members}

-- what may be missing, and is right where it is not
pub option_right : {X : Type 0} (k : List ℕ) (s : Shape) (print : X → Data) (own : X → Type 0) (o : Option X) (d : Data) → get k d ≡ Some (option_data print o)
    → ((x : X) → unless_null (print x) ≡ Some (print x)) → ((x : X) → own x → fault_of s (print x) ≡ None) → OwnOption own o
    → below (chars k) (field_fault May (fault_of s) (field k d)) ≡ None
unfolding field
option_right k s print own None d found there right is = ap (λ y. below (chars k) (field_fault May (fault_of s) (option_and_then unless_null y))) found
option_right k s print own (Some x) d found there right is = head k May s (print x) d found (there x) (right x is)

pub time_zone_right : (t : TimeZoneRow) → fault_of time_zone_shape (time_zone_data t) ≡ None
unfolding time_zone_data name_of printed_name text_data
time_zone_right t =
    let at = λ (k : Key). get_with printed_name (name_of k) (time_zone_members t) no_members in
    let d = time_zone_data t in
    first_right _ _ (head (name_of key.Name) Must text (text_data t.name) d (at key.Name) refl (text_right t.name)) (
    first_right _ _ (head (name_of key.Rule) Must text (text_data t.rule) d (at key.Rule) refl (text_right t.rule)) refl)

row_right : (service : List ℕ) (r : TagRow) → IsRowOf service r → fault_of facts_tag_row_shape (tag_row_data r) ≡ None
unfolding tag_row_data name_of printed_name text_data integer_data list_data resources_data
row_right service r is =
    let at = λ (k : Key). get_with printed_name (name_of k) (tag_row_members r) no_members in
    let d = tag_row_data r in
    first_right _ _ (head (name_of key.Id) May integer (integer_data r.id) d (at key.Id) refl (integer_right r.id is.own.id)) (
    first_right _ _ (head (name_of key.ServiceName) May text (text_data r.service) d (at key.ServiceName) refl (text_right r.service)) (
    first_right _ _ (head (name_of key.ResourceElements) May (map_of Any policy_resource_shape) (resources_data r.resources) d (at key.ResourceElements) refl (resources_right r.resources is.own.resources)) (
    first_right _ _ (head (name_of key.Tags) May (list_of tag_shape) (list_data tag_data r.tags) d (at key.Tags) refl (own_list_right tag_shape tag_data IsTag tag_right r.tags is.own.tags.0)) refl)))

pub policies_right : (ps : Listed Policy) → OwnList IsPolicy ps → fault_of (list_of policy_shape) (list_data policy_data ps) ≡ None
policies_right ps own = own_list_right policy_shape policy_data IsPolicy policy_right ps own.0

pub facts_right : (f : Facts) → AreFacts f → fault_of facts_shape (facts_data f) ≡ None
unfolding facts_data AreFacts name_of printed_name text_data list_data
facts_right f own =
    let at = λ (k : Key). get_with printed_name (name_of k) (rule_members f ++ row_members f) no_members in
    let d = facts_data f in
    let number = λ (k : Key) (n : ℕ) (found : get (name_of k) d ≡ Some (count_data n)). head (name_of k) May count (count_data n) d found refl (count_right n) in
    first_right _ _ (head (name_of key.Service) Must text (text_data f.service) d (at key.Service) refl (text_right f.service)) (
    first_right _ _ (head (name_of key.Fallback) May truth (bool_data f.fallback) d (at key.Fallback) refl refl) (
    first_right _ _ (head (name_of key.ServiceDef) Must service_def_shape (def_data f.def) d (at key.ServiceDef) (def_there f.def) (def_right f.def own.def)) (
    first_right _ _ (option_right (name_of key.TagServiceDef) service_def_shape def_data IsDef f.tag_def d (at key.TagServiceDef) def_there def_right own.tag_def) (
    first_right _ _ (head (name_of key.Policies) May (list_of policy_shape) (list_data policy_data f.policies) d (at key.Policies) refl (policies_right f.policies own.policies)) (
    first_right _ _ (head (name_of key.TagPolicies) May (list_of policy_shape) (list_data policy_data f.tag_policies) d (at key.TagPolicies) refl (policies_right f.tag_policies own.tag_policies)) (
    first_right _ _ (head (name_of key.Zones) May (list_of zone_shape) (list_data zone_data f.zones) d (at key.Zones) refl (own_list_right zone_shape zone_data IsZone zone_right f.zones own.zones.0)) (
    first_right _ _ (head (name_of key.Roles) May (list_of role_shape) (list_data role_data f.roles) d (at key.Roles) refl (list_right role_shape role_data role_right f.roles)) (
    first_right _ _ (head (name_of key.Resources) May (list_of facts_tag_row_shape) (list_data tag_row_data f.tag_rows) d (at key.Resources) refl (own_list_right facts_tag_row_shape tag_row_data (IsRowOf f.service) (row_right f.service) f.tag_rows own.tag_rows.0)) (
    first_right _ _ (head (name_of key.TimeZones) May (list_of time_zone_shape) (list_data time_zone_data f.time_zones) d (at key.TimeZones) refl (list_right time_zone_shape time_zone_data time_zone_right f.time_zones)) (
    first_right _ _ (number key.PolicyVersion f.policy_version.0 (at key.PolicyVersion)) (
    first_right _ _ (number key.TagVersion f.tag_version.0 (at key.TagVersion)) (
    first_right _ _ (number key.RoleVersion f.role_version.0 (at key.RoleVersion)) refl))))))))))))
