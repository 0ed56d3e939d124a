-- Facts that were printed are read again as themselves.
use Rattle.std.proofs.Common.{◌≡◌, ℕ, List, ◌++◌, Option, Some, None, option_map, option_and_then, false, sym, ap, ◌∙◌}
use Rattle.serde_json.specs.Data.{Data, no_members}
use Rattle.serde_json.specs.Find.{get}
use Rattle.rg_facts.specs.declared.facts.Facts.{Facts}
use Rattle.rg_policy.specs.declared.policy.TimeZoneRow.{TimeZoneRow}
use Rattle.rg_tags.specs.declared.row.TagRow.{TagRow}
use Rattle.rg_json.specs.Fields.{field, list_at, optional_at, unless_null}
use Rattle.rg_json.specs.Own.{OwnOption}
use Rattle.rg_json.specs.Printing.{option_data}
use Rattle.rg_json.proofs.Again.{bool_again, count_again, get_with, own_again, text_again}
use Rattle.rg_wire.specs.declared.key.Key.{Key}
use Rattle.rg_wire.specs.declared.key.Key.TheVariants as key
use Rattle.rg_wire.specs.Names.{name_of}
use Rattle.rg_wire.specs.Own.{IsPolicy}
use Rattle.rg_wire.specs.Printing.{policy_data}
use Rattle.rg_wire.specs.Records.{facts_of, policy_of, role_of, service_def_of, tag_row_for, tag_row_of, time_zone_of, zone_of}
use Rattle.rg_wire.proofs.Policies.{policy_again}
use Rattle.rg_cmd_wire.specs.PrintedNames.{name_of as printed_name}
use Rattle.rg_cmd_wire.specs.PrintedRows.{def_data, role_data, tag_row_data, time_zone_data, time_zone_members, zone_data}
use Rattle.rg_ask_wire.specs.KeyOrder.{IsDef, IsRole, IsZone}
use Rattle.rg_ask_wire.proofs.Asked.{def_there}
use Rattle.rg_ask_wire.proofs.Rows.{def_again, role_again, tag_row_again, within_again, zone_again}
use Rattle.rg_download_wire.specs.InOrder.{AreFacts, IsRowOf, IsTimeZone}
use Rattle.rg_download_wire.specs.PrintedFacts.{facts_data, row_members, rule_members}

pub option_again : {X : Type 0} (read : Data → X) (print : X → Data) (own : X → Type 0) → ((x : X) → unless_null (print x) ≡ Some (print x)) → ((x : X) → own x → read (print x) ≡ x)
    → (k : List ℕ) (o : Option X) (d : Data) → get k d ≡ Some (option_data print o) → OwnOption own o → optional_at read k d ≡ o
unfolding optional_at field
option_again read print own there again k None d found is = ap (λ y. option_map read (option_and_then unless_null y)) found
option_again read print own there again k (Some x) d found is =
    ap (λ y. option_map read (option_and_then unless_null y)) found ∙ ap (option_map read) (there x) ∙ ap Some (again x is)

pub time_zone_again : (t : TimeZoneRow) → IsTimeZone t → time_zone_of (time_zone_data t) ≡ t
unfolding time_zone_of time_zone_data name_of printed_name
time_zone_again t own =
    let at = λ (k : Key). get_with printed_name (name_of k) (time_zone_members t) no_members in
    let d = time_zone_data t in
    λ i. record {
      name = text_again (name_of key.Name) t.name d (at key.Name) own.name i;
      rule = text_again (name_of key.Rule) t.rule d (at key.Rule) own.rule i;
    }

-- the service that a row names is that of the facts
row_again : (service : List ℕ) (r : TagRow) → IsRowOf service r → tag_row_for service (tag_row_data r) ≡ r
unfolding tag_row_of tag_row_for
row_again service r is =
    let again = tag_row_again r is.own in
    ap (λ (s : List ℕ). tag_row_for s (tag_row_data r)) (sym is.service ∙ sym (ap (λ (x : TagRow). x.service) again)) ∙ again

pub facts_again : (f : Facts) → AreFacts f → facts_of (facts_data f) ≡ f
unfolding facts_of facts_data AreFacts name_of printed_name
facts_again f own =
    let at = λ (k : Key). get_with printed_name (name_of k) (rule_members f ++ row_members f) no_members in
    let d = facts_data f in
    let service = text_again (name_of key.Service) f.service d (at key.Service) own.service in
    let def = ap service_def_of (within_again (name_of key.ServiceDef) (def_data f.def) d (at key.ServiceDef) (def_there f.def)) ∙ def_again f.def own.def in
    let rows = ap (λ (s : List ℕ). list_at (tag_row_for s) (name_of key.Resources) d) service
    ∙ own_again (tag_row_for f.service) tag_row_data (IsRowOf f.service) (row_again f.service) (name_of key.Resources) f.tag_rows d (at key.Resources) own.tag_rows in
    λ i. record {
      service = service i;
      fallback = bool_again false (name_of key.Fallback) f.fallback d (at key.Fallback) i;
      def = def i;
      tag_def = option_again service_def_of def_data IsDef def_there def_again (name_of key.TagServiceDef) f.tag_def d (at key.TagServiceDef) own.tag_def i;
      policies = own_again policy_of policy_data IsPolicy policy_again (name_of key.Policies) f.policies d (at key.Policies) own.policies i;
      tag_policies = own_again policy_of policy_data IsPolicy policy_again (name_of key.TagPolicies) f.tag_policies d (at key.TagPolicies) own.tag_policies i;
      zones = own_again zone_of zone_data IsZone zone_again (name_of key.Zones) f.zones d (at key.Zones) own.zones i;
      roles = own_again role_of role_data IsRole role_again (name_of key.Roles) f.roles d (at key.Roles) own.roles i;
      tag_rows = rows i;
      time_zones = own_again time_zone_of time_zone_data IsTimeZone time_zone_again (name_of key.TimeZones) f.time_zones d (at key.TimeZones) own.time_zones i;
      policy_version = record { 0 = count_again 1 (name_of key.PolicyVersion) f.policy_version.0 d (at key.PolicyVersion) i };
      tag_version = record { 0 = count_again 1 (name_of key.TagVersion) f.tag_version.0 d (at key.TagVersion) i };
      role_version = record { 0 = count_again 0 (name_of key.RoleVersion) f.role_version.0 d (at key.RoleVersion) i };
    }
