-- What a part of a download holds, printed, is read again as itself.
use Rattle.std.proofs.Common.{◌≡◌, ◌≤◌, ℕ, Some, map, false, refl, sym, ap, ◌∙◌, arith}
use Rattle.serde_json.specs.Data.{Data, no_members}
use Rattle.serde_json.specs.Find.{get}
use Rattle.rg_base.specs.Listed.{Listed, listed}
use Rattle.rg_cmd.specs.declared.changes.PolicyChange.{PolicyChange}
use Rattle.rg_cmd.specs.declared.changes.TagChange.{TagChange}
use Rattle.rg_cmd.specs.declared.download.PolicyDelta.{PolicyDelta}
use Rattle.rg_cmd.specs.declared.download.PolicyWhole.{PolicyWhole}
use Rattle.rg_cmd.specs.declared.download.RoleWhole.{RoleWhole}
use Rattle.rg_cmd.specs.declared.download.TagDelta.{TagDelta}
use Rattle.rg_cmd.specs.declared.download.TagWhole.{TagWhole}
use Rattle.rg_json.specs.Fields.{items_in, list_of, unless_null}
use Rattle.rg_json.specs.Own.{OwnList}
use Rattle.rg_json.specs.Printing.{count_data, list_data}
use Rattle.rg_json.proofs.Again.{bool_again, count_again, each_again, get_with, own_again}
use Rattle.rg_json.proofs.Views.{data_list-of}
use Rattle.rg_wire.specs.declared.key.Key.{Key}
use Rattle.rg_wire.specs.declared.key.Key.TheVariants as key
use Rattle.rg_wire.specs.Names.{name_of}
use Rattle.rg_wire.specs.Own.{IsPolicy}
use Rattle.rg_wire.specs.Printing.{policy_data}
use Rattle.rg_wire.specs.Records.{policy_of, role_of, service_def_of, tag_row_of, time_zone_of, zone_of}
use Rattle.rg_wire.proofs.Policies.{policy_again}
use Rattle.rg_zone_rules.specs.declared.row.ZoneRow.{ZoneRow}
use Rattle.rg_cmd_wire.specs.PrintedNames.{name_of as printed_name}
use Rattle.rg_cmd_wire.specs.PrintedParts.{policy_change_data, policy_change_members, policy_delta_data, policy_delta_members, policy_whole_data, policy_whole_members, role_whole_data, role_whole_members, tag_change_data, tag_change_members, tag_delta_data, tag_delta_members, tag_whole_data, tag_whole_members}
use Rattle.rg_cmd_wire.specs.PrintedRows.{def_data, role_data, tag_row_data, time_zone_data, zone_data}
use Rattle.rg_ask_wire.specs.KeyOrder.{IsDef, IsRole, IsTagRow, IsZone}
use Rattle.rg_ask_wire.proofs.Asked.{def_there, policy_there, tag_row_there}
use Rattle.rg_ask_wire.proofs.Rows.{def_again, role_again, tag_row_again, within_again, zone_again}
use Rattle.rg_download_wire.specs.InOrder.{IsPolicyChange, IsPolicyDelta, IsPolicyWhole, IsTagChange, IsTimeZone}
use Rattle.rg_download_wire.specs.Parts.{change_type_of, policy_change_of, policy_delta_of, policy_whole_of, role_whole_of, tag_change_of, tag_delta_of, tag_whole_of}
use Rattle.rg_download_wire.proofs.Again.{option_again, time_zone_again}

type_again : (n : ℕ) (d : Data) → get (name_of key.ChangeType) d ≡ Some (count_data n) → n ≤ 255 → change_type_of d ≡ n
unfolding change_type_of
type_again n d found h = omega (arith, count_again 0 (name_of key.ChangeType) n d found, h)

-- ---- policies

policy_change_again : (c : PolicyChange) → IsPolicyChange c → policy_change_of (policy_change_data c) ≡ c
unfolding policy_change_of policy_change_data name_of printed_name
policy_change_again c own =
    let at = λ (k : Key). get_with printed_name (name_of k) (policy_change_members c) no_members in
    let d = policy_change_data c in
    λ i. record {
      change_type = type_again c.change_type d (at key.ChangeType) own.kind i;
      tag = bool_again false (name_of key.Tag) c.tag d (at key.Tag) i;
      policy = (ap policy_of (within_again (name_of key.Policy) (policy_data c.policy) d (at key.Policy) (policy_there c.policy)) ∙ policy_again c.policy own.policy) i;
    }

-- zones that stand by themselves
zones_again : (zs : Listed ZoneRow) → OwnList IsZone zs → list_of zone_of (list_data zone_data zs) ≡ zs
unfolding list_of items_in list_data
zones_again zs own =
    ap (λ ds. listed (map zone_of ds)) (data_list-of (map zone_data zs.items))
    ∙ ap (λ ys. listed ys) (each_again zone_of zone_data IsZone zone_again zs.items own.0)
    ∙ sym own.1

pub zones_there : (zs : Listed ZoneRow) → unless_null (list_data zone_data zs) ≡ Some (list_data zone_data zs)
unfolding list_data
zones_there zs = refl

pub policy_delta_again : (x : PolicyDelta) → IsPolicyDelta x → policy_delta_of (policy_delta_data x) ≡ x
unfolding policy_delta_of policy_delta_data name_of printed_name
policy_delta_again x own =
    let at = λ (k : Key). get_with printed_name (name_of k) (policy_delta_members x) no_members in
    let d = policy_delta_data x in
    λ i. record {
      from = record { 0 = count_again 0 (name_of key.From) x.from.0 d (at key.From) i };
      to = record { 0 = count_again 0 (name_of key.To) x.to.0 d (at key.To) i };
      changes = own_again policy_change_of policy_change_data IsPolicyChange policy_change_again (name_of key.Changes) x.changes d (at key.Changes) own.changes i;
      zones = option_again (list_of zone_of) (list_data zone_data) (OwnList IsZone) zones_there zones_again (name_of key.Zones) x.zones d (at key.Zones) own.zones i;
    }

pub policy_whole_again : (w : PolicyWhole) → IsPolicyWhole w → policy_whole_of (policy_whole_data w) ≡ w
unfolding policy_whole_of policy_whole_data name_of printed_name
policy_whole_again w own =
    let at = λ (k : Key). get_with printed_name (name_of k) (policy_whole_members w) no_members in
    let d = policy_whole_data w in
    let def = ap service_def_of (within_again (name_of key.Def) (def_data w.def) d (at key.Def) (def_there w.def)) ∙ def_again w.def own.def in
    λ i. record {
      version = record { 0 = count_again 0 (name_of key.Version) w.version.0 d (at key.Version) i };
      fallback = bool_again false (name_of key.Fallback) w.fallback d (at key.Fallback) i;
      def = def i;
      tag_def = option_again service_def_of def_data IsDef def_there def_again (name_of key.TagDef) w.tag_def d (at key.TagDef) own.tag_def i;
      policies = own_again policy_of policy_data IsPolicy policy_again (name_of key.Policies) w.policies d (at key.Policies) own.policies i;
      tag_policies = own_again policy_of policy_data IsPolicy policy_again (name_of key.TagPolicies) w.tag_policies d (at key.TagPolicies) own.tag_policies i;
      zones = own_again zone_of zone_data IsZone zone_again (name_of key.Zones) w.zones d (at key.Zones) own.zones i;
      time_zones = own_again time_zone_of time_zone_data IsTimeZone time_zone_again (name_of key.TimeZones) w.time_zones d (at key.TimeZones) own.time_zones i;
    }

-- ---- tag rows

tag_change_again : (c : TagChange) → IsTagChange c → tag_change_of (tag_change_data c) ≡ c
unfolding tag_change_of tag_change_data name_of printed_name
tag_change_again c own =
    let at = λ (k : Key). get_with printed_name (name_of k) (tag_change_members c) no_members in
    let d = tag_change_data c in
    λ i. record {
      change_type = type_again c.change_type d (at key.ChangeType) own.kind i;
      row = (ap tag_row_of (within_again (name_of key.Row) (tag_row_data c.row) d (at key.Row) (tag_row_there c.row)) ∙ tag_row_again c.row own.row) i;
    }

pub tag_delta_again : (x : TagDelta) → OwnList IsTagChange x.changes → tag_delta_of (tag_delta_data x) ≡ x
unfolding tag_delta_of tag_delta_data name_of printed_name
tag_delta_again x own =
    let at = λ (k : Key). get_with printed_name (name_of k) (tag_delta_members x) no_members in
    let d = tag_delta_data x in
    λ i. record {
      from = record { 0 = count_again 0 (name_of key.From) x.from.0 d (at key.From) i };
      to = record { 0 = count_again 0 (name_of key.To) x.to.0 d (at key.To) i };
      changes = own_again tag_change_of tag_change_data IsTagChange tag_change_again (name_of key.Changes) x.changes d (at key.Changes) own i;
    }

pub tag_whole_again : (w : TagWhole) → OwnList IsTagRow w.rows → tag_whole_of (tag_whole_data w) ≡ w
unfolding tag_whole_of tag_whole_data name_of printed_name
tag_whole_again w own =
    let at = λ (k : Key). get_with printed_name (name_of k) (tag_whole_members w) no_members in
    let d = tag_whole_data w in
    λ i. record {
      version = record { 0 = count_again 0 (name_of key.Version) w.version.0 d (at key.Version) i };
      rows = own_again tag_row_of tag_row_data IsTagRow tag_row_again (name_of key.Rows) w.rows d (at key.Rows) own i;
    }

-- ---- roles

pub role_whole_again : (w : RoleWhole) → OwnList IsRole w.roles → role_whole_of (role_whole_data w) ≡ w
unfolding role_whole_of role_whole_data name_of printed_name
role_whole_again w own =
    let at = λ (k : Key). get_with printed_name (name_of k) (role_whole_members w) no_members in
    let d = role_whole_data w in
    λ i. record {
      version = record { 0 = count_again 0 (name_of key.Version) w.version.0 d (at key.Version) i };
      roles = own_again role_of role_data IsRole role_again (name_of key.Roles) w.roles d (at key.Roles) own i;
    }
