-- What a part of a download holds, printed, has no fault.
use Rattle.std.proofs.Common.{◌≡◌, ℕ, Some, None, refl}
use Rattle.serde_json.specs.Data.{no_members}
use Rattle.serde_json.specs.Find.{get}
use Rattle.rg_base.specs.Listed.{Listed}
use Rattle.rg_cmd.specs.declared.changes.PolicyChange.{PolicyChange}
use Rattle.rg_cmd.specs.declared.changes.TagChange.{TagChange}
use Rattle.rg_cmd.specs.declared.download.PolicyDelta.{PolicyDelta}
use Rattle.rg_cmd.specs.declared.download.PolicyWhole.{PolicyWhole}
use Rattle.rg_cmd.specs.declared.download.RoleWhole.{RoleWhole}
use Rattle.rg_cmd.specs.declared.download.TagDelta.{TagDelta}
use Rattle.rg_cmd.specs.declared.download.TagWhole.{TagWhole}
use Rattle.rg_json.specs.declared.shape.Need.TheVariants.{Must, May}
use Rattle.rg_json.specs.Faults.{fault_of}
use Rattle.rg_json.specs.Own.{OwnList}
use Rattle.rg_json.specs.Printing.{bool_data, count_data, list_data}
use Rattle.rg_json.specs.Shape.{truth, count, list_of}
use Rattle.rg_json.proofs.Again.{get_with}
use Rattle.rg_json.proofs.Right.{count_right, first_right, head, list_right, own_list_right}
use Rattle.rg_wire.specs.declared.key.Key.{Key}
use Rattle.rg_wire.specs.declared.key.Key.TheVariants as key
use Rattle.rg_wire.specs.Names.{name_of}
use Rattle.rg_wire.specs.Printing.{policy_data}
use Rattle.rg_wire.specs.Shapes.{policy_change_shape, policy_delta_shape, policy_shape, policy_whole_shape, role_shape, role_whole_shape, service_def_shape, tag_change_shape, tag_delta_shape, tag_row_shape, tag_whole_shape, time_zone_shape, zone_shape}
use Rattle.rg_wire.proofs.Right.{policy_right}
use Rattle.rg_zone_rules.specs.declared.row.ZoneRow.{ZoneRow}
use Rattle.rg_cmd_wire.specs.PrintedNames.{name_of as printed_name}
use Rattle.rg_cmd_wire.specs.PrintedParts.{policy_change_data, policy_change_members, policy_delta_data, policy_delta_members, policy_whole_data, policy_whole_members, role_whole_data, role_whole_members, tag_change_data, tag_change_members, tag_delta_data, tag_delta_members, tag_whole_data, tag_whole_members}
use Rattle.rg_cmd_wire.specs.PrintedRows.{def_data, role_data, tag_row_data, time_zone_data, zone_data}
use Rattle.rg_ask_wire.specs.KeyOrder.{IsDef, IsTagRow, IsZone}
use Rattle.rg_ask_wire.proofs.Asked.{def_there, policy_there, tag_row_there}
use Rattle.rg_ask_wire.proofs.Right.{def_right, role_right, tag_row_right, zone_right}
use Rattle.rg_download_wire.specs.InOrder.{IsPolicyChange, IsPolicyDelta, IsPolicyWhole, IsTagChange}
use Rattle.rg_download_wire.proofs.Right.{option_right, policies_right, time_zone_right}
use Rattle.rg_download_wire.proofs.PartsAgain.{zones_there}

zones_right : (zs : Listed ZoneRow) → OwnList IsZone zs → fault_of (list_of zone_shape) (list_data zone_data zs) ≡ None
zones_right zs own = own_list_right zone_shape zone_data IsZone zone_right zs own.0

-- ---- policies

policy_change_right : (c : PolicyChange) → IsPolicyChange c → fault_of policy_change_shape (policy_change_data c) ≡ None
unfolding policy_change_data name_of printed_name
policy_change_right c own =
    let at = λ (k : Key). get_with printed_name (name_of k) (policy_change_members c) no_members in
    let d = policy_change_data c in
    first_right _ _ (head (name_of key.ChangeType) Must count (count_data c.change_type) d (at key.ChangeType) refl (count_right c.change_type)) (
    first_right _ _ (head (name_of key.Policy) Must policy_shape (policy_data c.policy) d (at key.Policy) (policy_there c.policy) (policy_right c.policy own.policy)) (
    first_right _ _ (head (name_of key.Tag) May truth (bool_data c.tag) d (at key.Tag) refl refl) refl))

pub policy_delta_right : (x : PolicyDelta) → IsPolicyDelta x → fault_of policy_delta_shape (policy_delta_data x) ≡ None
unfolding policy_delta_data name_of printed_name list_data
policy_delta_right x own =
    let at = λ (k : Key). get_with printed_name (name_of k) (policy_delta_members x) no_members in
    let d = policy_delta_data x in
    let number = λ (k : Key) (n : ℕ) (found : get (name_of k) d ≡ Some (count_data n)). head (name_of k) Must count (count_data n) d found refl (count_right n) in
    first_right _ _ (number key.From x.from.0 (at key.From)) (
    first_right _ _ (number key.To x.to.0 (at key.To)) (
    first_right _ _ (head (name_of key.Changes) May (list_of policy_change_shape) (list_data policy_change_data x.changes) d (at key.Changes) refl (own_list_right policy_change_shape policy_change_data IsPolicyChange policy_change_right x.changes own.changes.0)) (
    first_right _ _ (option_right (name_of key.Zones) (list_of zone_shape) (list_data zone_data) (OwnList IsZone) x.zones d (at key.Zones) zones_there zones_right own.zones) refl)))

pub policy_whole_right : (w : PolicyWhole) → IsPolicyWhole w → fault_of policy_whole_shape (policy_whole_data w) ≡ None
unfolding policy_whole_data name_of printed_name list_data
policy_whole_right w own =
    let at = λ (k : Key). get_with printed_name (name_of k) (policy_whole_members w) no_members in
    let d = policy_whole_data w in
    first_right _ _ (head (name_of key.Version) Must count (count_data w.version.0) d (at key.Version) refl (count_right w.version.0)) (
    first_right _ _ (head (name_of key.Fallback) May truth (bool_data w.fallback) d (at key.Fallback) refl refl) (
    first_right _ _ (head (name_of key.Def) Must service_def_shape (def_data w.def) d (at key.Def) (def_there w.def) (def_right w.def own.def)) (
    first_right _ _ (option_right (name_of key.TagDef) service_def_shape def_data IsDef w.tag_def d (at key.TagDef) def_there def_right own.tag_def) (
    first_right _ _ (head (name_of key.Policies) May (list_of policy_shape) (list_data policy_data w.policies) d (at key.Policies) refl (policies_right w.policies own.policies)) (
    first_right _ _ (head (name_of key.TagPolicies) May (list_of policy_shape) (list_data policy_data w.tag_policies) d (at key.TagPolicies) refl (policies_right w.tag_policies own.tag_policies)) (
    first_right _ _ (head (name_of key.Zones) May (list_of zone_shape) (list_data zone_data w.zones) d (at key.Zones) refl (zones_right w.zones own.zones)) (
    first_right _ _ (head (name_of key.TimeZones) May (list_of time_zone_shape) (list_data time_zone_data w.time_zones) d (at key.TimeZones) refl (list_right time_zone_shape time_zone_data time_zone_right w.time_zones)) refl)))))))

-- ---- tag rows

tag_change_right : (c : TagChange) → IsTagChange c → fault_of tag_change_shape (tag_change_data c) ≡ None
unfolding tag_change_data name_of printed_name
tag_change_right c own =
    let at = λ (k : Key). get_with printed_name (name_of k) (tag_change_members c) no_members in
    let d = tag_change_data c in
    first_right _ _ (head (name_of key.ChangeType) Must count (count_data c.change_type) d (at key.ChangeType) refl (count_right c.change_type)) (
    first_right _ _ (head (name_of key.Row) Must tag_row_shape (tag_row_data c.row) d (at key.Row) (tag_row_there c.row) (tag_row_right c.row own.row)) refl)

pub tag_delta_right : (x : TagDelta) → OwnList IsTagChange x.changes → fault_of tag_delta_shape (tag_delta_data x) ≡ None
unfolding tag_delta_data name_of printed_name list_data
tag_delta_right x own =
    let at = λ (k : Key). get_with printed_name (name_of k) (tag_delta_members x) no_members in
    let d = tag_delta_data x in
    let number = λ (k : Key) (n : ℕ) (found : get (name_of k) d ≡ Some (count_data n)). head (name_of k) Must count (count_data n) d found refl (count_right n) in
    first_right _ _ (number key.From x.from.0 (at key.From)) (
    first_right _ _ (number key.To x.to.0 (at key.To)) (
    first_right _ _ (head (name_of key.Changes) May (list_of tag_change_shape) (list_data tag_change_data x.changes) d (at key.Changes) refl (own_list_right tag_change_shape tag_change_data IsTagChange tag_change_right x.changes own.0)) refl))

pub tag_whole_right : (w : TagWhole) → OwnList IsTagRow w.rows → fault_of tag_whole_shape (tag_whole_data w) ≡ None
unfolding tag_whole_data name_of printed_name list_data
tag_whole_right w own =
    let at = λ (k : Key). get_with printed_name (name_of k) (tag_whole_members w) no_members in
    let d = tag_whole_data w in
    first_right _ _ (head (name_of key.Version) Must count (count_data w.version.0) d (at key.Version) refl (count_right w.version.0)) (
    first_right _ _ (head (name_of key.Rows) May (list_of tag_row_shape) (list_data tag_row_data w.rows) d (at key.Rows) refl (own_list_right tag_row_shape tag_row_data IsTagRow tag_row_right w.rows own.0)) refl)

-- ---- roles

pub role_whole_right : (w : RoleWhole) → fault_of role_whole_shape (role_whole_data w) ≡ None
unfolding role_whole_data name_of printed_name list_data
role_whole_right w =
    let at = λ (k : Key). get_with printed_name (name_of k) (role_whole_members w) no_members in
    let d = role_whole_data w in
    first_right _ _ (head (name_of key.Version) Must count (count_data w.version.0) d (at key.Version) refl (count_right w.version.0)) (
    first_right _ _ (head (name_of key.Roles) May (list_of role_shape) (list_data role_data w.roles) d (at key.Roles) refl (list_right role_shape role_data role_right w.roles)) refl)
