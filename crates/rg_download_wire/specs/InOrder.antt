-- Facts and parts of a download in key order, as all that were read are. The lists that JSON keeps as maps stand in byte order of
-- distinct keys, texts are characters, integers fit, and lists have no spare place.
use Rattle.std.specs.Prelude.{◌≡◌, ◌≤◌, ℕ, List}
use Rattle.rg_cmd.specs.declared.changes.PolicyChange.{PolicyChange}
use Rattle.rg_cmd.specs.declared.changes.TagChange.{TagChange}
use Rattle.rg_cmd.specs.declared.download.PolicyDelta.{PolicyDelta}
use Rattle.rg_cmd.specs.declared.download.PolicyPart.{PolicyPart}
use Rattle.rg_cmd.specs.declared.download.PolicyPart.TheVariants as policies
use Rattle.rg_cmd.specs.declared.download.PolicyWhole.{PolicyWhole}
use Rattle.rg_cmd.specs.declared.download.RolePart.{RolePart}
use Rattle.rg_cmd.specs.declared.download.RolePart.TheVariants as roles
use Rattle.rg_cmd.specs.declared.download.TagPart.{TagPart}
use Rattle.rg_cmd.specs.declared.download.TagPart.TheVariants as tags
use Rattle.rg_facts.specs.declared.facts.Facts.{Facts}
use Rattle.rg_policy.specs.declared.policy.TimeZoneRow.{TimeZoneRow}
use Rattle.rg_json.specs.Own.{IsText, OwnList, OwnOption}
use Rattle.rg_tags.specs.declared.row.TagRow.{TagRow}
use Rattle.rg_wire.specs.Own.{IsPolicy}
use Rattle.rg_ask_wire.specs.KeyOrder.{IsDef, IsRole, IsTagRow, IsZone}

abbrev pub IsTimeZone : TimeZoneRow → Type 0
IsTimeZone t = record { name : IsText t.name; rule : IsText t.rule }

-- a tag row of this service
abbrev pub IsRowOf : List ℕ → TagRow → Type 0
IsRowOf service r = record { own : IsTagRow r; service : r.service ≡ service }

unfoldable pub AreFacts : Facts → Type 0
AreFacts f = record {
  service : IsText f.service;
  def : IsDef f.def;
  tag_def : OwnOption IsDef f.tag_def;
  policies : OwnList IsPolicy f.policies;
  tag_policies : OwnList IsPolicy f.tag_policies;
  zones : OwnList IsZone f.zones;
  roles : OwnList IsRole f.roles;
  tag_rows : OwnList (IsRowOf f.service) f.tag_rows;
  time_zones : OwnList IsTimeZone f.time_zones;
}

-- ---- parts of a download

-- the type is a byte
abbrev pub IsPolicyChange : PolicyChange → Type 0
IsPolicyChange c = record { kind : c.change_type ≤ 255; policy : IsPolicy c.policy }

abbrev pub IsTagChange : TagChange → Type 0
IsTagChange c = record { kind : c.change_type ≤ 255; row : IsTagRow c.row }

abbrev pub IsPolicyDelta : PolicyDelta → Type 0
IsPolicyDelta d = record { changes : OwnList IsPolicyChange d.changes; zones : OwnOption (OwnList IsZone) d.zones }

abbrev pub IsPolicyWhole : PolicyWhole → Type 0
IsPolicyWhole w = record {
  def : IsDef w.def;
  tag_def : OwnOption IsDef w.tag_def;
  policies : OwnList IsPolicy w.policies;
  tag_policies : OwnList IsPolicy w.tag_policies;
  zones : OwnList IsZone w.zones;
  time_zones : OwnList IsTimeZone w.time_zones;
}

-- what says that nothing changed is no part that is read
unfoldable pub IsPolicyPart : PolicyPart → Type 0
IsPolicyPart policies.Unchanged = ⊥
IsPolicyPart (policies.Delta d) = IsPolicyDelta d
IsPolicyPart (policies.Whole w) = IsPolicyWhole w

unfoldable pub IsTagPart : TagPart → Type 0
IsTagPart tags.Unchanged = ⊥
IsTagPart (tags.Delta d) = OwnList IsTagChange d.changes
IsTagPart (tags.Whole w) = OwnList IsTagRow w.rows

unfoldable pub IsRolePart : RolePart → Type 0
IsRolePart roles.Unchanged = ⊥
IsRolePart (roles.Whole w) = OwnList IsRole w.roles
