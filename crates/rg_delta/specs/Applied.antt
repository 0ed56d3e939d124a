-- Facts after the deltas of a download.
use Rattle.std.specs.Prelude.{List, fold, Option, Some, None, if◌then◌else◌}
use Rattle.rg_base.specs.Listed.{listed}
use Rattle.rg_policy.specs.declared.policy.Policy.{Policy}
use Rattle.rg_tags.specs.declared.row.TagRow.{TagRow}
use Rattle.rg_cmd.specs.Lookups.{has_id, has_row_id}
use Rattle.rg_cmd.specs.declared.changes.PolicyChange.{PolicyChange}
use Rattle.rg_cmd.specs.declared.changes.TagChange.{TagChange}
use Rattle.rg_cmd.specs.declared.download.PolicyDelta.{PolicyDelta}
use Rattle.rg_cmd.specs.declared.download.RoleDelta.{RoleDelta}
use Rattle.rg_cmd.specs.declared.download.TagDelta.{TagDelta}
use Rattle.rg_facts.specs.declared.facts.Facts.{Facts}
use Rattle.rg_delta.specs.Edits.{changed}

-- the policies of the service after a change: one of a tag policy is none of theirs
abbrev pub policies_after : List Policy → PolicyChange → List Policy
policies_after policies c = if c.tag then policies else changed (has_id c.policy.id.0) c.change_type c.policy policies

-- the policies of its tag service after a change
abbrev pub tag_policies_after : List Policy → PolicyChange → List Policy
tag_policies_after policies c = if c.tag then changed (has_id c.policy.id.0) c.change_type c.policy policies else policies

-- the tag rows after a change
abbrev pub rows_after : List TagRow → TagChange → List TagRow
rows_after rows c = changed (has_row_id c.row.id) c.change_type c.row rows

-- the new ones where the delta has them
abbrev pub unless_new : {X : Type 0} → X → Option X → X
unless_new old None = old
unless_new old (Some new) = new

-- the facts after the three deltas: the changes in order, zones and roles where the deltas have them, and the versions
-- at which they end
abbrev pub applied : Facts → PolicyDelta → TagDelta → RoleDelta → Facts
applied facts policies tags roles = record facts {
  policies = listed (fold policies_after facts.policies.items policies.changes.items);
  tag_policies = listed (fold tag_policies_after facts.tag_policies.items policies.changes.items);
  zones = unless_new facts.zones policies.zones;
  roles = unless_new facts.roles roles.roles;
  tag_rows = listed (fold rows_after facts.tag_rows.items tags.changes.items);
  policy_version = policies.to;
  tag_version = tags.to;
  role_version = roles.to;
}
