-- The facts to which a download leads.
use Rattle.std.specs.Prelude.{[], None}
use Rattle.rg_base.specs.Listed.{listed}
use Rattle.rg_facts.specs.declared.facts.Facts.{Facts}
use Rattle.rg_cmd.specs.declared.download.Download.{Download}
use Rattle.rg_cmd.specs.declared.download.PolicyDelta.{PolicyDelta}
use Rattle.rg_cmd.specs.declared.download.PolicyPart.{PolicyPart}
use Rattle.rg_cmd.specs.declared.download.PolicyPart.TheVariants.{Unchanged as PoliciesUnchanged, Delta as PoliciesDelta, Whole as PoliciesWhole}
use Rattle.rg_cmd.specs.declared.download.RoleDelta.{RoleDelta}
use Rattle.rg_cmd.specs.declared.download.RolePart.{RolePart}
use Rattle.rg_cmd.specs.declared.download.RolePart.TheVariants.{Unchanged as RolesUnchanged, Whole as RolesWhole}
use Rattle.rg_cmd.specs.declared.download.TagDelta.{TagDelta}
use Rattle.rg_cmd.specs.declared.download.TagPart.{TagPart}
use Rattle.rg_cmd.specs.declared.download.TagPart.TheVariants.{Unchanged as TagsUnchanged, Delta as TagsDelta, Whole as TagsWhole}
use Rattle.rg_delta.specs.Applied.{applied}

-- ---- parts that are whole

abbrev pub with_policies : Facts → PolicyPart → Facts
with_policies facts PoliciesUnchanged = facts
with_policies facts (PoliciesDelta delta) = facts
with_policies facts (PoliciesWhole whole) = record facts {
  fallback = whole.fallback;
  def = whole.def;
  tag_def = whole.tag_def;
  policies = whole.policies;
  tag_policies = whole.tag_policies;
  zones = whole.zones;
  time_zones = whole.time_zones;
  policy_version = whole.version;
}

abbrev pub with_tags : Facts → TagPart → Facts
with_tags facts TagsUnchanged = facts
with_tags facts (TagsDelta delta) = facts
with_tags facts (TagsWhole whole) = record facts { tag_rows = whole.rows; tag_version = whole.version }

abbrev pub with_roles : Facts → RolePart → Facts
with_roles facts RolesUnchanged = facts
with_roles facts (RolesWhole whole) = record facts { roles = whole.roles; role_version = whole.version }

-- the facts with the fields of the parts that are whole
abbrev pub replaced : Facts → Download → Facts
replaced facts d = with_roles (with_tags (with_policies facts d.policies) d.tags) d.roles

-- ---- parts that are deltas

-- a delta that changes nothing
abbrev pub no_policies : Facts → PolicyDelta
no_policies facts = record { from = facts.policy_version; to = facts.policy_version; changes = listed []; zones = None }

abbrev pub no_tags : Facts → TagDelta
no_tags facts = record { from = facts.tag_version; to = facts.tag_version; changes = listed [] }

abbrev pub no_roles : Facts → RoleDelta
no_roles facts = record { from = facts.role_version; to = facts.role_version; roles = None }

-- the part's delta; of a part that is unchanged or whole one that changes nothing
abbrev pub policies_in : Facts → PolicyPart → PolicyDelta
policies_in facts PoliciesUnchanged = no_policies facts
policies_in facts (PoliciesDelta delta) = delta
policies_in facts (PoliciesWhole whole) = no_policies facts

abbrev pub tags_in : Facts → TagPart → TagDelta
tags_in facts TagsUnchanged = no_tags facts
tags_in facts (TagsDelta delta) = delta
tags_in facts (TagsWhole whole) = no_tags facts

-- ---- the download

-- the facts with the fields of the whole parts, and then with the deltas applied
abbrev pub led : Facts → Download → Facts
led facts d = applied (replaced facts d) (policies_in (replaced facts d) d.policies) (tags_in (replaced facts d) d.tags) (no_roles (replaced facts d))
