-- Why a request is decided as it is. What is told of one policy stands in rg_standing.
use Rattle.std.specs.Prelude.{ℕ, eqb, Bool, false, List, [], ◌∷◌, map, filter, flat_map, Option, None, option_map, position, if◌then◌else◌}
use Rattle.std.specs.List.{find, list_any}
use Rattle.std.specs.Option.{option_map_or}
use Rattle.std.specs.Ordering.{int_eq}
use Rattle.rg_base.specs.Listed.{listed}
use Rattle.rg_base.specs.declared.numbers.Serial.{Serial}
use Rattle.rg_policy.specs.Kinds.{access_policy}
use Rattle.rg_policy.specs.declared.policy.Policy.{Policy}
use Rattle.rg_policy.specs.declared.request.AccessRequest.{AccessRequest}
use Rattle.rg_policy.specs.declared.tags.Tag.{Tag}
use Rattle.rg_roles.specs.Holding.{holds}
use Rattle.rg_roles.specs.declared.row.RoleRow.{RoleRow}
use Rattle.rg_tags.specs.declared.row.TagRow.{TagRow}
use Rattle.rg_zone_rules.specs.declared.row.ZoneRow.{ZoneRow}
use Rattle.rg_zone_rules.specs.Zones.{map_lies, maps_for}
use Rattle.rg_evalr.specs.declared.frame.Side.{Side}
use Rattle.rg_facts.specs.Candidates.{Candidate, Setting, candidates, context_of, is_chosen, row_lies, setting_of, zone_at}
use Rattle.rg_facts.specs.Flow.{cell_at, cell_of, cells, eval}
use Rattle.rg_facts.specs.Texts.{decide}
use Rattle.rg_facts.specs.declared.facts.Facts.{Facts}
use Rattle.rg_standing.specs.Asking.{Asked}
use Rattle.rg_standing.specs.Matching.{member_of}
use Rattle.rg_standing.specs.Standing.{effect_told, standing_of}
use Rattle.rg_standing.specs.declared.reason.Standing.{Standing}
use Rattle.rg_explain.specs.declared.explanation.Explanation.{Explanation}
use Rattle.rg_explain.specs.declared.explanation.HeldBy.{HeldBy}
use Rattle.rg_explain.specs.declared.explanation.InZone.{InZone}
use Rattle.rg_explain.specs.declared.explanation.TaggedBy.{TaggedBy}
use Rattle.rg_explain.specs.declared.explanation.Told.{Told}

-- what a candidate is asked
abbrev pub asked_of : Setting → Candidate → Asked
asked_of s c = record { frame = c.source.frame; side = c.source.side; context = context_of s c }

-- what is told of a candidate
abbrev pub told : Setting → Candidate → Told
told s c = record {
  policy = c.source.policy.id;
  name = c.source.policy.name;
  tag = option_map (λ (t : Tag). t.kind) c.tag;
  cell = cell_at s c;
  standing = standing_of (asked_of s c) c.source.policy;
}

-- the same, nothing where the zone doesn't choose it
abbrev pub told_by : Setting → Candidate → List Told
told_by s c = if is_chosen s c then told s c ∷ [] else []

-- what is told of each of these
abbrev pub told_all : Setting → List Candidate → List Told
told_all s cs = flat_map (told_by s) cs

-- the cell of a policy that stands so: for proofs
abbrev pub cell_told : Policy → Side → Standing → Option ℕ
cell_told p side standing = if int_eq p.policy_type access_policy then cell_of p.priority side (effect_told standing p.deny_all_else) else None

-- it is told as standing in the cell
abbrev pub fills : ℕ → Told → Bool
fills n t = option_map_or (λ m. eqb m n) t.cell false

-- the first cell in which some policy is told as standing
abbrev pub first_filled : List Told → Option ℕ
first_filled ts = find (λ n. list_any (fills n) ts) cells

-- ---- where the request stands

-- the place, among the zone's maps for the service, of the first that reaches down to the resource
abbrev pub map_place : Facts → AccessRequest → ZoneRow → Option ℕ
map_place facts q zone = position (map_lies facts.def q.resource.elements.items) (maps_for facts.service zone)

abbrev pub in_zone : Facts → AccessRequest → ZoneRow → InZone
in_zone facts q zone = record { zone = zone.name; map = map_place facts q zone }

-- the role holds the user
abbrev pub is_holding : List RoleRow → AccessRequest → RoleRow → Bool
is_holding rows q row = holds rows row.name q.user q.groups.items

-- it does, by the first of its users, groups and roles that is the user
abbrev pub held_by : List RoleRow → AccessRequest → RoleRow → HeldBy
held_by rows q row = record { role = row.name; by = member_of rows q row.users.items row.groups.items row.roles.items }

-- the roles that do
abbrev pub roles_holding : List RoleRow → AccessRequest → List HeldBy
roles_holding rows q = map (held_by rows q) (filter (is_holding rows q) rows)

-- a tag row with its tags
abbrev pub tagged_by : TagRow → TaggedBy
tagged_by row = record { row = row.id; tags = listed (map (λ (t : Tag). t.kind) row.tags.items) }

-- the tag rows that reach down to the resource
abbrev pub rows_lying : Facts → AccessRequest → List TagRow
rows_lying facts q = filter (row_lies facts q) facts.tag_rows.items

-- ---- the whole

-- what is told of a request
abbrev pub explanation : Facts → AccessRequest → Serial → Explanation
explanation facts q serial = record {
  zone = option_map (in_zone facts q) (zone_at facts q);
  roles = listed (roles_holding facts.roles.items q);
  rows = listed (map tagged_by (rows_lying facts q));
  policies = listed (told_all (setting_of facts q) (candidates facts q));
  cell = first_filled (told_all (setting_of facts q) (candidates facts q));
  verdict = eval facts q;
  decision = decide facts q serial;
}
