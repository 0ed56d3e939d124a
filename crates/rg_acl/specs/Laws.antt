-- What a report tells of those who are named and of those who aren't.
use Rattle.std.specs.Prelude.{◌≡◌, ℕ, ◌&&◌, ◌++◌, not, false, Bool, List, [], Contains}
use Rattle.std.specs.List.{list_all}
use Rattle.std.specs.Str.{bytes_eq, chars, encode_utf8_all}
use Rattle.rg_base.specs.Texts.{is_among, is_empty}
use Rattle.rg_pattern.specs.Atoms.{has_user}
use Rattle.rg_pattern.specs.Reading.{atoms_of}
use Rattle.rg_base.specs.declared.numbers.Serial.{Serial}
use Rattle.rg_policy.specs.Maps.{maps_of}
use Rattle.rg_policy.specs.declared.policy.Policy.{Policy}
use Rattle.rg_policy.specs.declared.policy.PolicyResource.{PolicyResource}
use Rattle.rg_policy.specs.declared.policy.ResourceMap.{ResourceMap}
use Rattle.rg_policy.specs.declared.request.AccessRequest.{AccessRequest}
use Rattle.rg_roles.specs.Members.{names_of}
use Rattle.rg_facts.specs.Flow.{eval}
use Rattle.rg_facts.specs.Sound.{all_policies}
use Rattle.rg_facts.specs.Texts.{decide}
use Rattle.rg_facts.specs.declared.facts.Facts.{Facts}
use Rattle.rg_acl.specs.Named.{is_word, named}
use Rattle.rg_acl.specs.Rows.{asked_for, group_asker, other_asker, request_of, role_asker, user_asker}
use Rattle.rg_acl.specs.Strangers.{stranger, with_members}
use Rattle.rg_acl.specs.declared.ask.ReportAsk.{ReportAsk}
use Rattle.rg_acl.specs.declared.named.Listing.TheVariants.{Users, Groups}
use Rattle.rg_acl.specs.declared.row.ReportRow.{ReportRow}
use Rattle.rg_acl.specs.declared.row.SubjectKind.{SubjectKind}
use Rattle.rg_acl.specs.declared.row.SubjectKind.TheVariants.{User, Group, Role, Other}

-- ---- those who aren't named

-- the text begins with these characters
abbrev pub Begins : List ℕ → List ℕ → Type 0
Begins front text = (rest : List ℕ) × (text ≡ front ++ rest)

-- the value has no `{USER}`
abbrev pub is_plain : List ℕ → Bool
is_plain value = not (has_user (atoms_of false value))

abbrev pub resource_is_plain : PolicyResource → Bool
resource_is_plain r = list_all is_plain r.values.items

abbrev pub map_is_plain : ResourceMap → Bool
map_is_plain m = list_all resource_is_plain m.levels.items

abbrev pub policy_is_plain : Policy → Bool
policy_is_plain p = list_all map_is_plain (maps_of p)

-- no value of a policy or a tag policy has `{USER}`; those of zones and tag rows are asked for nobody
abbrev pub values_are_plain : Facts → Bool
values_are_plain facts = list_all policy_is_plain (all_policies facts)

-- the user owns the resource; no owner is nobody
abbrev pub owns : List ℕ → List ℕ → Bool
owns owner user = not (is_empty owner) && bytes_eq owner user

-- the user isn't named, isn't the owner, and isn't `{USER}` or `{OWNER}`
abbrev pub is_unnamed : Facts → List ℕ → List ℕ → Bool
is_unnamed facts owner user = not (is_word user) && (not (owns owner user) && not (is_among user (named Users facts)))

-- each row for all others has the verdict of that user without groups
abbrev pub AreForOthers : Facts → ReportAsk → List ℕ → List ReportRow → Type 0
AreForOthers facts ask user rows = (row : ReportRow) → Contains rows row → row.kind ≡ Other → row.verdict ≡ eval facts (request_of ask (user_asker user) row.access)

-- ---- what the rows say

-- the row says what the decision on the request does
pub record Says (facts : Facts) (q : AccessRequest) (row : ReportRow) : Type 0 where
  pub verdict : row.verdict ≡ eval facts q
  pub access : (serial : Serial) → row.verdict.access ≡ (decide facts q serial).access
  pub policy : (serial : Serial) → row.verdict.policy ≡ (decide facts q serial).policy

-- whose decision the row has
abbrev pub IsDecidedFor : SubjectKind → Facts → ReportAsk → ReportRow → Type 0
IsDecidedFor User facts ask row = Says facts (request_of ask (user_asker row.name) row.access) row
IsDecidedFor Group facts ask row = Says facts (request_of ask (group_asker (stranger facts ask.resource.owner) row.name) row.access) row
IsDecidedFor Role facts ask row =
    let who = stranger facts ask.resource.owner in
    Says (with_members who facts) (request_of ask (role_asker who facts.roles.items row.name) row.access) row
IsDecidedFor Other facts ask row = Says facts (request_of ask (other_asker (stranger facts ask.resource.owner)) row.access) row

abbrev pub IsDecided : Facts → ReportAsk → ReportRow → Type 0
IsDecided facts ask row = IsDecidedFor row.kind facts ask row

-- some row is for this subject and access
pub record HasRow (rows : List ReportRow) (kind : SubjectKind) (name access : List ℕ) : Type 0 where
  pub row : ReportRow
  pub there : Contains rows row
  pub is_kind : row.kind ≡ kind
  pub is_name : row.name ≡ name
  pub is_access : row.access ≡ access

-- the text is its own bytes, read
abbrev pub IsText : List ℕ → Type 0
IsText t = chars (encode_utf8_all t) ≡ t

-- each subject has a row for each access
pub record HasRows (facts : Facts) (ask : ReportAsk) (rows : List ReportRow) : Type 0 where
  pub users : (name access : List ℕ) → IsText name → Contains (named Users facts) name → Contains (asked_for facts ask) access → HasRow rows User name access
  pub groups : (name access : List ℕ) → IsText name → Contains (named Groups facts) name → Contains (asked_for facts ask) access → HasRow rows Group name access
  pub roles : (name access : List ℕ) → IsText name → Contains (names_of facts.roles.items) name → Contains (asked_for facts ask) access → HasRow rows Role name access
  pub others : (access : List ℕ) → Contains (asked_for facts ask) access → HasRow rows Other [] access
