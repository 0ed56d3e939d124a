-- What is printed for an explanation. Members are printed in byte order of their keys, which `put` keeps.
use Rattle.std.specs.Prelude.{ℕ, Bool, List, [], ◌∷◌, ◌++◌, Option, Some, None, codes}
use Rattle.std.specs.Str.{encode_utf8_all}
use Rattle.serde_json.specs.Data.{Data, Members, no_members, object, put, string}
use Rattle.serde_json.specs.Written.{compact_text}
use Rattle.rg_base.specs.Listed.{Listed, listed}
use Rattle.rg_base.specs.declared.pair.Pair.{Pair}
use Rattle.rg_json.specs.Printing.{bool_data, count_data, integer_data, list_data, object_of, option_data, text_data}
use Rattle.rg_wire.specs.Printing.{access_data}
use Rattle.rg_policy.specs.declared.request.AccessRequest.{AccessRequest}
use Rattle.rg_policy.specs.declared.request.Element.{Element}
use Rattle.rg_policy.specs.declared.request.Resource.{Resource}
use Rattle.rg_facts.specs.declared.decision.ItemPlace.{ItemPlace}
use Rattle.rg_standing.specs.declared.reason.Match.{Match}
use Rattle.rg_standing.specs.declared.reason.Matches.{Matches}
use Rattle.rg_standing.specs.declared.reason.Miss.{Miss}
use Rattle.rg_standing.specs.declared.reason.Miss.TheVariants.{Level, Beyond, Apart}
use Rattle.rg_standing.specs.declared.reason.Standing.{Standing}
use Rattle.rg_standing.specs.declared.reason.Standing.TheVariants.{FarOff, Disabled, Unscheduled, Elsewhere, Unmet, InPlay}
use Rattle.rg_standing.specs.declared.reason.Subject.{Subject}
use Rattle.rg_standing.specs.declared.reason.Subject.TheVariants.{EveryUser, Owner, User, Group, Everybody, Role}
use Rattle.rg_explain.specs.declared.explanation.Explanation.{Explanation}
use Rattle.rg_explain.specs.declared.explanation.HeldBy.{HeldBy}
use Rattle.rg_explain.specs.declared.explanation.InZone.{InZone}
use Rattle.rg_explain.specs.declared.explanation.TaggedBy.{TaggedBy}
use Rattle.rg_explain.specs.declared.explanation.Told.{Told}
use Rattle.rg_explain_wire.specs.Listing.{far_count, listed_policies}
use Rattle.rg_explain_wire.specs.declared.key.Key.{Key}
use Rattle.rg_explain_wire.specs.declared.key.Key.TheVariants as key

unfoldable pub name_of : Key → List ℕ
name_of key.Access = codes "access"
name_of key.AccessTime = codes "accessTime"
name_of key.AccessType = codes "accessType"
name_of key.Allow = codes "allow"
name_of key.AllowException = codes "allowException"
name_of key.By = codes "by"
name_of key.Cell = codes "cell"
name_of key.ClientAddress = codes "clientIPAddress"
name_of key.Context = codes "context"
name_of key.Deny = codes "deny"
name_of key.DenyException = codes "denyException"
name_of key.Elements = codes "elements"
name_of key.FarOff = codes "farOff"
name_of key.Filter = codes "filter"
name_of key.Id = codes "id"
name_of key.Is = codes "is"
name_of key.Item = codes "item"
name_of key.Items = codes "items"
name_of key.Level = codes "level"
name_of key.Map = codes "map"
name_of key.Maps = codes "maps"
name_of key.Mask = codes "mask"
name_of key.Name = codes "name"
name_of key.OwnerUser = codes "ownerUser"
name_of key.Path = codes "path"
name_of key.Policies = codes "policies"
name_of key.PolicyId = codes "policyId"
name_of key.Request = codes "request"
name_of key.Resource = codes "resource"
name_of key.Roles = codes "roles"
name_of key.RowFilter = codes "rowFilter"
name_of key.Rows = codes "rows"
name_of key.Tag = codes "tag"
name_of key.Tags = codes "tags"
name_of key.Unmet = codes "unmet"
name_of key.User = codes "user"
name_of key.UserGroups = codes "userGroups"
name_of key.Zone = codes "zone"

-- ---- the request

-- a map of names and texts, filled from the last one, so that of equal names the first stays
abbrev pub texts_by_name : {X : Type 0} → (X → List ℕ × List ℕ) → List X → Members
texts_by_name pair_of [] = no_members
texts_by_name pair_of (x ∷ xs) = put (encode_utf8_all (pair_of x).0) (text_data (pair_of x).1) (texts_by_name pair_of xs)

unfoldable pub elements_data : Listed Element → Data
elements_data es = object (texts_by_name (λ (e : Element). (e.level, e.value)) es.items)

unfoldable pub context_data : Listed Pair → Data
context_data ps = object (texts_by_name (λ (p : Pair). (p.key, p.value)) ps.items)

abbrev pub asked_resource_members : Resource → List (Key × Data)
asked_resource_members r = (key.Elements, elements_data r.elements) ∷ (key.OwnerUser, text_data r.owner) ∷ []

unfoldable pub asked_resource_data : Resource → Data
asked_resource_data r = object_of name_of (asked_resource_members r)

-- the keys are those of a `decide` line
abbrev pub request_members : AccessRequest → List (Key × Data)
request_members q =
    (key.AccessTime, integer_data q.moment.0) ∷
    (key.AccessType, text_data q.access) ∷
    (key.ClientAddress, text_data q.address) ∷
    (key.Context, context_data q.context) ∷
    (key.Resource, asked_resource_data q.resource) ∷
    (key.User, text_data q.user) ∷
    (key.UserGroups, list_data text_data q.groups) ∷ []

unfoldable pub request_data : AccessRequest → Data
request_data q = object_of name_of (request_members q)

-- ---- what keeps a map out

unfoldable pub miss_word : Miss → List ℕ
miss_word (Level name) = codes "level"
miss_word (Beyond name) = codes "beyond"
miss_word Apart = codes "apart"

abbrev pub miss_level : Miss → Option (List ℕ)
miss_level (Level name) = Some name
miss_level (Beyond name) = Some name
miss_level Apart = None

abbrev pub miss_members : Miss → List (Key × Data)
miss_members m = (key.Is, string (miss_word m)) ∷ (key.Level, option_data text_data (miss_level m)) ∷ []

unfoldable pub miss_data : Miss → Data
miss_data m = object_of name_of (miss_members m)

-- ---- what matches

unfoldable pub subject_word : Subject → List ℕ
subject_word EveryUser = codes "{USER}"
subject_word Owner = codes "{OWNER}"
subject_word User = codes "user"
subject_word (Group name) = codes "group"
subject_word Everybody = codes "public"
subject_word (Role name) = codes "role"

abbrev pub subject_name : Subject → Option (List ℕ)
subject_name (Group name) = Some name
subject_name (Role name) = Some name
subject_name EveryUser = None
subject_name Owner = None
subject_name User = None
subject_name Everybody = None

abbrev pub subject_members : Subject → List (Key × Data)
subject_members s = (key.Is, string (subject_word s)) ∷ (key.Name, option_data text_data (subject_name s)) ∷ []

unfoldable pub subject_data : Subject → Data
subject_data s = object_of name_of (subject_members s)

abbrev pub match_members : Match → List (Key × Data)
match_members m = (key.By, option_data subject_data m.subject) ∷ (key.Item, count_data m.item) ∷ []

unfoldable pub match_data : Match → Data
match_data m = object_of name_of (match_members m)

abbrev pub matches_members : Matches → List (Key × Data)
matches_members m =
    (key.Allow, option_data match_data m.allow) ∷
    (key.AllowException, option_data match_data m.allow_exception) ∷
    (key.Deny, option_data match_data m.deny) ∷
    (key.DenyException, option_data match_data m.deny_exception) ∷
    (key.Filter, option_data match_data m.filter) ∷
    (key.Mask, option_data match_data m.mask) ∷ []

unfoldable pub matches_data : Matches → Data
matches_data m = object_of name_of (matches_members m)

-- ---- a policy

unfoldable pub standing_word : Standing → List ℕ
standing_word FarOff = codes "far off"
standing_word Disabled = codes "disabled"
standing_word Unscheduled = codes "unscheduled"
standing_word (Elsewhere misses) = codes "elsewhere"
standing_word (Unmet condition) = codes "unmet"
standing_word (InPlay matches) = codes "in play"

abbrev pub told_misses : Standing → Option (Listed Miss)
told_misses (Elsewhere misses) = Some misses
told_misses FarOff = None
told_misses Disabled = None
told_misses Unscheduled = None
told_misses (Unmet condition) = None
told_misses (InPlay matches) = None

abbrev pub told_condition : Standing → Option (List ℕ)
told_condition (Unmet condition) = Some condition
told_condition FarOff = None
told_condition Disabled = None
told_condition Unscheduled = None
told_condition (Elsewhere misses) = None
told_condition (InPlay matches) = None

abbrev pub told_matches : Standing → Option Matches
told_matches (InPlay matches) = Some matches
told_matches FarOff = None
told_matches Disabled = None
told_matches Unscheduled = None
told_matches (Elsewhere misses) = None
told_matches (Unmet condition) = None

-- which policy it is, and how it stands
abbrev pub standing_members : Told → List (Key × Data)
standing_members t =
    (key.Cell, option_data count_data t.cell) ∷
    (key.Id, integer_data t.policy.0) ∷
    (key.Is, string (standing_word t.standing)) ∷
    (key.Items, option_data matches_data (told_matches t.standing)) ∷
    (key.Maps, option_data (list_data miss_data) (told_misses t.standing)) ∷ []

abbrev pub told_members : Told → List (Key × Data)
told_members t = standing_members t ++
    (key.Name, text_data t.name) ∷
    (key.Tag, option_data text_data t.tag) ∷
    (key.Unmet, option_data text_data (told_condition t.standing)) ∷ []

unfoldable pub told_data : Told → Data
told_data t = object_of name_of (told_members t)

-- ---- the whole

abbrev pub place_members : ItemPlace → List (Key × Data)
place_members p = (key.Id, integer_data p.policy.0) ∷ (key.Item, count_data p.item) ∷ (key.Tag, bool_data p.tag) ∷ []

unfoldable pub place_data : ItemPlace → Data
place_data p = object_of name_of (place_members p)

abbrev pub row_members : TaggedBy → List (Key × Data)
row_members r = (key.Id, integer_data r.row) ∷ (key.Tags, list_data text_data r.tags) ∷ []

unfoldable pub row_data : TaggedBy → Data
row_data r = object_of name_of (row_members r)

abbrev pub zone_members : InZone → List (Key × Data)
zone_members z = (key.Map, option_data count_data z.map) ∷ (key.Name, text_data z.zone) ∷ []

unfoldable pub zone_data : InZone → Data
zone_data z = object_of name_of (zone_members z)

abbrev pub role_members : HeldBy → List (Key × Data)
role_members h = (key.By, option_data subject_data h.by) ∷ (key.Name, text_data h.role) ∷ []

unfoldable pub role_data : HeldBy → Data
role_data h = object_of name_of (role_members h)

-- what is decided, and by what
abbrev pub decided_members : Explanation → List (Key × Data)
decided_members e =
    (key.Access, access_data e.verdict.access) ∷
    (key.Cell, option_data count_data e.cell) ∷
    (key.Mask, option_data place_data e.verdict.mask) ∷
    (key.PolicyId, integer_data e.verdict.policy.0) ∷
    (key.RowFilter, option_data place_data e.verdict.filter) ∷ []

-- what is asked, and where it stands
abbrev pub asked_members : AccessRequest → Explanation → List (Key × Data)
asked_members q e =
    (key.Path, text_data e.decision.path) ∷
    (key.Request, request_data q) ∷
    (key.Roles, list_data role_data e.roles) ∷
    (key.Rows, list_data row_data e.rows) ∷
    (key.Zone, option_data zone_data e.zone) ∷ []

-- of a request, with all policies or with those that aren't far off
abbrev pub explanation_members : Bool → AccessRequest → Explanation → List (Key × Data)
explanation_members all q e = decided_members e ++ (asked_members q e
    ++ ((key.FarOff, count_data (far_count e)) ∷ (key.Policies, list_data told_data (listed (listed_policies all e))) ∷ []))

unfoldable pub explanation_data : Bool → AccessRequest → Explanation → Data
explanation_data all q e = object_of name_of (explanation_members all q e)

-- the line of an explanation, without its LF
unfoldable pub explanation_text : Bool → AccessRequest → Explanation → List ℕ
explanation_text all q e = compact_text (explanation_data all q e)
