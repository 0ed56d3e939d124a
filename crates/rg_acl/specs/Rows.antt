-- The rows of a report: who is asked for, and what is decided for them.
use Rattle.std.specs.Prelude.{ℕ, List, [], ◌∷◌, ◌++◌, map, position, unwrap_or}
use Rattle.std.specs.List.{flat_map}
use Rattle.std.specs.Str.{bytes_eq}
use Rattle.rg_base.specs.Listed.{listed}
use Rattle.rg_defs.specs.declared.service_def.AccessType.{AccessType}
use Rattle.rg_policy.specs.declared.request.AccessRequest.{AccessRequest}
use Rattle.rg_roles.specs.Members.{names_of}
use Rattle.rg_roles.specs.declared.row.RoleRow.{RoleRow}
use Rattle.rg_facts.specs.Flow.{eval}
use Rattle.rg_facts.specs.declared.facts.Facts.{Facts}
use Rattle.rg_acl.specs.Named.{named}
use Rattle.rg_acl.specs.Ordered.{in_order}
use Rattle.rg_acl.specs.Strangers.{member, stranger, with_members}
use Rattle.rg_acl.specs.declared.ask.ReportAsk.{ReportAsk}
use Rattle.rg_acl.specs.declared.asker.Asker.{Asker}
use Rattle.rg_acl.specs.declared.named.Listing.TheVariants.{Users, Groups}
use Rattle.rg_acl.specs.declared.row.ReportRow.{ReportRow}
use Rattle.rg_acl.specs.declared.row.SubjectKind.TheVariants.{User, Group, Role, Other}

-- ---- who asks

-- the user, without groups
abbrev pub user_asker : List ℕ → Asker
user_asker name = record { kind = User; name = name; user = name; groups = listed [] }

-- the stranger with that one group
abbrev pub group_asker : List ℕ → List ℕ → Asker
group_asker stranger name = record { kind = Group; name = name; user = stranger; groups = listed (name ∷ []) }

-- the place of the role among the rows
abbrev pub place_of : List RoleRow → List ℕ → ℕ
place_of rows name = unwrap_or (position (λ n. bytes_eq n name) (names_of rows)) 0

-- the stranger's member of that role
abbrev pub role_asker : List ℕ → List RoleRow → List ℕ → Asker
role_asker stranger rows name = record { kind = Role; name = name; user = member stranger (place_of rows name); groups = listed [] }

-- the stranger
abbrev pub other_asker : List ℕ → Asker
other_asker stranger = record { kind = Other; name = []; user = stranger; groups = listed [] }

-- ---- what is asked

-- the accesses of the ask in its order, or those of the definition where the ask lists none
abbrev pub accesses_of : List (List ℕ) → List AccessType → List (List ℕ)
accesses_of [] types = map (λ (t : AccessType). t.name) types
accesses_of (a ∷ accesses) types = a ∷ accesses

abbrev pub asked_for : Facts → ReportAsk → List (List ℕ)
asked_for facts ask = accesses_of ask.accesses.items facts.def.access_types.items

-- the asker's request for an access, with no address and no context
abbrev pub request_of : ReportAsk → Asker → List ℕ → AccessRequest
request_of ask asker access = record {
  user = asker.user;
  groups = asker.groups;
  resource = ask.resource;
  access = access;
  moment = ask.moment;
  address = [];
  context = listed [];
}

-- ---- the rows

abbrev pub row_of : Facts → ReportAsk → Asker → List ℕ → ReportRow
row_of facts ask asker access = record { kind = asker.kind; name = asker.name; access = access; verdict = eval facts (request_of ask asker access) }

-- one row for each of these accesses
abbrev pub rows_for : Facts → ReportAsk → List (List ℕ) → Asker → List ReportRow
rows_for facts ask accesses asker = map (row_of facts ask asker) accesses

-- those of each of the askers
abbrev pub rows_of : Facts → ReportAsk → List (List ℕ) → List Asker → List ReportRow
rows_of facts ask accesses askers = flat_map (rows_for facts ask accesses) askers

-- each named user, then each named group
abbrev pub named_askers : Facts → List ℕ → List Asker
named_askers facts stranger = map user_asker (in_order (named Users facts)) ++ map (group_asker stranger) (in_order (named Groups facts))

-- each role
abbrev pub role_askers : List RoleRow → List ℕ → List Asker
role_askers rows stranger = map (role_asker stranger rows) (in_order (names_of rows))

-- those of these askers, then those of the roles, whom the stranger's members ask for, then those of the stranger
abbrev pub rows_by : Facts → ReportAsk → List (List ℕ) → List ℕ → List Asker → List RoleRow → List ReportRow
rows_by facts ask accesses stranger askers roles =
    rows_of facts ask accesses askers
    ++ (rows_of (with_members stranger facts) ask accesses (role_askers roles stranger)
    ++ rows_of facts ask accesses (other_asker stranger ∷ []))

-- the same for this stranger: each named user, then each named group, then each role, then all others
abbrev pub rows_with : Facts → ReportAsk → List ℕ → List ReportRow
rows_with facts ask stranger = rows_by facts ask (asked_for facts ask) stranger (named_askers facts stranger) facts.roles.items

-- the rows of a report, one for each subject and access
abbrev pub report_rows : Facts → ReportAsk → List ReportRow
report_rows facts ask = rows_with facts ask (stranger facts ask.resource.owner)
