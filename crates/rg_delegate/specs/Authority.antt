-- Who may administer a policy, and who may see it.
use Rattle.std.specs.Prelude.{ℕ, ◌&&◌, ◌||◌, not, Bool, false, List, [], if◌then◌else◌}
use Rattle.std.specs.List.{list_all, list_any}
use Rattle.std.specs.Option.{option_map_or}
use Rattle.std.specs.Ordering.{int_eq}
use Rattle.std.specs.Str.{bytes_eq}
use Rattle.rg_base.specs.Texts.{is_among, is_empty}
use Rattle.rg_cmd.specs.declared.state.State.{State}
use Rattle.rg_defs.specs.declared.service_def.ServiceDef.{ServiceDef}
use Rattle.rg_items.specs.Accesses.{any_grants}
use Rattle.rg_items.specs.Subjects.{Subjects, names, owner_word, user_word}
use Rattle.rg_policy.specs.declared.policy.Item.{Item}
use Rattle.rg_policy.specs.declared.policy.Policy.{Policy}
use Rattle.rg_policy.specs.Kinds.{access_policy}
use Rattle.rg_roles.specs.declared.row.RoleRow.{RoleRow}
use Rattle.rg_zone_rules.specs.declared.row.Subjects.{Subjects as ZoneSubjects}
use Rattle.rg_zone_rules.specs.declared.row.ZoneRow.{ZoneRow}
use Rattle.rg_delegate.specs.Accesses.{accesses}
use Rattle.rg_delegate.specs.Covering.{policy_covers}
use Rattle.rg_cmd.specs.Lookups.{def_of, groups_of, zone_at}

-- ---- the actor

-- an actor, with the groups of the user's row and the rows of all roles
pub record Known : Type 0 where
  pub name : List ℕ
  pub groups : List (List ℕ)
  pub rows : List RoleRow

abbrev pub known : State → List ℕ → Known
known s actor = record { name = actor; groups = groups_of s actor; rows = s.roles.items }

-- the subjects name the actor: as a user, by a group or `public`, or by a role
abbrev pub named : Known → Subjects → Bool
named k subjects = names k.rows k.name k.groups subjects

-- ---- administrators, and the subjects of a zone

abbrev pub is_admin : State → List ℕ → Bool
is_admin s actor = is_among actor s.admins.items

abbrev pub subjects_in : ZoneSubjects → Subjects
subjects_in z = record { users = z.users.items; groups = z.groups.items; roles = z.roles.items }

abbrev pub admins_of : ZoneRow → Subjects
admins_of z = subjects_in z.admins

abbrev pub auditors_of : ZoneRow → Subjects
auditors_of z = subjects_in z.auditors

-- the policy has a zone, and these subjects of it name the actor
abbrev pub named_in_zone : (ZoneRow → Subjects) → State → List ℕ → Policy → Bool
named_in_zone list s actor p = not (is_empty p.zone) && option_map_or (λ z. named (known s actor) (list z)) (zone_at s p.zone) false

-- ---- delegation

-- the words that stand for users, and name nobody here
abbrev pub is_word : List ℕ → Bool
is_word name = bytes_eq name user_word || bytes_eq name owner_word

-- whom the item delegates to: its users, groups and roles; an actor with the name of such a word isn't named as a user
abbrev pub delegates : List ℕ → Item → Subjects
delegates actor i = record { users = (if is_word actor then [] else i.users.items); groups = i.groups.items; roles = i.roles.items }

-- the item delegates what it grants, names the actor, and has an allowed entry that grants the access
abbrev pub delegates_to : ServiceDef → Known → List ℕ → Item → Bool
delegates_to def k access i = i.delegate && (any_grants def access i.accesses.items && named k (delegates k.name i))

-- q is enabled, gives access, and stands in the service and the zone of p; its schedules and conditions aren't looked at
abbrev pub may_delegate : Policy → Policy → Bool
may_delegate p q = q.enabled && (int_eq q.policy_type access_policy && (bytes_eq q.service p.service && bytes_eq q.zone p.zone))

-- a policy that covers p has an allow item that delegates the access to the actor
abbrev pub is_delegated : State → ServiceDef → Known → Policy → List ℕ → Bool
is_delegated s def k p access = list_any (λ (q : Policy). may_delegate p q
    && (list_any (delegates_to def k access) q.items.items && policy_covers def q p)) s.policies.items

-- every access of p is delegated to the actor
abbrev pub may_by_delegation : State → List ℕ → Policy → Bool
may_by_delegation s actor p = option_map_or (λ def. list_all (is_delegated s def (known s actor) p) (accesses def p)) (def_of s p.service) false

-- ---- authority

-- the actor may administer the policy: as an administrator, as one of its zone, or by delegation
abbrev pub may : State → List ℕ → Policy → Bool
may s actor p = is_admin s actor || (named_in_zone admins_of s actor p || may_by_delegation s actor p)

-- the actor may administer the policy, or is among the auditors of its zone
abbrev pub may_see : State → List ℕ → Policy → Bool
may_see s actor p = may s actor p || named_in_zone auditors_of s actor p
