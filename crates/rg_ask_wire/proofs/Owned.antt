-- What was read from JSON that is in order is in key order.
use Rattle.std.proofs.Common.{◌≡◌, ℕ, List, [], ◌∷◌, Bool, true, false, cond, bytes_eq, find, Option, Some, None, IfSome, Result, Ok, Err, refl, sym, ap, subst}
use Rattle.std.specs.Str.{IsUtf8, chars}
use Rattle.serde_json.specs.Data.{Data}
use Rattle.rg_base.specs.Listed.{Listed}
use Rattle.rg_base.specs.declared.pair.Pair.{Pair}
use Rattle.rg_cmd.specs.declared.ask.AdminCommand.{AdminCommand}
use Rattle.rg_defs.specs.declared.service_def.AccessType.{AccessType}
use Rattle.rg_policy.specs.declared.policy.PolicyResource.{PolicyResource}
use Rattle.rg_zone_rules.specs.declared.row.ZoneLevel.{ZoneLevel}
use Rattle.rg_zone_rules.specs.declared.row.ZoneService.{ZoneService}
use Rattle.rg_json.specs.declared.fault.Fault.{Fault}
use Rattle.rg_json.specs.Faults.{fault_of}
use Rattle.rg_json.specs.Fields.{list_at, map_at, map_of, text_of, within}
use Rattle.rg_json.specs.Own.{EachOf, IsText, OwnList}
use Rattle.rg_json.specs.Reading.{unless_fault}
use Rattle.rg_json.proofs.Owned.{own_text}
use Rattle.rg_wire.specs.declared.key.Key.{Key}
use Rattle.rg_wire.specs.declared.key.Key.TheVariants as key
use Rattle.rg_wire.specs.Fields.{member_name}
use Rattle.rg_wire.specs.Names.{name_of}
use Rattle.rg_wire.specs.Own.{IsInOrder, IsResource, OwnResources}
use Rattle.rg_wire.specs.Records.{access_type_of, condition_def_of, level_of, mask_type_of, pair_of, policy_resource_of, role_of, service_def_of, subjects_of, tag_of, tag_row_for, tag_row_of, zone_level_of, zone_of, zone_service_of}
use Rattle.rg_cmd_wire.specs.Commands.{OwnsPolicy, command_of, command_shape}
use Rattle.rg_cmd_wire.specs.Naming.{all_names, named, word_of}
use Rattle.rg_cmd_wire.specs.Reading.{after_word, reading_in, reading_named, word_at, word_shape}
use Rattle.rg_cmd_wire.specs.Rows.{service_of, user_of}
use Rattle.rg_ask_wire.specs.Asks.{ask_name}
use Rattle.rg_ask_wire.specs.declared.key.AskKey.TheVariants as own
use Rattle.rg_ask_wire.specs.KeyOrder.{AreInOrder, AreSubjects, IsAccessType, IsCommandInOrder, IsConditionDef, IsDef, IsInKeyOrder, IsLevel, IsMaskType, IsPair, IsRole, IsService, IsTag, IsTagRow, IsUser, IsZone, IsZoneLevel, IsZoneService, OwnLevels, OwnMap, OwnPairs}
use Rattle.rg_ask_wire.specs.Orderly.{IsOrderly}
use Rattle.rg_ask_wire.proofs.InOrder.{integer_own, list_of_own, list_own, map_of_own, map_own, name_own, text_at_own, text_own, within_orderly}
use Rattle.rg_ask_wire.proofs.Rows.{level_name}

-- ---- parts

texts_own : (k : List ℕ) (d : Data) → IsOrderly d → OwnList IsText (list_at text_of k d)
texts_own k d is = list_own IsText text_of text_own k d is

names_own : (k : List ℕ) (d : Data) → IsOrderly d → OwnList IsText (list_at member_name k d)
names_own k d is = list_own IsText member_name (name_own (name_of key.Name)) k d is

key_own : (k : List ℕ) → IsUtf8 k → IsText (chars k)
key_own k u = own_text (chars k) k refl u

pair_own : (m : List ℕ × Data) → IsUtf8 m.0 → IsOrderly m.1 → IsPair (pair_of m)
unfolding pair_of
pair_own m u is = record { key = key_own m.0 u; value = text_own m.1 is }

pair_named : (m : List ℕ × Data) → (pair_of m).key ≡ chars m.0
unfolding pair_of
pair_named m = refl

pairs_own : (k : List ℕ) (d : Data) → IsOrderly d → OwnPairs (map_at pair_of k d)
pairs_own k d is = map_own (λ (p : Pair). p.key) IsPair pair_of pair_named pair_own k d is

-- ---- service definitions

level_own : (d : Data) → IsOrderly d → IsLevel (level_of d)
unfolding level_of
level_own d is = record { name = text_at_own (name_of key.Name) d is; level = integer_own (name_of key.Level) d is; parent = text_at_own (name_of key.Parent) d is }

access_type_own : (d : Data) → IsOrderly d → IsAccessType (access_type_of d)
unfolding access_type_of
access_type_own d is = record { name = text_at_own (name_of key.Name) d is; implied = texts_own (name_of key.ImpliedGrants) d is }

condition_def_own : (d : Data) → IsOrderly d → IsConditionDef (condition_def_of d)
unfolding condition_def_of
condition_def_own d is = record { name = text_at_own (name_of key.Name) d is; evaluator = text_at_own (name_of key.Evaluator) d is; options = pairs_own (name_of key.EvaluatorOptions) d is }

mask_type_own : (d : Data) → IsOrderly d → IsMaskType (mask_type_of d)
unfolding mask_type_of
mask_type_own d is = record { name = text_at_own (name_of key.Name) d is; transformer = text_at_own (name_of key.Transformer) d is }

pub def_own : (d : Data) → IsOrderly d → IsDef (service_def_of d)
unfolding service_def_of
def_own d is =
    let masks = within_orderly (name_of key.DataMaskDef) d is in
    let filters = within_orderly (name_of key.RowFilterDef) d is in
    record {
      name = text_at_own (name_of key.Name) d is;
      levels = list_own IsLevel level_of level_own (name_of key.Resources) d is;
      access_types = list_own IsAccessType access_type_of access_type_own (name_of key.AccessTypes) d is;
      conditions = list_own IsConditionDef condition_def_of condition_def_own (name_of key.PolicyConditions) d is;
      masks = list_own IsMaskType mask_type_of mask_type_own (name_of key.MaskTypes) _ masks;
      mask_access = names_own (name_of key.AccessTypes) _ masks;
      mask_levels = names_own (name_of key.Resources) _ masks;
      filter_access = names_own (name_of key.AccessTypes) _ filters;
      filter_levels = names_own (name_of key.Resources) _ filters;
    }

-- ---- services, users, roles, zones, tag rows

service_own : (d : Data) → IsOrderly d → IsService (service_of d)
unfolding service_of
service_own d is = record { name = text_at_own (name_of key.Name) d is; def = text_at_own (name_of key.Type) d is; tag_service = text_at_own (name_of key.TagService) d is }

user_own : (d : Data) → IsOrderly d → IsUser (user_of d)
unfolding user_of
user_own d is = record { name = text_at_own (name_of key.Name) d is; groups = texts_own (name_of key.Groups) d is }

pub role_own : (d : Data) → IsOrderly d → IsRole (role_of d)
unfolding role_of
role_own d is = record { name = text_at_own (name_of key.Name) d is; users = names_own (name_of key.Users) d is; groups = names_own (name_of key.Groups) d is; roles = names_own (name_of key.Roles) d is }

zone_level_own : (m : List ℕ × Data) → IsUtf8 m.0 → IsOrderly m.1 → IsZoneLevel (zone_level_of m)
unfolding zone_level_of
zone_level_own m u is = record { level = key_own m.0 u; values = list_of_own IsText text_of text_own m.1 is }

zone_level_named : (m : List ℕ × Data) → (zone_level_of m).level ≡ chars m.0
unfolding zone_level_of
zone_level_named m = refl

zone_map_own : (d : Data) → IsOrderly d → OwnLevels (map_of zone_level_of d)
zone_map_own d is = map_of_own (λ (l : ZoneLevel). l.level) IsZoneLevel zone_level_of zone_level_named zone_level_own d is

zone_service_own : (m : List ℕ × Data) → IsUtf8 m.0 → IsOrderly m.1 → IsZoneService (zone_service_of m)
unfolding zone_service_of
zone_service_own m u is = record { service = key_own m.0 u; resources = list_own OwnLevels (map_of zone_level_of) zone_map_own (name_of key.Resources) m.1 is }

zone_service_named : (m : List ℕ × Data) → (zone_service_of m).service ≡ chars m.0
unfolding zone_service_of
zone_service_named m = refl

subjects_own : (users groups roles : Key) (d : Data) → IsOrderly d → AreSubjects (subjects_of users groups roles d)
unfolding subjects_of
subjects_own users groups roles d is = record { users = texts_own (name_of users) d is; groups = texts_own (name_of groups) d is; roles = texts_own (name_of roles) d is }

pub zone_own : (d : Data) → IsOrderly d → IsZone (zone_of d)
unfolding zone_of
zone_own d is = record {
  name = text_at_own (name_of key.Name) d is;
  services = map_own (λ (s : ZoneService). s.service) IsZoneService zone_service_of zone_service_named zone_service_own (name_of key.Services) d is;
  tag_services = texts_own (name_of key.TagServices) d is;
  admins = subjects_own key.AdminUsers key.AdminUserGroups key.AdminRoles d is;
  auditors = subjects_own key.AuditUsers key.AuditUserGroups key.AuditRoles d is;
}

resource_own : (m : List ℕ × Data) → IsUtf8 m.0 → IsOrderly m.1 → IsResource (policy_resource_of m)
unfolding policy_resource_of
resource_own m u is = record { level = key_own m.0 u; values = texts_own (name_of key.Values) m.1 is }

resource_named : (m : List ℕ × Data) → level_name (policy_resource_of m) ≡ chars m.0
unfolding policy_resource_of
resource_named m = refl

levels_ordered : (rs : List PolicyResource) → AreInOrder level_name rs → IsInOrder rs
levels_ordered [] h = tt
levels_ordered (r ∷ []) h = (tt, tt)
levels_ordered (r ∷ s ∷ rs) h = (h.0, levels_ordered (s ∷ rs) h.1)

resources_owned : (rs : Listed PolicyResource) → OwnMap level_name IsResource rs → OwnResources rs
resources_owned rs own = record { each = own.each; ordered = levels_ordered rs.items own.ordered; whole = own.whole }

pub resources_own : (d : Data) → IsOrderly d → OwnResources (map_of policy_resource_of d)
resources_own d is = resources_owned _ (map_of_own level_name IsResource policy_resource_of resource_named resource_own d is)

tag_own : (d : Data) → IsOrderly d → IsTag (tag_of d)
unfolding tag_of
tag_own d is = record { kind = text_at_own (name_of key.Type) d is; attributes = pairs_own (name_of key.Attributes) d is }

pub tag_row_own : (d : Data) → IsOrderly d → IsTagRow (tag_row_of d)
unfolding tag_row_of tag_row_for
tag_row_own d is = record {
  id = integer_own (name_of key.Id) d is;
  service = text_at_own (name_of key.ServiceName) d is;
  resources = resources_owned _ (map_own level_name IsResource policy_resource_of resource_named resource_own (name_of key.ResourceElements) d is);
  tags = list_own IsTag tag_of tag_own (name_of key.Tags) d is;
}

-- ---- commands

abbrev IsGiven : AdminCommand → Result AdminCommand Fault → Type 0
IsGiven c (Ok command) = command ≡ c
IsGiven c (Err fault) = ⊥

given : (c : AdminCommand) (r : Result AdminCommand Fault) → r ≡ Ok c → IsGiven c r
given c r is = subst (IsGiven c) (sym is) refl

either : {N : Type 0} (b : Bool) (n : N) (rest : Option N) (q : Option N → Type 0) → q (Some n) → q rest → q (cond b (Some n) rest)
either true n rest q here later = here
either false n rest q here later = later

-- of the items of a list, the one that is found has what each has
each_found : {N : Type 0} (p : N → Bool) (ns : List N) (q : Option N → Type 0) → q None → EachOf (λ n. q (Some n)) ns → q (find p ns)
each_found p [] q none all = none
each_found p (n ∷ ns) q none all = either (p n) n (find p ns) q all.0 (each_found p ns q none all.1)

-- the command that the fields make, unless they have a fault
made : (c x : AdminCommand) (o : Option Fault) → OwnsPolicy c → (OwnsPolicy x → IsCommandInOrder x) → IsGiven c (unless_fault x o) → IsCommandInOrder c
made c x None owns f same = subst IsCommandInOrder same (f (subst OwnsPolicy (sym same) owns))
made c x (Some fault) owns f same = absurd same

-- a command that was read is in key order
named_in_order : (d : Data) (c : AdminCommand) (word : List ℕ) → IsOrderly d → OwnsPolicy c → IsGiven c (reading_named (Some d) (named word)) → IsCommandInOrder c
unfolding named command_of command_shape IsCommandInOrder
named_in_order d c word is owns = each_found (λ name. bytes_eq (word_of name) word) all_names (λ o. IsGiven c (reading_named (Some d) o) → IsCommandInOrder c) (λ same. absurd same) (
  made c _ _ owns (λ _. def_own _ (within_orderly (name_of key.Def) d is)),
  (
    made c _ _ owns (λ _. service_own _ (within_orderly (name_of key.Service) d is)),
    (
      made c _ _ owns (λ _. service_own _ (within_orderly (name_of key.Service) d is)),
      (
        made c _ _ owns (λ _. text_at_own (name_of key.Name) d is),
        (
          made c _ _ owns (λ policy. policy),
          (
            made c _ _ owns (λ policy. policy),
            (
              made c _ _ owns (λ _. integer_own (name_of key.Id) d is),
              (
                made c _ _ owns (λ _. integer_own (name_of key.Id) d is),
                (
                  made c _ _ owns (λ _. text_at_own (name_of key.Service) d is),
                  (
                    made c _ _ owns (λ _. role_own _ (within_orderly (name_of key.Role) d is)),
                    (
                      made c _ _ owns (λ _. text_at_own (name_of key.Name) d is),
                      (
                        made c _ _ owns (λ _. zone_own _ (within_orderly (name_of key.Zone) d is)),
                        (
                          made c _ _ owns (λ _. text_at_own (name_of key.Name) d is),
                          (
                            made c _ _ owns (λ _. (integer_own (name_of key.Id) d is, tag_row_own _ (within_orderly (name_of key.Row) d is))),
                            (
                              made c _ _ owns (λ _. integer_own (name_of key.Id) d is),
                              (
                                made c _ _ owns (λ _. user_own _ (within_orderly (name_of key.User) d is)),
                                (
                                  made c _ _ owns (λ _. text_at_own (name_of key.Name) d is),
                                  (
                                    made c _ _ owns (λ _. text_at_own (name_of key.Service) d is),
                                    tt,
                                  ),
                                ),
                              ),
                            ),
                          ),
                        ),
                      ),
                    ),
                  ),
                ),
              ),
            ),
          ),
        ),
      ),
    ),
  ),
)

pub read_in_order : (d : Data) (c : AdminCommand) → IsOrderly d → reading_in (Some d) ≡ Ok c → OwnsPolicy c → IsCommandInOrder c
read_in_order d c is read owns = go (fault_of word_shape d) (given c (reading_in (Some d)) read)
  where
    go : (o : Option Fault) → IsGiven c (after_word (Some d) (unless_fault (word_at d) o)) → IsCommandInOrder c
    go None same = named_in_order d c (word_at d) is owns same
    go (Some fault) same = absurd same

-- so is one that was read from a text
pub found_in_order : (json : Option Data) → IfSome json IsOrderly → (c : AdminCommand) → reading_in json ≡ Ok c → OwnsPolicy c → IsCommandInOrder c
found_in_order None is c read owns = absurd (given c (reading_in None) read)
found_in_order (Some d) is c read owns = read_in_order d c is read owns

-- an ask that was read is in key order
pub ask_in_order : (d : Data) (actor : List ℕ) (c : AdminCommand) → IsOrderly d → IsText actor → reading_in (Some (within (ask_name own.Command) d)) ≡ Ok c → OwnsPolicy c
    → IsInKeyOrder (record { actor = actor; command = c })
unfolding IsInKeyOrder
ask_in_order d actor c is text read owns = record { actor = text; command = read_in_order (within (ask_name own.Command) d) c (within_orderly (ask_name own.Command) d is) read owns }

pub ruleset orders = (ask_in_order)
