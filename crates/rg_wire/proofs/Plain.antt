-- What is printed for the records has no float, and nests a few levels.
use Rattle.std.proofs.Common.{◌≡◌, ℕ, ◌≤◌, Bool, true, false, List, [], ◌∷◌, refl, arith}
use Rattle.serde_json.specs.Data.{depth}
use Rattle.serde_json.specs.Written.{has_float}
use Rattle.rg_base.specs.Listed.{Listed}
use Rattle.rg_json.specs.Printing.{list_data}
use Rattle.rg_json.proofs.Plain.{Plain, PlainMembers, none_plain, put_plain, object_plain, list_plain, text_plain, bool_plain, integer_plain, count_plain, option_plain, texts_plain}
use Rattle.rg_policy.specs.declared.policy.AccessEntry.{AccessEntry}
use Rattle.rg_policy.specs.declared.policy.PolicyCondition.{PolicyCondition}
use Rattle.rg_policy.specs.declared.policy.MaskInfo.{MaskInfo}
use Rattle.rg_policy.specs.declared.policy.ScheduleText.{ScheduleText}
use Rattle.rg_policy.specs.declared.policy.Item.{Item}
use Rattle.rg_policy.specs.declared.policy.PolicyResource.{PolicyResource}
use Rattle.rg_policy.specs.declared.policy.ResourceMap.{ResourceMap}
use Rattle.rg_policy.specs.declared.policy.Policy.{Policy}
use Rattle.rg_wire.specs.Names.{name_of}
use Rattle.rg_wire.specs.Printing.{entry_data, entry_members, condition_members, mask_members, schedule_members, filter_members, item_members, resource_members, policy_members, condition_data, mask_data, recurrences_data, schedule_data, filter_data, item_data, resource_data, level_members, resources_data, map_data, policy_data}

entry_plain : (e : AccessEntry) → Plain 1 (entry_data e)
unfolding entry_data
entry_plain e = object_plain name_of 0 1 (entry_members e) (omega arith) (text_plain 0 e.access, (bool_plain 0 e.allowed, tt))

condition_plain : (c : PolicyCondition) → Plain 2 (condition_data c)
unfolding condition_data
condition_plain c = object_plain name_of 1 2 (condition_members c) (omega arith) (text_plain 1 c.name, (texts_plain 1 c.values (omega arith), tt))

mask_plain : (n : ℕ) (m : MaskInfo) → 1 ≤ n → Plain n (mask_data m)
unfolding mask_data
mask_plain n m h = object_plain name_of 0 n (mask_members m) h (text_plain 0 m.kind, (text_plain 0 m.condition_expr, (text_plain 0 m.value_expr, tt)))

recurrences_plain : (b : Bool) → Plain 2 (recurrences_data b)
recurrences_plain true = (refl, omega arith)
recurrences_plain false = (refl, omega arith)

schedule_plain : (s : ScheduleText) → Plain 3 (schedule_data s)
unfolding schedule_data
schedule_plain s = object_plain name_of 2 3 (schedule_members s) (omega arith) (text_plain 2 s.start_time, (text_plain 2 s.end_time, (text_plain 2 s.time_zone, (recurrences_plain s.recurring, tt))))

filter_plain : (n : ℕ) (t : List ℕ) → 1 ≤ n → Plain n (filter_data t)
unfolding filter_data
filter_plain n t h = object_plain name_of 0 n (filter_members t) h (text_plain 0 t, tt)

item_plain : (i : Item) → Plain 4 (item_data i)
unfolding item_data
item_plain i = object_plain name_of 3 4 (item_members i) (omega arith) (
  list_plain 1 3 entry_data i.accesses (omega arith) entry_plain,
  (
    texts_plain 3 i.users (omega arith),
    (
      texts_plain 3 i.groups (omega arith),
      (
        texts_plain 3 i.roles (omega arith),
        (
          list_plain 2 3 condition_data i.conditions (omega arith) condition_plain,
          (
            bool_plain 3 i.delegate,
            (
              option_plain 3 mask_data i.mask (λ m. mask_plain 3 m (omega arith)),
              (
                option_plain 3 filter_data i.filter (λ t. filter_plain 3 t (omega arith)),
                tt,
              ),
            ),
          ),
        ),
      ),
    ),
  ),
)

resource_plain : (r : PolicyResource) → Plain 2 (resource_data r)
unfolding resource_data
resource_plain r = object_plain name_of 1 2 (resource_members r) (omega arith) (texts_plain 1 r.values (omega arith), (bool_plain 1 r.excludes, (bool_plain 1 r.recursive, tt)))

level_members_plain : (rs : List PolicyResource) → PlainMembers 2 (level_members rs)
level_members_plain [] = none_plain 2
level_members_plain (r ∷ rs) = put_plain 2 _ _ _ (resource_plain r) (level_members_plain rs)

pub resources_plain : (n : ℕ) (rs : Listed PolicyResource) → 3 ≤ n → Plain n (resources_data rs)
unfolding resources_data
resources_plain n rs h = let q = level_members_plain rs.items in (q.0, omega (arith, q.1, h))

map_plain : (m : ResourceMap) → Plain 4 (map_data m)
unfolding map_data
map_plain m = resources_plain 4 m.levels (omega arith)

items_of_policy : (is : Listed Item) → Plain 5 (list_data item_data is)
items_of_policy is = list_plain 4 5 item_data is (omega arith) item_plain

pub policy_plain : (p : Policy) → Plain 6 (policy_data p)
unfolding policy_data
policy_plain p = object_plain name_of 5 6 (policy_members p) (omega arith) (
  integer_plain 5 p.id.0,
  (
    text_plain 5 p.guid,
    (
      count_plain 5 p.version.0,
      (
        text_plain 5 p.service,
        (
          text_plain 5 p.name,
          (
            integer_plain 5 p.policy_type,
            (
              integer_plain 5 p.priority,
              (
                resources_plain 5 p.resources (omega arith),
                (
                  list_plain 4 5 map_data p.additional (omega arith) map_plain,
                  (
                    list_plain 2 5 condition_data p.conditions (omega arith) condition_plain,
                    (
                      items_of_policy p.items,
                      (
                        items_of_policy p.deny_items,
                        (
                          items_of_policy p.allow_exceptions,
                          (
                            items_of_policy p.deny_exceptions,
                            (
                              items_of_policy p.mask_items,
                              (
                                items_of_policy p.filter_items,
                                (
                                  list_plain 3 5 schedule_data p.schedules (omega arith) schedule_plain,
                                  (
                                    text_plain 5 p.zone,
                                    (
                                      bool_plain 5 p.deny_all_else,
                                      (
                                        bool_plain 5 p.enabled,
                                        (
                                          bool_plain 5 p.audited,
                                          tt,
                                        ),
                                      ),
                                    ),
                                  ),
                                ),
                              ),
                            ),
                          ),
                        ),
                      ),
                    ),
                  ),
                ),
              ),
            ),
          ),
        ),
      ),
    ),
  ),
)

pub policy_has_no_float : (p : Policy) → has_float (policy_data p) ≡ false
policy_has_no_float p = (policy_plain p).0

pub policy_is_shallow : (p : Policy) → depth (policy_data p) ≤ 127
policy_is_shallow p = omega (arith, (policy_plain p).1)

pub ruleset policies = (policy_has_no_float, policy_is_shallow)
