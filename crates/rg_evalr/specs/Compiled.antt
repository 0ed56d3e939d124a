-- For proofs: what an evaluator keeps of a policy.
use Rattle.std.specs.Prelude.{◌≡◌, ◌<◌, ◌^◌, ◌&&◌, ◌||◌, Bool, List, length, map}
use Rattle.std.specs.List.{list_all}
use Rattle.rg_base.specs.Listed.{Listed, listed}
use Rattle.rg_base.specs.Texts.{is_among}
use Rattle.rg_policy.specs.declared.policy.Item.{Item}
use Rattle.rg_policy.specs.declared.policy.Policy.{Policy}
use Rattle.rg_policy.specs.declared.policy.PolicyCondition.{PolicyCondition}
use Rattle.rg_policy.specs.Maps.{maps_of}
use Rattle.rg_defs.specs.declared.service_def.ServiceDef.{ServiceDef}
use Rattle.rg_cond.specs.Conditions.{rule_holds}
use Rattle.rg_cond.specs.Kinds.{rule_of}
use Rattle.rg_cond.specs.Spans.{span_of}
use Rattle.rg_cond.specs.declared.rules.Rule.{Rule}
use Rattle.rg_resmatch.specs.declared.reach.Reach.TheVariants.{Exact}
use Rattle.rg_items.specs.Subjects.{is_owner, names, owner_word, user_word}
use Rattle.rg_evalr.specs.declared.evaluator.Parts.{Parts}
use Rattle.rg_evalr.specs.declared.frame.Frame.{Frame}
use Rattle.rg_evalr.specs.declared.frame.Side.{Side}
use Rattle.rg_evalr.specs.declared.item.CompiledItem.{CompiledItem}
use Rattle.rg_evalr.specs.Frames.{def_of}
use Rattle.rg_evalr.specs.Granted.{granted}
use Rattle.rg_evalr.specs.Items.{Context}
use Rattle.rg_evalr.specs.Sources.{Source}

-- the rules of these conditions
abbrev pub rules_of : ServiceDef → List PolicyCondition → Listed Rule
rules_of def conditions = listed (map (rule_of def) conditions)

abbrev pub compiled_item : Frame → Side → Item → CompiledItem
compiled_item frame side item = record {
  accesses = listed (granted frame side item.accesses.items);
  every_user = is_among user_word item.users.items;
  owner = is_among owner_word item.users.items;
  users = item.users;
  groups = item.groups;
  roles = item.roles;
  conditions = rules_of (def_of frame side) item.conditions.items;
}

abbrev pub compiled_items : Frame → Side → List Item → Listed CompiledItem
compiled_items frame side items = listed (map (compiled_item frame side) items)

-- one of the subjects is the asker
abbrev pub names_context : CompiledItem → Context → Bool
names_context i c = i.every_user || ((i.owner && is_owner c.request) || names c.roles c.request.user c.request.groups.items (record { users = i.users.items; groups = i.groups.items; roles = i.roles.items }))

abbrev pub rules_hold : List Rule → Context → Bool
rules_hold rules c = list_all (λ rule. rule_holds rule c.request c.tag) rules

abbrev pub compiled_matches : Context → CompiledItem → Bool
compiled_matches c i = is_among c.request.access i.accesses.items && (names_context i c && rules_hold i.conditions.items c)

-- the parts are those of the source
pub record IsCompiled (s : Source) (parts : Parts) : Type 0 where
  pub enabled : parts.enabled ≡ s.policy.enabled
  pub deny_all_else : parts.deny_all_else ≡ s.policy.deny_all_else
  pub spans : parts.spans ≡ listed (map (span_of s.frame.time_zones) s.policy.schedules.items)
  pub matcher : parts.matcher ≡ record { def = def_of s.frame s.side; maps = maps_of s.policy; reach = Exact }
  pub conditions : parts.conditions ≡ rules_of (def_of s.frame s.side) s.policy.conditions.items
  pub items : parts.items ≡ compiled_items s.frame s.side s.policy.items.items
  pub deny_items : parts.deny_items ≡ compiled_items s.frame s.side s.policy.deny_items.items
  pub allow_exceptions : parts.allow_exceptions ≡ compiled_items s.frame s.side s.policy.allow_exceptions.items
  pub deny_exceptions : parts.deny_exceptions ≡ compiled_items s.frame s.side s.policy.deny_exceptions.items
  pub mask_items : parts.mask_items ≡ compiled_items s.frame s.side s.policy.mask_items.items
  pub filter_items : parts.filter_items ≡ compiled_items s.frame s.side s.policy.filter_items.items
  pub few_masks : length s.policy.mask_items.items < 2 ^ 32
  pub few_filters : length s.policy.filter_items.items < 2 ^ 32
