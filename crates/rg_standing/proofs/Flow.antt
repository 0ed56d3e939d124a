-- What is told of a policy agrees with the flow.
use Rattle.std.proofs.Common.{◌≡◌, ◌&&◌, ℕ, Bool, true, false, not, cond, List, [], ◌∷◌, map, Option, Some, None, is_none, is_some, refl, ap, sym, ◌∙◌}
use Rattle.std.proofs.lemmas.Bool.{and_parts}
use Rattle.std.proofs.lemmas.Slice.Eq.{bytes_eq-Decides}
use Rattle.std.specs.Prelude.{option_map}
use Rattle.std.specs.List.{find, list_all}
use Rattle.std.specs.Option.{option_map_or}
use Rattle.std.specs.Str.{bytes_eq}
use Rattle.rg_base.proofs.Lists.{all_holds, any_from, any_holds}
use Rattle.rg_base.specs.Listed.{listed}
use Rattle.rg_policy.specs.Maps.{maps_of}
use Rattle.rg_policy.specs.declared.policy.Item.{Item}
use Rattle.rg_policy.specs.declared.policy.Policy.{Policy}
use Rattle.rg_policy.specs.declared.policy.PolicyCondition.{PolicyCondition}
use Rattle.rg_policy.specs.declared.policy.PolicyResource.{PolicyResource}
use Rattle.rg_policy.specs.declared.policy.ResourceMap.{ResourceMap}
use Rattle.rg_policy.specs.declared.request.Element.{Element}
use Rattle.rg_policy.specs.declared.tags.Tag.{Tag}
use Rattle.rg_defs.specs.declared.service_def.ServiceDef.{ServiceDef}
use Rattle.rg_defs.specs.Paths.{level_of}
use Rattle.rg_defs.specs.PathTests.{on_one_path}
use Rattle.rg_cond.specs.Conditions.{condition_holds}
use Rattle.rg_resmatch.specs.Tests.{is_hit, levels_of, lies, may_name, meets, some_lies, value_at}
use Rattle.rg_resmatch.specs.declared.reach.Reach.TheVariants.{Exact}
use Rattle.rg_evalr.specs.Effects.{access_of, effect_of, in_play, is_scheduled, is_valid, lies_on, lies_on_tag}
use Rattle.rg_evalr.specs.Frames.{def_of}
use Rattle.rg_evalr.specs.Items.{any_matches, first_item, item_matches}
use Rattle.rg_evalr.specs.declared.frame.Effect.TheVariants.{Nothing, Allow, Deny}
use Rattle.rg_evalr.specs.declared.frame.Side.{Side}
use Rattle.rg_evalr.specs.declared.frame.Side.TheVariants.{Resource, Tag as Tagged}
use Rattle.rg_standing.specs.Asking.{Asked, tag_as_elements}
use Rattle.rg_standing.specs.Hits.{is_near, level_hit, map_near, miss_of}
use Rattle.rg_standing.specs.Matching.{effect_by, match_at, matched, matches_of}
use Rattle.rg_standing.specs.Standing.{by_conditions, def_asked, effect_told, elements_asked, first_failing, is_told_in_play, policy_lies, policy_near, standing_of}
use Rattle.rg_standing.specs.declared.reason.Match.{Match}
use Rattle.rg_standing.specs.declared.reason.Standing.{Standing}
use Rattle.rg_standing.specs.declared.reason.Standing.TheVariants.{FarOff, Disabled, Unscheduled, Elsewhere}
use Rattle.rg_standing.proofs.Tests.{all_by_first, some_mapped, some_place}

-- ---- a policy that lies on what is asked about is near

named_hit : (def : ServiceDef) (user : List ℕ) (r : PolicyResource) (v : Option (List ℕ)) → is_some v ≡ true → meets def user r v ≡ true
    → option_map_or (λ x. is_hit (level_of def r.level) r user x) v false ≡ true
named_hit def user r None some h = let bad : false ≡ true = some in cc
named_hit def user r (Some x) some h = h

value_there : (e : Element) (es : List Element) (name : List ℕ) → bytes_eq e.level name ≡ true → is_some (value_at (e ∷ es) name) ≡ true
value_there e es name h = ap (λ b. is_some (option_map (λ (x : Element). x.value) (cond b (Some e) (find (λ (x : Element). bytes_eq x.level name) es)))) h

turned : (a b : List ℕ) → bytes_eq a b ≡ true → bytes_eq b a ≡ true
turned a b h = (bytes_eq-Decides b a).1 (sym ((bytes_eq-Decides a b).0 h))

lying_near : (def : ServiceDef) (user : List ℕ) (es : List Element) (m : ResourceMap) → lies def m.levels.items Exact es user ≡ true → map_near def user es m ≡ true
lying_near def user [] m h = let bad : false ≡ true = h in cc
lying_near def user (e ∷ es) m h =
    let rs = m.levels.items in
    let a = and_parts (on_one_path def.levels.items (levels_of rs (e ∷ es))) _ h in
    let b = and_parts (list_all (λ (r : PolicyResource). meets def user r (value_at (e ∷ es) r.level)) rs) _ a.1 in
    let named = (and_parts (may_name Exact rs e) _ b.1).0 in
    let r = any_holds (λ (x : PolicyResource). bytes_eq x.level e.level) rs named in
    any_from (level_hit def user (e ∷ es)) rs r.0 r.1
    (named_hit def user r.0 (value_at (e ∷ es) r.0.level) (value_there e es r.0.level (turned r.0.level e.level r.2))
    (all_holds (λ (x : PolicyResource). meets def user x (value_at (e ∷ es) x.level)) rs b.0 r.0 r.1))

some_near : (def : ServiceDef) (user : List ℕ) (es : List Element) (maps : List ResourceMap) → some_lies def maps Exact es user ≡ true → is_near def user es maps ≡ true
some_near def user es maps h =
    let m = any_holds (λ (x : ResourceMap). lies def x.levels.items Exact es user) maps h in
    any_from (map_near def user es) maps m.0 m.1 (lying_near def user es m.0 m.2)

-- ---- what lies on nothing

none_lies : (def : ServiceDef) (user : List ℕ) (maps : List ResourceMap) → false ≡ some_lies def maps Exact [] user
none_lies def user [] = refl
none_lies def user (m ∷ maps) = none_lies def user maps

tag_lies : (a : Asked) (p : Policy) (tag : Option Tag) → some_lies (def_of a.frame Tagged) (maps_of p) Exact (tag_as_elements tag) a.context.request.user ≡ lies_on_tag a.frame a.context p tag
tag_lies a p None = sym (none_lies (def_of a.frame Tagged) a.context.request.user (maps_of p))
tag_lies a p (Some tag) = refl

lies_told : (a : Asked) (p : Policy) → policy_lies a p ≡ lies_on a.frame a.side a.context p
lies_told a p = at a.side where
  at : (side : Side) → policy_lies (record { frame = a.frame; side = side; context = a.context }) p ≡ lies_on a.frame side a.context p
  at Resource = refl
  at Tagged = tag_lies a p a.context.tag

-- ---- the cases of a standing

module _ (a : Asked) (p : Policy) where
  abbrev elsewhere : Standing
  elsewhere = Elsewhere (listed (map (miss_of (def_asked a) a.context.request.user (elements_asked a)) (maps_of p)))

  abbrev stands_by : Bool → Bool → Bool → Bool → Option PolicyCondition → Standing
  stands_by n e s l o = cond (not n) FarOff (cond (not e) Disabled (cond (not s) Unscheduled (cond (not l) elsewhere (by_conditions a p o))))

  told_cases : (n e s l : Bool) (o : Option PolicyCondition) → (l ≡ true → n ≡ true) → is_told_in_play (stands_by n e s l o) ≡ (e && (s && (l && is_none o)))
  told_cases true false s l o h = refl
  told_cases true true false l o h = refl
  told_cases true true true false o h = refl
  told_cases true true true true None h = refl
  told_cases true true true true (Some w) h = refl
  told_cases false false s l o h = refl
  told_cases false true false l o h = refl
  told_cases false true true false o h = refl
  told_cases false true true true o h = let bad : false ≡ true = h refl in cc

  effect_cases : (n e s l : Bool) (o : Option PolicyCondition) → effect_told (stands_by n e s l o) p.deny_all_else
      ≡ cond (is_told_in_play (stands_by n e s l o)) (effect_by (matches_of a p) p.deny_all_else) Nothing
  effect_cases false e s l o = refl
  effect_cases true false s l o = refl
  effect_cases true true false l o = refl
  effect_cases true true true false o = refl
  effect_cases true true true true None = refl
  effect_cases true true true true (Some w) = refl

pub in_play_told : (a : Asked) (p : Policy) → is_told_in_play (standing_of a p) ≡ in_play a.frame a.side a.context p
unfolding standing_of
in_play_told a p =
    let scheduled = is_scheduled (is_valid a.frame a.context) p.schedules.items in
    let holding = sym (all_by_first (λ (w : PolicyCondition). condition_holds (def_asked a) w a.context.request a.context.tag) p.conditions.items) in
    told_cases a p (policy_near a p) p.enabled scheduled (policy_lies a p) (first_failing a p.conditions.items)
    (some_near (def_asked a) a.context.request.user (elements_asked a) (maps_of p))
    ∙ (λ i. p.enabled && (scheduled && (lies_told a p i && holding i)))

-- ---- the effect

some_match : (a : Asked) (items : List Item) → is_some (matched a items) ≡ any_matches a.frame a.side a.context items
some_match a items = some_mapped (match_at a items) (first_item a.frame a.side a.context items) ∙ some_place (item_matches a.frame a.side a.context) items

effect_by_lists : (a : Asked) (p : Policy) → effect_by (matches_of a p) p.deny_all_else ≡ effect_of a.frame a.side a.context p
unfolding effect_of
effect_by_lists a p = λ i.
    cond (some_match a p.deny_items.items i && not (some_match a p.deny_exceptions.items i)) Deny
    (cond (some_match a p.items.items i && not (some_match a p.allow_exceptions.items i)) Allow
    (cond p.deny_all_else Deny Nothing))

pub effect_is_told : (a : Asked) (p : Policy) → effect_told (standing_of a p) p.deny_all_else ≡ access_of a.frame a.side a.context p
unfolding standing_of access_of
effect_is_told a p =
    effect_cases a p (policy_near a p) p.enabled (is_scheduled (is_valid a.frame a.context) p.schedules.items) (policy_lies a p) (first_failing a p.conditions.items)
    ∙ (λ i. cond (in_play_told a p i) (effect_by_lists a p i) Nothing)

-- ---- the item

places_told : (a : Asked) (items : List Item) (o : Option ℕ) → option_map (λ (m : Match). m.item) (option_map (match_at a items) o) ≡ o
places_told a items None = refl
places_told a items (Some place) = refl

pub item_told : (a : Asked) (items : List Item) → option_map (λ (m : Match). m.item) (matched a items) ≡ first_item a.frame a.side a.context items
item_told a items = places_told a items (first_item a.frame a.side a.context items)
