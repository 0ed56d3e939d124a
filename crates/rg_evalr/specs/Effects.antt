-- What one policy gives.
use Rattle.std.specs.Prelude.{ℕ, ◌&&◌, not, Bool, true, false, List, [], ◌∷◌, Option, Some, None, if◌then◌else◌}
use Rattle.std.specs.List.{list_any}
use Rattle.rg_policy.specs.declared.policy.Item.{Item}
use Rattle.rg_policy.specs.declared.policy.Policy.{Policy}
use Rattle.rg_policy.specs.declared.policy.ScheduleText.{ScheduleText}
use Rattle.rg_policy.specs.declared.tags.Tag.{Tag}
use Rattle.rg_policy.specs.Maps.{maps_of}
use Rattle.rg_cond.specs.Spans.{contains, span_of}
use Rattle.rg_resmatch.specs.Tests.{some_lies, tag_elements}
use Rattle.rg_resmatch.specs.declared.reach.Reach.TheVariants.{Exact}
use Rattle.rg_evalr.specs.declared.frame.Effect.{Effect}
use Rattle.rg_evalr.specs.declared.frame.Effect.TheVariants.{Nothing, Allow, Deny}
use Rattle.rg_evalr.specs.declared.frame.Frame.{Frame}
use Rattle.rg_evalr.specs.declared.frame.Side.{Side}
use Rattle.rg_evalr.specs.declared.frame.Side.TheVariants.{Resource, Tag as Tagged}
use Rattle.rg_evalr.specs.Frames.{def_of}
use Rattle.rg_evalr.specs.Items.{Context, all_hold, any_matches, first_item}

-- there is no schedule, or one passes
abbrev pub is_scheduled : {S : Type 0} → (S → Bool) → List S → Bool
is_scheduled valid [] = true
is_scheduled valid (s ∷ ss) = list_any valid (s ∷ ss)

-- the schedule contains the request's moment
abbrev pub is_valid : Frame → Context → ScheduleText → Bool
is_valid frame c s = contains (span_of frame.time_zones s) c.request.moment

-- the tag, where there is one, hits the level `tag` of one of the policy's maps
abbrev pub lies_on_tag : Frame → Context → Policy → Option Tag → Bool
lies_on_tag frame c p None = false
lies_on_tag frame c p (Some tag) = some_lies (def_of frame Tagged) (maps_of p) Exact (tag_elements tag.kind) c.request.user

-- one of the policy's maps lies, at the very depth, on the request's resource, or on the tag
abbrev pub lies_on : Frame → Side → Context → Policy → Bool
lies_on frame Resource c p = some_lies (def_of frame Resource) (maps_of p) Exact c.request.resource.elements.items c.request.user
lies_on frame Tagged c p = lies_on_tag frame c p c.tag

-- the policy is enabled and scheduled, one of its maps lies on what is asked about, and its conditions hold
abbrev pub in_play : Frame → Side → Context → Policy → Bool
in_play frame side c p = p.enabled && (is_scheduled (is_valid frame c) p.schedules.items && (lies_on frame side c p && all_hold frame side c p.conditions.items))

-- a deny item without a deny exception denies; else an allow item without an allow exception allows; else the policy may deny all else
unfoldable pub effect_of : Frame → Side → Context → Policy → Effect
effect_of frame side c p =
    if any_matches frame side c p.deny_items.items && not (any_matches frame side c p.deny_exceptions.items) then Deny
    else (if any_matches frame side c p.items.items && not (any_matches frame side c p.allow_exceptions.items) then Allow
    else (if p.deny_all_else then Deny else Nothing))

-- what the policy gives: nothing where it isn't in play
unfoldable pub access_of : Frame → Side → Context → Policy → Effect
access_of frame side c p = if in_play frame side c p then effect_of frame side c p else Nothing

-- the place of the first of these items that matches, where the policy, whose they are, is in play
unfoldable pub item_of : Frame → Side → Context → Policy → List Item → Option ℕ
item_of frame side c p items = if in_play frame side c p then first_item frame side c items else None
