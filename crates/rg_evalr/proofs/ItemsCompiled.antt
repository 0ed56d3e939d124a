-- Compiled items match where the items do.
use Rattle.std.proofs.Common.{◌≡◌, ◌&&◌, ◌+◌, ℕ, suc, Bool, not, nat_lt, cond, List, [], ◌∷◌, length, map, Option, Some, None, refl, ap, ◌∙◌}
use Rattle.std.proofs.lemmas.List.Folds.{list_all-map}
use Rattle.std.specs.List.{list_any, position, position_or_len}
use Rattle.rg_base.proofs.Lists.{list_any-map, list_any_agree}
use Rattle.rg_policy.specs.declared.policy.Item.{Item}
use Rattle.rg_policy.specs.declared.policy.PolicyCondition.{PolicyCondition}
use Rattle.rg_policy.specs.declared.policy.ScheduleText.{ScheduleText}
use Rattle.rg_cond.specs.Conditions.{rule_holds}
use Rattle.rg_cond.specs.Kinds.{rule_of}
use Rattle.rg_cond.specs.Spans.{contains, span_of}
use Rattle.rg_items.specs.Subjects.{names_asker}
use Rattle.rg_evalr.proofs.GrantedTexts.{granted_is}
use Rattle.rg_evalr.specs.Compiled.{compiled_item, compiled_matches, rules_hold}
use Rattle.rg_evalr.specs.Effects.{is_scheduled, is_valid}
use Rattle.rg_evalr.specs.Frames.{def_of}
use Rattle.rg_evalr.specs.Items.{Context, all_hold, any_matches, first_item, item_matches}
use Rattle.rg_evalr.specs.declared.frame.Frame.{Frame}
use Rattle.rg_evalr.specs.declared.frame.Side.{Side}

-- the rules of conditions hold where the conditions do
pub rules_are : (frame : Frame) (side : Side) (c : Context) (conditions : List PolicyCondition) → rules_hold (map (rule_of (def_of frame side)) conditions) c ≡ all_hold frame side c conditions
rules_are frame side c conditions = list_all-map (λ rule. rule_holds rule c.request c.tag) (rule_of (def_of frame side)) conditions

item_is : (frame : Frame) (side : Side) (c : Context) (item : Item) → compiled_matches c (compiled_item frame side item) ≡ item_matches frame side c item
item_is frame side c item = λ i. granted_is frame side c.request.access item.accesses.items i && (names_asker c.roles c.request item && rules_are frame side c item.conditions.items i)

pub some_match : (frame : Frame) (side : Side) (c : Context) (items : List Item) → list_any (compiled_matches c) (map (compiled_item frame side) items) ≡ any_matches frame side c items
some_match frame side c items =
    list_any-map (compiled_matches c) (compiled_item frame side) items
    ∙ list_any_agree (λ item. compiled_matches c (compiled_item frame side item)) (item_matches frame side c) (item_is frame side c) items

-- what was made of a list has as many elements before the first that passes
passed_over : {X Y : Type 0} (p : Y → Bool) (q : X → Bool) (f : X → Y) → ((x : X) → p (f x) ≡ q x) → (xs : List X) → position_or_len p (map f xs) ≡ position_or_len q xs
passed_over p q f e [] = refl
passed_over p q f e (x ∷ xs) = ap (λ b. cond (not b) (1 + position_or_len p (map f xs)) 0) (e x) ∙ ap (λ n. cond (not (q x)) (1 + n) 0) (passed_over p q f e xs)

as_long : {X Y : Type 0} (f : X → Y) (xs : List X) → length (map f xs) ≡ length xs
as_long f [] = refl
as_long f (x ∷ xs) = ap suc (as_long f xs)

pub first_matches : (frame : Frame) (side : Side) (c : Context) (items : List Item) → position (compiled_matches c) (map (compiled_item frame side) items) ≡ first_item frame side c items
first_matches frame side c items =
    ap (λ (n : ℕ). let o : Option ℕ = cond (nat_lt n (length (map (compiled_item frame side) items))) (Some n) None in o)
    (passed_over (compiled_matches c) (item_matches frame side c) (compiled_item frame side) (item_is frame side c) items)
    ∙ ap (λ (n : ℕ). let o : Option ℕ = cond (nat_lt (position_or_len (item_matches frame side c) items) n) (Some (position_or_len (item_matches frame side c) items)) None in o)
    (as_long (compiled_item frame side) items)

-- spans contain a moment where the schedules do
pub scheduled : (frame : Frame) (c : Context) (schedules : List ScheduleText) → is_scheduled (λ span. contains span c.request.moment) (map (span_of frame.time_zones) schedules) ≡ is_scheduled (is_valid frame c) schedules
scheduled frame c [] = refl
scheduled frame c (s ∷ schedules) = list_any-map (λ span. contains span c.request.moment) (span_of frame.time_zones) (s ∷ schedules)
