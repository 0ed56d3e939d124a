-- The row filter and the mask.
use Rattle.std.specs.Prelude.{ℕ, ◌+◌, ℤ, int_lt, nat_lt, eqb, codes, Bool, false, ◌&&◌, ◌||◌, List, Option, Some, None, option_map, option_and_then, if◌then◌else◌}
use Rattle.std.specs.List.{filter_map, slice_get}
use Rattle.std.specs.Ordering.{int_eq}
use Rattle.std.specs.Str.{bytes_eq}
use Rattle.rg_policy.specs.Kinds.{filter_policy, mask_policy, overriding}
use Rattle.rg_policy.specs.declared.policy.Item.{Item}
use Rattle.rg_policy.specs.declared.policy.MaskInfo.{MaskInfo}
use Rattle.rg_policy.specs.declared.policy.Policy.{Policy}
use Rattle.rg_evalr.specs.Effects.{item_of}
use Rattle.rg_evalr.specs.declared.frame.Side.{Side}
use Rattle.rg_evalr.specs.declared.frame.Side.TheVariants.{Resource, Tag}
use Rattle.rg_facts.specs.Candidates.{Candidate, Setting, context_of, is_chosen}
use Rattle.rg_facts.specs.Firsts.{first_by}
use Rattle.rg_facts.specs.declared.choice.Kind.{Kind}
use Rattle.rg_facts.specs.declared.choice.Kind.TheVariants.{Mask, Filter}

-- an item that matches: its policy, the side of it, and its place there
pub record Choice : Type 0 where
  pub policy : Policy
  pub side : Side
  pub place : ℕ

-- masks are given by policies of type 1, row filters by those of type 2
abbrev pub type_of : Kind → ℤ
type_of Mask = mask_policy
type_of Filter = filter_policy

abbrev pub items_of : Kind → Policy → List Item
items_of Mask p = p.mask_items.items
items_of Filter p = p.filter_items.items

-- what a policy offers: the first of its items that matches, none where it is of another type or not chosen by the zone
unfoldable pub offered : Setting → Kind → Candidate → Option Choice
offered s kind c = if int_eq c.source.policy.policy_type (type_of kind) && is_chosen s c
    then option_map (λ place. record { policy = c.source.policy; side = c.source.side; place = place })
    (item_of c.source.frame c.source.side (context_of s c) c.source.policy (items_of kind c.source.policy))
    else None

-- tags go before the resource
abbrev pub side_rank : Side → ℕ
side_rank Tag = 0
side_rank Resource = 1

-- priority 1 goes first, then tags before the resource
abbrev pub choice_rank : Choice → ℕ
choice_rank c = (if int_eq c.policy.priority overriding then 0 else 2) + side_rank c.side

-- by priority and side, then by the id of the policy, then by the place in its list
abbrev pub goes_before : Choice → Choice → Bool
goes_before c d = nat_lt (choice_rank c) (choice_rank d)
    || (eqb (choice_rank c) (choice_rank d) && (int_lt c.policy.id.0 d.policy.id.0 || (int_eq c.policy.id.0 d.policy.id.0 && nat_lt c.place d.place)))

-- the first of what these candidates offer
abbrev pub chosen : Setting → Kind → List Candidate → Option Choice
chosen s kind cs = first_by goes_before (filter_map (offered s kind) cs)

unfoldable pub no_mask_word : List ℕ
no_mask_word = codes "MASK_NONE"

-- the mask of the item that is chosen
abbrev pub mask_of : Choice → Option MaskInfo
mask_of c = option_and_then (λ (i : Item). i.mask) (slice_get c.policy.mask_items.items c.place)

-- the row filter of the item that is chosen
abbrev pub filter_of : Choice → Option (List ℕ)
filter_of c = option_and_then (λ (i : Item). i.filter) (slice_get c.policy.filter_items.items c.place)

abbrev pub says_no_mask : Option MaskInfo → Bool
says_no_mask None = false
says_no_mask (Some m) = bytes_eq m.kind no_mask_word

-- the chosen item may say that there is no mask; no other one takes its place
abbrev pub unless_no_mask : Choice → Option Choice
unless_no_mask c = if says_no_mask (mask_of c) then None else Some c
