-- Whether an item matches, and which item is the first that does.
use Rattle.std.specs.Prelude.{ℕ, ◌&&◌, Bool, List, Option, position}
use Rattle.std.specs.List.{list_all, list_any}
use Rattle.rg_policy.specs.declared.policy.Item.{Item}
use Rattle.rg_policy.specs.declared.policy.PolicyCondition.{PolicyCondition}
use Rattle.rg_policy.specs.declared.request.AccessRequest.{AccessRequest}
use Rattle.rg_policy.specs.declared.tags.Tag.{Tag}
use Rattle.rg_cond.specs.Conditions.{condition_holds}
use Rattle.rg_roles.specs.declared.row.RoleRow.{RoleRow}
use Rattle.rg_items.specs.Accesses.{any_grants}
use Rattle.rg_items.specs.Subjects.{names_asker}
use Rattle.rg_evalr.specs.declared.frame.Frame.{Frame}
use Rattle.rg_evalr.specs.declared.frame.Side.{Side}
use Rattle.rg_evalr.specs.Frames.{def_of, requested_access}

-- what a policy is asked: a request, with the roles that there are, and for a tag policy one of the resource's tags
pub record Context : Type 0 where
  pub request : AccessRequest
  pub roles : List RoleRow
  pub tag : Option Tag

abbrev pub context : AccessRequest → List RoleRow → Option Tag → Context
context request roles tag = record { request = request; roles = roles; tag = tag }

abbrev pub all_hold : Frame → Side → Context → List PolicyCondition → Bool
all_hold frame side c conditions = list_all (λ (w : PolicyCondition). condition_holds (def_of frame side) w c.request c.tag) conditions

-- an entry grants the requested access, a subject is the asker, and all conditions hold
abbrev pub item_matches : Frame → Side → Context → Item → Bool
item_matches frame side c item = any_grants (def_of frame side) (requested_access frame side c.request.access) item.accesses.items
    && (names_asker c.roles c.request item && all_hold frame side c item.conditions.items)

abbrev pub any_matches : Frame → Side → Context → List Item → Bool
any_matches frame side c items = list_any (item_matches frame side c) items

-- the place of the first that matches
abbrev pub first_item : Frame → Side → Context → List Item → Option ℕ
first_item frame side c items = position (item_matches frame side c) items
