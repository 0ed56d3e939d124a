-- Which items of a policy match, and by which subject.
use Rattle.std.specs.Prelude.{ℕ, ◌&&◌, Bool, List, Option, Some, None, is_some, not, option_and_then, option_map, if◌then◌else◌}
use Rattle.std.specs.List.{find, slice_get}
use Rattle.std.specs.Option.{option_or}
use Rattle.rg_base.specs.Texts.{is_among}
use Rattle.rg_policy.specs.declared.policy.Item.{Item}
use Rattle.rg_policy.specs.declared.policy.Policy.{Policy}
use Rattle.rg_policy.specs.declared.request.AccessRequest.{AccessRequest}
use Rattle.rg_roles.specs.declared.row.RoleRow.{RoleRow}
use Rattle.rg_roles.specs.Holding.{holds}
use Rattle.rg_roles.specs.Members.{everybody}
use Rattle.rg_items.specs.Subjects.{is_owner, owner_word, user_word}
use Rattle.rg_evalr.specs.Items.{first_item}
use Rattle.rg_evalr.specs.declared.frame.Effect.{Effect}
use Rattle.rg_evalr.specs.declared.frame.Effect.TheVariants.{Nothing, Allow, Deny}
use Rattle.rg_standing.specs.Asking.{Asked}
use Rattle.rg_standing.specs.declared.reason.Match.{Match}
use Rattle.rg_standing.specs.declared.reason.Matches.{Matches}
use Rattle.rg_standing.specs.declared.reason.Subject.{Subject}
use Rattle.rg_standing.specs.declared.reason.Subject.TheVariants.{EveryUser, Owner, User, Group, Everybody, Role}

-- the subject, where the test passes
abbrev pub told_if : Bool → Subject → Option Subject
told_if test subject = if test then Some subject else None

-- the first of the asker's groups that the groups have
abbrev pub own_group : List (List ℕ) → List (List ℕ) → Option (List ℕ)
own_group own groups = find (λ g. is_among g groups) own

-- the first of the roles that holds the asker
abbrev pub holding_role : List RoleRow → AccessRequest → List (List ℕ) → Option (List ℕ)
holding_role rows q roles = find (λ role. holds rows role q.user q.groups.items) roles

-- the first of these users, groups and roles that is the asker
abbrev pub member_of : List RoleRow → AccessRequest → List (List ℕ) → List (List ℕ) → List (List ℕ) → Option Subject
member_of rows q users groups roles =
    option_or (told_if (is_among q.user users) User)
    (option_or (option_map Group (own_group q.groups.items groups))
    (option_or (told_if (is_among everybody groups) Everybody)
    (option_map Role (holding_role rows q roles))))

-- the first subject of the item that is the asker, in the order in which they are asked
abbrev pub subject_of : List RoleRow → AccessRequest → Item → Option Subject
subject_of rows q item =
    option_or (told_if (is_among user_word item.users.items) EveryUser)
    (option_or (told_if (is_among owner_word item.users.items && is_owner q) Owner)
    (member_of rows q item.users.items item.groups.items item.roles.items))

-- the item at this place, and the subject of it
abbrev pub match_at : Asked → List Item → ℕ → Match
match_at a items place = record {
  item = place;
  subject = option_and_then (subject_of a.context.roles a.context.request) (slice_get items place);
}

-- the first of the items that matches
abbrev pub matched : Asked → List Item → Option Match
matched a items = option_map (match_at a items) (first_item a.frame a.side a.context items)

-- the first of each list
abbrev pub matches_of : Asked → Policy → Matches
matches_of a p = record {
  allow = matched a p.items.items;
  deny = matched a p.deny_items.items;
  allow_exception = matched a p.allow_exceptions.items;
  deny_exception = matched a p.deny_exceptions.items;
  mask = matched a p.mask_items.items;
  filter = matched a p.filter_items.items;
}

-- the effect of a policy with these matches
abbrev pub effect_by : Matches → Bool → Effect
effect_by m deny_all_else =
    if is_some m.deny && not (is_some m.deny_exception) then Deny
    else (if is_some m.allow && not (is_some m.allow_exception) then Allow
    else (if deny_all_else then Deny else Nothing))
