-- An item names the asker where a subject of it is told.
use Rattle.std.proofs.Common.{◌≡◌, ◌||◌, ◌&&◌, Bool, true, false, cond, List, [], ◌∷◌, Option, Some, None, is_some, refl, sym, ◌∙◌}
use Rattle.std.proofs.Math.Bool.{or_assoc}
use Rattle.std.specs.Prelude.{option_map}
use Rattle.std.specs.List.{find, list_any}
use Rattle.std.specs.Option.{option_or}
use Rattle.rg_base.specs.Texts.{is_among}
use Rattle.rg_policy.specs.declared.policy.Item.{Item}
use Rattle.rg_policy.specs.declared.request.AccessRequest.{AccessRequest}
use Rattle.rg_roles.specs.declared.row.RoleRow.{RoleRow}
use Rattle.rg_roles.specs.Holding.{holds}
use Rattle.rg_roles.specs.Members.{everybody}
use Rattle.rg_items.specs.Subjects.{Subjects, is_owner, names, names_asker, owner_word, subjects_of, user_word}
use Rattle.rg_standing.specs.Matching.{holding_role, member_of, own_group, subject_of, told_if}
use Rattle.rg_standing.specs.declared.reason.Subject.TheVariants.{EveryUser, Owner, User, Group, Everybody, Role}
use Rattle.rg_standing.proofs.Tests.{some_if, some_mapped}

some_or : {X : Type 0} (o p : Option X) → is_some (option_or o p) ≡ (is_some o || is_some p)
some_or None p = refl
some_or (Some x) p = refl

some_found : {X : Type 0} (p : X → Bool) (xs : List X) → is_some (find p xs) ≡ list_any p xs
some_found p [] = refl
some_found p (x ∷ xs) = elim (p x) as (λ v. is_some (cond v (Some x) (find p xs)) ≡ (v || list_any p xs)) [ true ↦ refl | false ↦ some_found p xs ]

-- one of these subjects is told exactly where they name the asker
pub member_told : (rows : List RoleRow) (q : AccessRequest) (s : Subjects) → is_some (member_of rows q s.users s.groups s.roles) ≡ names rows q.user q.groups.items s
member_told rows q s =
    let user = is_among q.user s.users in
    let group = list_any (λ g. is_among g s.groups) q.groups.items in
    let all = is_among everybody s.groups in
    let role = list_any (λ r. holds rows r q.user q.groups.items) s.roles in
    let by_role : is_some (option_map Role (holding_role rows q s.roles)) ≡ role =
    some_mapped Role (holding_role rows q s.roles) ∙ some_found (λ r. holds rows r q.user q.groups.items) s.roles in
    let by_all = some_or (told_if all Everybody) _ ∙ (λ i. some_if all Everybody i || by_role i) in
    let by_group = some_or (option_map Group (own_group q.groups.items s.groups)) _
    ∙ (λ i. (some_mapped Group (own_group q.groups.items s.groups) ∙ some_found (λ g. is_among g s.groups) q.groups.items) i || by_all i)
    ∙ sym (or_assoc group all role) in
    some_or (told_if user User) _ ∙ (λ i. some_if user User i || by_group i)

pub subject_told : (rows : List RoleRow) (q : AccessRequest) (item : Item) → is_some (subject_of rows q item) ≡ names_asker rows q item
subject_told rows q item =
    let every = is_among user_word item.users.items in
    let owner = is_among owner_word item.users.items && is_owner q in
    let by_owner = some_or (told_if owner Owner) _ ∙ (λ i. some_if owner Owner i || member_told rows q (subjects_of item) i) in
    some_or (told_if every EveryUser) _ ∙ (λ i. some_if every EveryUser i || by_owner i)
