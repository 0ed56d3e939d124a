-- For proofs alone: how the books of a service go on at each ask.
use Rattle.std.proofs.Common.{◌≡◌, ◌<◌, ℕ, ℤ, false, List, map, Some, refl, ap, sym, ◌∙◌, subst, inl, inr}
use Rattle.std.specs.Option.{option_map}
use Rattle.std.specs.Str.{bytes_eq}
use Rattle.std.proofs.lemmas.Slice.Eq.{bytes_eq-Decides}
use Rattle.rg_base.proofs.Lists.{find_contained}
use Rattle.rg_policy.specs.declared.policy.Policy.{Policy}
use Rattle.rg_tags.specs.declared.row.TagRow.{TagRow}
use Rattle.rg_cmd.specs.Lookups.{has_tag_service, policy_at, service_at, tag_row_at, tag_service_of}
use Rattle.rg_cmd.specs.declared.ask.AdminCommand.{AdminCommand}
use Rattle.rg_cmd.specs.declared.ask.AdminCommand.TheVariants.{PutDef, CreateService, UpdateService, DeleteService, CreatePolicy, UpdatePolicy, DeletePolicy, GetPolicy, ListPolicies, PutRole, DeleteRole, PutZone, DeleteZone, PutTags, DeleteTags, PutUser, DeleteUser, Download}
use Rattle.rg_cmd.specs.declared.changes.Log.{Log}
use Rattle.rg_cmd.specs.declared.state.ServiceRow.{ServiceRow}
use Rattle.rg_cmd.specs.declared.state.State.{State}
use Rattle.rg_delta.specs.Chains.{Follows, IsSince}
use Rattle.rg_delta.specs.Logs.{Book, last_version}
use Rattle.rg_delta.specs.Touches.{touched}
use Rattle.rg_delta.specs.declared.touch.Touch.{Touch}
use Rattle.rg_delta.specs.declared.touch.Touch.TheVariants.{Leaves, Notes, Restarts}
use Rattle.rg_delta.proofs.Chains.{since_follows}
use Rattle.rg_admin_laws.specs.Changes.{after_command}
use Rattle.rg_admin_laws.specs.Logs.{Administration, is_log_of, log_at, logs_after, policy_book, tag_book, touched_log}
use Rattle.rg_admin_laws.specs.Sides.{IsNoted, IsRoleNoted, IsRowNoted, policy_side, role_book}
use Rattle.rg_admin_laws.specs.Steps.{accepted, deletes, refused}
use Rattle.rg_admin_laws.specs.Touches.{policy_touch, tag_touch}
use Rattle.rg_admin_laws.specs.Views.{tag_rows_of}
use Rattle.rg_admin_laws.proofs.Lists.{find_append, find_mapped, find_without}
use Rattle.rg_admin_laws.proofs.Moves.{AllOf, AllRowsOf, IsApart, Moved, create_policy_moves, create_service_leaves, delete_policy_moves, delete_service_leaves, delete_tags_moves, other_name, own_name, put_def_moves, put_tags_moves, update_policy_moves, update_service_moves}

-- what the law of downloads needs of a state
pub record IsTidy (s : State) : Type 0 where
  pub apart : (service : List ℕ) → IsApart s service
  pub tag_there : (service t : List ℕ) → tag_service_of s service ≡ Some t → (q : ServiceRow) × (service_at s t ≡ Some q)
  pub one_service : (id : ℤ) (p : Policy) → policy_at s id ≡ Some p → AllOf s.policies.items id p.service
  pub one_row_service : (id : ℤ) (row : TagRow) → tag_row_at s id ≡ Some row → AllRowsOf s.tag_rows.items id row.service

-- what it needs of a command: what the rules say that it passed
abbrev pub Passed : State → AdminCommand → Type 0
Passed s (UpdatePolicy p) = (old : Policy) × (policy_at s p.id.0 ≡ Some old) × (old.service ≡ p.service)
Passed s (DeletePolicy id) = (old : Policy) × (policy_at s id.0 ≡ Some old)
Passed s (DeleteService name) = (service : List ℕ) → has_tag_service name (tag_service_of s service) ≡ false
Passed s (PutTags id row) = AllRowsOf s.tag_rows.items id row.service
Passed s (DeleteTags id) = (old : TagRow) × (tag_row_at s id ≡ Some old)
Passed s c = Unit {0}

module _ (s : State) (tidy : IsTidy s) (service : List ℕ) (r : ServiceRow) (there : service_at s service ≡ Some r) where
  pub policy_moves : (c : AdminCommand) → Passed s c → deletes c service ≡ false → Moved IsNoted (policy_touch s c service) (policy_side s service) (policy_side (after_command s c) service)
  policy_moves (PutDef d) passed stays = put_def_moves s service d
  policy_moves (CreateService row) passed stays = create_service_leaves s service row r there (tidy.tag_there service)
  policy_moves (UpdateService row) passed stays = update_service_moves s service row
  policy_moves (DeleteService name) passed stays = delete_service_leaves s service name (turned name stays) (passed service)
    where
      turned : (name : List ℕ) → bytes_eq name service ≡ false → bytes_eq service name ≡ false
      turned name h = other_name service name service h (own_name service)
  policy_moves (CreatePolicy p) passed stays = create_policy_moves s service p (tidy.apart service)
  policy_moves (UpdatePolicy p) passed stays =
      update_policy_moves s service p (tidy.apart service) (λ q q_there is. tidy.one_service p.id.0 passed.0 passed.1 q q_there is ∙ passed.2)
  policy_moves (DeletePolicy id) passed stays = delete_policy_moves s service id passed.0 (tidy.apart service) passed.1 (tidy.one_service id.0 passed.0 passed.1)
  policy_moves (GetPolicy id) passed stays = refl
  policy_moves (ListPolicies name) passed stays = refl
  policy_moves (PutRole row) passed stays = refl
  policy_moves (DeleteRole name) passed stays = refl
  policy_moves (PutZone row) passed stays = refl
  policy_moves (DeleteZone name) passed stays = refl
  policy_moves (PutTags id row) passed stays = refl
  policy_moves (DeleteTags id) passed stays = refl
  policy_moves (PutUser row) passed stays = refl
  policy_moves (DeleteUser name) passed stays = refl
  policy_moves (Download name pf tf rf) passed stays = refl

  pub tag_moves : (c : AdminCommand) → Passed s c → Moved IsRowNoted (tag_touch s c service) (tag_rows_of s service) (tag_rows_of (after_command s c) service)
  tag_moves (PutDef d) passed = refl
  tag_moves (CreateService row) passed = refl
  tag_moves (UpdateService row) passed = refl
  tag_moves (DeleteService name) passed = refl
  tag_moves (CreatePolicy p) passed = refl
  tag_moves (UpdatePolicy p) passed = refl
  tag_moves (DeletePolicy id) passed = refl
  tag_moves (GetPolicy id) passed = refl
  tag_moves (ListPolicies name) passed = refl
  tag_moves (PutRole row) passed = refl
  tag_moves (DeleteRole name) passed = refl
  tag_moves (PutZone row) passed = refl
  tag_moves (DeleteZone name) passed = refl
  tag_moves (PutTags id row) passed = put_tags_moves s service id row passed
  tag_moves (DeleteTags id) passed = delete_tags_moves s service id passed.0 passed.1 (tidy.one_row_service id passed.0 passed.1)
  tag_moves (PutUser row) passed = refl
  tag_moves (DeleteUser name) passed = refl
  tag_moves (Download name pf tf rf) passed = refl

module _ (s : State) where
  -- the roles' version rises where they change
  pub roles_follow : (c : AdminCommand) → s.role_version.0 < last_version → Follows IsRoleNoted s.roles (role_book s) (after_command s c).roles (role_book (after_command s c))
  roles_follow (PutDef d) low = inl (refl, refl)
  roles_follow (CreateService row) low = inl (refl, refl)
  roles_follow (UpdateService row) low = inl (refl, refl)
  roles_follow (DeleteService name) low = inl (refl, refl)
  roles_follow (CreatePolicy p) low = inl (refl, refl)
  roles_follow (UpdatePolicy p) low = inl (refl, refl)
  roles_follow (DeletePolicy id) low = inl (refl, refl)
  roles_follow (GetPolicy id) low = inl (refl, refl)
  roles_follow (ListPolicies name) low = inl (refl, refl)
  roles_follow (PutRole row) low = inr (inr (low, refl))
  roles_follow (DeleteRole name) low = inr (inr (low, refl))
  roles_follow (PutZone row) low = inl (refl, refl)
  roles_follow (DeleteZone name) low = inl (refl, refl)
  roles_follow (PutTags id row) low = inl (refl, refl)
  roles_follow (DeleteTags id) low = inl (refl, refl)
  roles_follow (PutUser row) low = inl (refl, refl)
  roles_follow (DeleteUser name) low = inl (refl, refl)
  roles_follow (Download name pf tf rf) low = inl (refl, refl)

-- a value that moves as its log is touched follows it
pub follows : {X C : Type 0} (One : C → X → X → Type 0) (t : Touch C) (x y : X) (b : Book C) → b.version < last_version → Moved One t x y → Follows One x b y (touched t b)
follows One Leaves x y b low moved = inl (moved, refl)
follows One (Notes c) x y b low moved = inr (inl (c, low, moved, refl))
follows One Restarts x y b low moved = inr (inr (low, refl))

-- ---- the log of a service after a command

pub record GoesOn (s : State) (c : AdminCommand) (service : List ℕ) (logs : List Log) (l : Log) : Type 0 where
  pub next : Log
  pub found : log_at logs service ≡ Some next
  pub policies : policy_book next ≡ touched (policy_touch s c service) (policy_book l)
  pub tags : tag_book next ≡ touched (tag_touch s c service) (tag_book l)

mapped : (s : State) (c : AdminCommand) (service : List ℕ) (logs : List Log) (l : Log) → log_at logs service ≡ Some l → GoesOn s c service (map (touched_log s c) logs) l
mapped s c service logs l found =
    let is : l.service ≡ service = (bytes_eq-Decides l.service service).0 (find_contained (is_log_of service) logs l found).1 in
    record {
      next = touched_log s c l;
      found = find_mapped (is_log_of service) (touched_log s c) (λ _. refl) logs ∙ ap (option_map (touched_log s c)) found;
      policies = ap (λ n. touched (policy_touch s c n) (policy_book l)) is;
      tags = ap (λ n. touched (tag_touch s c n) (tag_book l)) is;
    }

pub log_goes_on : (s : State) (c : AdminCommand) (service : List ℕ) (logs : List Log) (l : Log) → log_at logs service ≡ Some l → deletes c service ≡ false → GoesOn s c service (logs_after s c logs) l
log_goes_on s (CreateService row) service logs l found stays = record { next = l; found = find_append (is_log_of service) logs _ l found; policies = refl; tags = refl }
log_goes_on s (DeleteService name) service logs l found stays = record {
  next = l;
  found = find_without (is_log_of service) (is_log_of name) (λ y is. other_name name service y.service (other_name service name service stays (own_name service)) is) logs ∙ found;
  policies = refl;
  tags = refl;
}
log_goes_on s (PutDef d) service logs l found stays = mapped s (PutDef d) service logs l found
log_goes_on s (UpdateService row) service logs l found stays = mapped s (UpdateService row) service logs l found
log_goes_on s (CreatePolicy p) service logs l found stays = mapped s (CreatePolicy p) service logs l found
log_goes_on s (UpdatePolicy p) service logs l found stays = mapped s (UpdatePolicy p) service logs l found
log_goes_on s (DeletePolicy id) service logs l found stays = mapped s (DeletePolicy id) service logs l found
log_goes_on s (GetPolicy id) service logs l found stays = mapped s (GetPolicy id) service logs l found
log_goes_on s (ListPolicies name) service logs l found stays = mapped s (ListPolicies name) service logs l found
log_goes_on s (PutRole row) service logs l found stays = mapped s (PutRole row) service logs l found
log_goes_on s (DeleteRole name) service logs l found stays = mapped s (DeleteRole name) service logs l found
log_goes_on s (PutZone row) service logs l found stays = mapped s (PutZone row) service logs l found
log_goes_on s (DeleteZone name) service logs l found stays = mapped s (DeleteZone name) service logs l found
log_goes_on s (PutTags id row) service logs l found stays = mapped s (PutTags id row) service logs l found
log_goes_on s (DeleteTags id) service logs l found stays = mapped s (DeleteTags id) service logs l found
log_goes_on s (PutUser row) service logs l found stays = mapped s (PutUser row) service logs l found
log_goes_on s (DeleteUser name) service logs l found stays = mapped s (DeleteUser name) service logs l found
log_goes_on s (Download name pf tf rf) service logs l found stays = mapped s (Download name pf tf rf) service logs l found

-- ---- from one state to a later one

-- the books lead from what the service was at the early state, where its versions were these, to what it is at the late one
pub record AreSince (early : Administration) (policies tags roles : ℕ) (service : List ℕ) (late : Administration) : Type 0 where
  pub log : Log
  pub found : log_at late.logs service ≡ Some log
  pub policy_since : IsSince IsNoted policies (policy_side early.state service) (policy_book log) (policy_side late.state service)
  pub tag_since : IsSince IsRowNoted tags (tag_rows_of early.state service) (tag_book log) (tag_rows_of late.state service)
  pub role_since : IsSince IsRoleNoted roles early.state.roles (role_book late.state) late.state.roles

-- every version is less than the last u64
pub record HasRoom (a : Administration) (service : List ℕ) : Type 0 where
  pub logs : (log : Log) → log_at a.logs service ≡ Some log → (log.policy_version.0 < last_version) × (log.tag_version.0 < last_version)
  pub roles : a.state.role_version.0 < last_version

module _ (early : Administration) (policies tags roles : ℕ) (service : List ℕ) (late : Administration) (since : AreSince early policies tags roles service late) where
  pub since_accepted : (c : AdminCommand) → IsTidy late.state → Passed late.state c → (r : ServiceRow) → service_at late.state service ≡ Some r → deletes c service ≡ false
      → HasRoom late service → AreSince early policies tags roles service (accepted late c)
  since_accepted c tidy passed r there stays room =
      let on = log_goes_on late.state c service late.logs since.log since.found stays in
      let low = room.logs since.log since.found in
      record {
        log = on.next;
        found = on.found;
        policy_since = subst (λ b. IsSince IsNoted policies (policy_side early.state service) b (policy_side (after_command late.state c) service)) (sym on.policies)
            (since_follows IsNoted policies (policy_side early.state service) (policy_book since.log) (policy_side late.state service) (touched (policy_touch late.state c service) (policy_book since.log)) (policy_side (after_command late.state c) service)
            since.policy_since (follows IsNoted (policy_touch late.state c service) (policy_side late.state service) (policy_side (after_command late.state c) service) (policy_book since.log) low.0 (policy_moves late.state tidy service r there c passed stays)));
        tag_since = subst (λ b. IsSince IsRowNoted tags (tag_rows_of early.state service) b (tag_rows_of (after_command late.state c) service)) (sym on.tags)
            (since_follows IsRowNoted tags (tag_rows_of early.state service) (tag_book since.log) (tag_rows_of late.state service) (touched (tag_touch late.state c service) (tag_book since.log)) (tag_rows_of (after_command late.state c) service)
            since.tag_since (follows IsRowNoted (tag_touch late.state c service) (tag_rows_of late.state service) (tag_rows_of (after_command late.state c) service) (tag_book since.log) low.1 (tag_moves late.state tidy service r there c passed)));
        role_since = since_follows IsRoleNoted roles early.state.roles (role_book late.state) late.state.roles (role_book (after_command late.state c)) (after_command late.state c).roles
            since.role_since (roles_follow late.state c room.roles);
      }

  pub since_refused : AreSince early policies tags roles service (refused late)
  since_refused = record { log = since.log; found = since.found; policy_since = since.policy_since; tag_since = since.tag_since; role_since = since.role_since }
