-- For proofs: what is known of the document of a refresh.
use Rattle.std.specs.Prelude.{◌≡◌, ◌≤◌, ◌<◌, ℕ, ◌+◌, ◌-◌, true, false, List, [], ◌∷◌, ◌++◌, length, slice_get, Some}
use Rattle.rg_turn.specs.History.{state_after}
use Rattle.rg_turn.specs.Values.{SeatValue, IsCalled}
use Rattle.rg_turn.specs.declared.rule.Entry.{Entry}
use Rattle.rg_facts.specs.Sound.{sound}
use Rattle.rg_facts.specs.declared.facts.Facts.{Facts}
use Rattle.rg_cmd.specs.declared.ask.AdminReply.{AdminReply}
use Rattle.rg_cmd.specs.declared.ask.AdminReply.TheVariants.{Downloaded}
use Rattle.rg_cmd.specs.declared.ask.Ask.{Ask}
use Rattle.rg_cmd.specs.declared.download.Download.{Download}
use Rattle.rg_cmd.specs.declared.download.RoleDelta.{RoleDelta}
use Rattle.rg_cmd.specs.declared.download.RolePart.{RolePart}
use Rattle.rg_cmd.specs.declared.download.RolePart.TheVariants.{Unchanged as RolesUnchanged, Whole as RolesWhole}
use Rattle.rg_admin_laws.specs.Leading.{led, no_roles, policies_in, tags_in}
use Rattle.rg_admin_laws.specs.Logs.{Administration}
use Rattle.rg_admin_laws.specs.Machine.{download_ask, is_unchanged, same_versions, versions}
use Rattle.rg_admin_laws.specs.Steps.{step}
use Rattle.rg_admin_laws.specs.Views.{view}
use Rattle.rg_publish.specs.Passes.{Ends}
use Rattle.rg_publish.specs.Publications.{publication}
use Rattle.rg_publish.specs.declared.history.Publication.{Publication}
use Rattle.rg_session.specs.declared.refresher.Refresh.{Refresh}
use Rattle.rg_session.specs.declared.refresher.Refresh.TheVariants.{Unchanged, Published}

-- a part of whole roles as a delta
abbrev pub roles_in : Facts → RolePart → RoleDelta
roles_in facts RolesUnchanged = no_roles facts
roles_in facts (RolesWhole whole) = record { from = facts.role_version; to = whole.version; roles = Some whole.roles }

-- no delta ends before its base
pub record IsForward (facts : Facts) (d : Download) : Type 0 where
  pub policies : (policies_in facts d.policies).from.0 ≤ (policies_in facts d.policies).to.0
  pub tags : (tags_in facts d.tags).from.0 ≤ (tags_in facts d.tags).to.0
  pub roles : (roles_in facts d.roles).from.0 ≤ (roles_in facts d.roles).to.0

-- it leads to sound facts
pub record IsFit (facts : Facts) (d : Download) : Type 0 where
  pub soundly : sound (led facts d) ≡ true
  pub forward : IsForward facts d

-- the document that came after the entries h leads from the last publication to what the plugin sees
pub record Leads (start : Administration) (h : List (Entry Ask AdminReply)) (list : List Publication) (d : Download) : Type 0 where
  pub newest : Publication
  pub last : slice_get list (length list - 1) ≡ Some newest
  pub present : Facts
  pub viewed : view (state_after step start h) start.state.plugin ≡ Some present
  pub leads : led newest.facts d ≡ present
  pub seq : d.seq ≡ length h
  pub soundly : sound present ≡ true
  pub forward : IsForward newest.facts d
  pub unchanged : is_unchanged d ≡ same_versions (versions newest.facts) (versions present)
  pub newer : is_unchanged d ≡ false → newest.seq < length h

-- the seat's last call is the plugin's download from the versions of the last publication, and its document leads on
pub record Came (start : Administration) (before : SeatValue Ask AdminReply Administration) (service : List ℕ) (list : List Publication) (d : Download) (after : SeatValue Ask AdminReply Administration) : Type 0 where
  pub newest : Publication
  pub last : slice_get list (length list - 1) ≡ Some newest
  pub called : IsCalled before (download_ask service (versions newest.facts)) (Downloaded d) after
  pub leads : Leads start called.0 list d

-- nothing in the document changed and the list stays, or the facts to which it leads are published
abbrev pub Takes : List Publication → Download → Refresh → List Publication → Type 0
Takes before d Unchanged after = (is_unchanged d ≡ true) × (after ≡ before)
Takes before d (Published serial) after = (is_unchanged d ≡ false) × (serial.0 ≡ length before + 1) × Ends before (λ p. after ≡ before ++ publication serial.0 d.seq (led p.facts d) ∷ [])
