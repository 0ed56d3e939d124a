-- What a refresh asks, publishes and counts.
use Rattle.std.specs.Prelude.{◌≡◌, ℕ, ◌+◌, ◌-◌, ◌&&◌, Bool, true, false, not, List, [], ◌∷◌, ◌++◌, length, slice_get, Some}
use Rattle.rg_base.specs.Counts.{Counts}
use Rattle.rg_turn.specs.History.{state_at}
use Rattle.rg_turn.specs.Values.{SeatValue, IsCalled}
use Rattle.rg_turn.specs.View.{entry}
use Rattle.rg_turn.specs.declared.rule.Entry.{Entry}
use Rattle.rg_facts.specs.declared.facts.Facts.{Facts}
use Rattle.rg_cmd.specs.declared.ask.AdminReply.{AdminReply}
use Rattle.rg_cmd.specs.declared.ask.AdminReply.TheVariants.{Downloaded}
use Rattle.rg_cmd.specs.declared.ask.Ask.{Ask}
use Rattle.rg_cmd.specs.declared.download.Download.{Download}
use Rattle.rg_cmd.specs.declared.download.PolicyPart.{PolicyPart}
use Rattle.rg_cmd.specs.declared.download.PolicyPart.TheVariants.{Unchanged as PoliciesUnchanged, Delta as PoliciesDelta, Whole as PoliciesWhole}
use Rattle.rg_cmd.specs.declared.download.TagPart.{TagPart}
use Rattle.rg_cmd.specs.declared.download.TagPart.TheVariants.{Unchanged as TagsUnchanged, Delta as TagsDelta, Whole as TagsWhole}
use Rattle.rg_publish.specs.Bounds.{WorkWithin, made, pairs_of_changes}
use Rattle.rg_admin_laws.specs.Leading.{policies_in, tags_in}
use Rattle.rg_admin_laws.specs.Logs.{Administration}
use Rattle.rg_admin_laws.specs.Machine.{download_ask, same_versions, versions}
use Rattle.rg_admin_laws.specs.Steps.{step}
use Rattle.rg_admin_laws.specs.Views.{view}
use Rattle.rg_publish.specs.Passes.{Ends}
use Rattle.rg_publish.specs.Publications.{publication}
use Rattle.rg_publish.specs.declared.history.Publication.{Publication}
use Rattle.rg_session.specs.declared.refresher.Refresh.{Refresh}
use Rattle.rg_session.specs.declared.refresher.Refresh.TheVariants.{Unchanged, Published}

-- ---- the download

-- the seat's last call, after n entries, is the plugin's download by the empty actor, from the versions of the last publication
abbrev pub HasDownloaded : SeatValue Ask AdminReply Administration → List ℕ → List Publication → SeatValue Ask AdminReply Administration → ℕ → Type 0
HasDownloaded before service list after n =
    Ends list (λ p. (d : Download) × IsCalled before (download_ask service (versions p.facts)) (Downloaded d) after × (length after.history ≡ n + 1))

-- ---- what is published

abbrev pub is_unpublished : Refresh → Bool
is_unpublished Unchanged = true
is_unpublished (Published serial) = false

-- nothing is published, or these facts with the next serial
abbrev pub Publishes : ℕ → Facts → List Publication → Refresh → List Publication → Type 0
Publishes n facts before Unchanged after = after ≡ before
Publishes n facts before (Published serial) after = (serial.0 ≡ length before + 1) × (after ≡ before ++ publication serial.0 n facts ∷ [])

-- what a refresh whose download came after n entries did to the publications
pub record HasRefreshed (start : Administration) (history : List (Entry Ask AdminReply)) (n : ℕ) (before : List Publication) (refresh : Refresh) (after : List Publication) : Type 0 where
  -- the newest publication before
  pub newest : Publication
  pub last : slice_get before (length before - 1) ≡ Some newest
  -- what the plugin sees
  pub present : Facts
  pub viewed : view (state_at step start history n) start.state.plugin ≡ Some present
  -- unchanged exactly where the three versions are the same
  pub unchanged : is_unpublished refresh ≡ same_versions (versions newest.facts) (versions present)
  pub list : Publishes n present before refresh after

-- ---- the work

abbrev pub is_whole_policies : PolicyPart → Bool
is_whole_policies PoliciesUnchanged = false
is_whole_policies (PoliciesDelta delta) = false
is_whole_policies (PoliciesWhole whole) = true

abbrev pub is_whole_tags : TagPart → Bool
is_whole_tags TagsUnchanged = false
is_whole_tags (TagsDelta delta) = false
is_whole_tags (TagsWhole whole) = true

-- neither the policies nor the tag rows are whole
abbrev pub is_partial : Download → Bool
is_partial d = not (is_whole_policies d.policies) && not (is_whole_tags d.tags)

-- within the bounds of applying the document's deltas to these facts
abbrev pub IsWithin : Facts → Download → Counts → Counts → Type 0
IsWithin facts d old new = WorkWithin (made (policies_in facts d.policies).changes.items) (pairs_of_changes facts (policies_in facts d.policies) (tags_in facts d.tags)) old new

-- where the history ends with a document of which neither part is whole, within its bounds on the last publication
abbrev pub KeepsBounds : List (Entry Ask AdminReply) → List Publication → Counts → Counts → Type 0
KeepsBounds history list old new = (h : List (Entry Ask AdminReply)) (ask : Ask) (d : Download) (p : Publication)
    → history ≡ h ++ entry ask (Downloaded d) ∷ [] → slice_get list (length list - 1) ≡ Some p → is_partial d ≡ true → IsWithin p.facts d old new
