-- Questions for downloads, asked of an administration over a link, and what their replies say.
use Rattle.std.specs.Prelude.{◌≡◌, ◌⊎◌, ℕ, List, [], ◌∷◌, Some}
use Rattle.rg_facts.specs.declared.facts.Facts.{Facts}
use Rattle.rg_cmd.specs.declared.download.Download.{Download}
use Rattle.rg_cmd.specs.declared.download.PolicyPart.{PolicyPart}
use Rattle.rg_cmd.specs.declared.download.TagPart.{TagPart}
use Rattle.rg_admin_laws.specs.Downloads.{From}
use Rattle.rg_admin_laws.specs.Laws.{from_of}
use Rattle.rg_admin_laws.specs.Leading.{led}
use Rattle.rg_remote.specs.Remotes.{Far, PoliciesTold, PoliciesUntold, RolesTold, RolesUntold, TagsTold, TagsUntold}
use Rattle.rg_remote.specs.declared.fault.AskFault.{AskFault}
use Rattle.rg_follow.specs.Answering.{from_nothing}
use Rattle.rg_follow.specs.Rounds.{begun}

-- three questions from these versions, one after another
pub record WasAsked (from : From) (d : Download) (old new : Far) : Type 0 where
  pub after_policies : Far
  pub after_tags : Far
  pub policies : PoliciesTold old from.policies d.policies after_policies
  pub tags : TagsTold after_policies from.tags d.tags after_tags
  pub roles : RolesTold after_tags from.roles d.roles new

-- one of the three has no answer, for this reason, and those before it have theirs
abbrev pub IsUnasked : From → AskFault → Far → Far → Type 0
IsUnasked from fault old new =
    PoliciesUntold old from.policies fault new
    ⊎ (((p : PolicyPart) × (mid : Far) × PoliciesTold old from.policies p mid × TagsUntold mid from.tags fault new)
    ⊎ ((p : PolicyPart) × (t : TagPart) × (mid : Far) × (late : Far) × PoliciesTold old from.policies p mid × TagsTold mid from.tags t late
    × RolesUntold late from.roles fault new))

-- downloads from these facts, one after another, each from the versions to which the ones before it led
abbrev pub AreAsked : Facts → List Download → Far → Far → Type 0
AreAsked facts [] old new = old ≡ new
AreAsked facts (d ∷ ds) old new = (mid : Far) × WasAsked (from_of facts) d old mid × AreAsked (led facts d) ds mid new

-- the same where nothing is had: the first is from no version
abbrev pub AreAskedAnew : List ℕ → List Download → Far → Far → Type 0
AreAskedAnew service [] old new = ⊥
AreAskedAnew service (d ∷ ds) old new =
    (mid : Far) × (facts : Facts) × WasAsked from_nothing d old mid × (begun service d ≡ Some facts) × AreAsked facts ds mid new
