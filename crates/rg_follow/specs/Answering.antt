-- Downloads that an administration answers: each question by the state of its history at some moment, later questions by later ones.
use Rattle.std.specs.Prelude.{◌≡◌, ◌≤◌, ℕ, List, [], ◌∷◌, length, Option, Some, None}
use Rattle.rg_turn.specs.History.{state_at}
use Rattle.rg_turn.specs.declared.rule.Entry.{Entry}
use Rattle.rg_facts.specs.declared.facts.Facts.{Facts}
use Rattle.rg_cmd.specs.declared.ask.AdminReply.{AdminReply}
use Rattle.rg_cmd.specs.declared.ask.Ask.{Ask}
use Rattle.rg_cmd.specs.declared.download.Download.{Download}
use Rattle.rg_admin_laws.specs.Downloads.{From, download}
use Rattle.rg_admin_laws.specs.Laws.{from_of}
use Rattle.rg_admin_laws.specs.Leading.{led}
use Rattle.rg_admin_laws.specs.Logs.{Administration}
use Rattle.rg_admin_laws.specs.Steps.{step}
use Rattle.rg_admin_laws.specs.Views.{view}
use Rattle.rg_follow.specs.Rounds.{Settles, SettlesAnew, begun}

-- from no version
abbrev pub from_nothing : From
from_nothing = record { policies = None; tags = None; roles = None }

module _ (start : Administration) (h : List (Entry Ask AdminReply)) (service : List ℕ) where
  -- what is downloaded after so many entries
  abbrev pub downloaded : ℕ → From → Option Download
  downloaded n from = download (state_at step start h n) service from

  -- Three questions from these versions, asked one after another: each is answered by what is downloaded at its moment. None was answered
  -- before so many entries, and the last after so many.
  pub record IsAnswered (from : From) (d : Download) (first last : ℕ) : Type 0 where
    pub policies_at : ℕ
    pub tags_at : ℕ
    pub of_policies : Download
    pub of_tags : Download
    pub of_roles : Download
    pub began : first ≤ policies_at
    pub then : policies_at ≤ tags_at
    pub ended : tags_at ≤ last
    pub within : last ≤ length h
    pub policies_come : downloaded policies_at from ≡ Some of_policies
    pub tags_come : downloaded tags_at from ≡ Some of_tags
    pub roles_come : downloaded last from ≡ Some of_roles
    pub policies : d.policies ≡ of_policies.policies
    pub tags : d.tags ≡ of_tags.tags
    pub roles : d.roles ≡ of_roles.roles

  -- downloads from these facts, one after another, each from the versions to which the ones before it led
  abbrev pub AreAnswered : Facts → List Download → ℕ → ℕ → Type 0
  AreAnswered facts [] first last = first ≡ last
  AreAnswered facts (d ∷ ds) first last = (n : ℕ) × IsAnswered (from_of facts) d first n × AreAnswered (led facts d) ds n last

  -- the same where nothing is had: the first is from no version
  abbrev pub AreAnsweredAnew : List Download → ℕ → ℕ → Type 0
  AreAnsweredAnew [] first last = ⊥
  AreAnsweredAnew (d ∷ ds) first last =
      (n : ℕ) × (facts : Facts) × IsAnswered from_nothing d first n × (begun service d ≡ Some facts) × AreAnswered facts ds n last

  -- ---- rounds

  -- what was had, if anything, is what the service's plugin sees after so many entries
  abbrev pub WasSeen : ℕ → Option Facts → Type 0
  WasSeen n had = (facts : Facts) → had ≡ Some facts → view (state_at step start h n) service ≡ Some facts

  abbrev pub AreAnsweredFrom : Option Facts → List Download → ℕ → ℕ → Type 0
  AreAnsweredFrom None ds first last = AreAnsweredAnew ds first last
  AreAnsweredFrom (Some facts) ds first last = AreAnswered facts ds first last

  abbrev pub SettlesFrom : Option Facts → List Download → Facts → Type 0
  SettlesFrom None ds after = SettlesAnew service ds after
  SettlesFrom (Some facts) ds after = Settles facts ds after

  -- a round from what was had, if anything, to where it settles
  pub record IsRound (had : Option Facts) (after : Facts) (first last : ℕ) : Type 0 where
    pub downloads : List Download
    pub answered : AreAnsweredFrom had downloads first last
    pub settles : SettlesFrom had downloads after
