-- How contracts see passes, and what a pass answers.
use Rattle.std.specs.Prelude.{◌≡◌, ℕ, ◌+◌, ◌-◌, ◌^◌, Bool, min, List, length, slice_get, Some, MatchBool}
use mathlib.Core.List.{IsPrefix}
use Rattle.logbook.specs.Pages.{Book}
use Rattle.logbook.specs.declared.tokens.Seen.{Seen}
use Rattle.rg_policy.specs.declared.request.AccessRequest.{AccessRequest}
use Rattle.rg_facts.specs.declared.decision.Answer.{Answer}
use Rattle.rg_facts.specs.declared.decision.Decision.{Decision}
use Rattle.rg_facts.specs.Flow.{eval}
use Rattle.rg_facts.specs.Texts.{decide}
use Rattle.rg_publish.specs.declared.history.Publication.{Publication}
use Rattle.rg_publish.specs.Publications.{Published}

-- the publisher's book, the publications that the pass has seen, and how often it entered and answered
pub record Seeing : Type 0 where
  pub book : Book
  pub list : List Publication
  pub entered : ℕ
  pub answered : ℕ

abbrev pub seeing : {P : Type 0} → Seen Publication ℕ P → ℕ → ℕ → Seeing
seeing s entered answered = record { book = s.book; list = s.log; entered = entered; answered = answered }

-- a pass that has entered and answered nothing
abbrev pub new_pass : Published → Seeing
new_pass p = record { book = p.book; list = p.list; entered = 0; answered = 0 }

-- the list isn't empty, and this holds of its last publication
abbrev pub Ends : List Publication → (Publication → Type 0) → Type 0
Ends list holds = (p : Publication) × (slice_get list (length list - 1) ≡ Some p) × holds p

-- counts stay at the last u64
abbrev pub risen : ℕ → ℕ
risen n = min (n + 1) (2 ^ 64 - 1)

-- the written flow over one publication, with its serial and versions
abbrev pub answer_of : Publication → AccessRequest → Answer
answer_of p q = record {
  verdict = eval p.facts q;
  serial = record { 0 = p.serial };
  policy_version = p.facts.policy_version;
  tag_version = p.facts.tag_version;
  role_version = p.facts.role_version;
}

-- the same with its texts
abbrev pub decision_of : Publication → AccessRequest → Decision
decision_of p q = decide p.facts q (record { 0 = p.serial })

-- where it entered, its list goes on from the old one and the count rises; else nothing changes
abbrev pub HasEntered : Seeing → Bool → Seeing → Type 0
HasEntered before entered after = MatchBool entered
    (IsPrefix before.list after.list × (after.entered ≡ risen before.entered))
    ((after.list ≡ before.list) × (after.entered ≡ before.entered))
