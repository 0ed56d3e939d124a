-- The drill: what becomes of its workload, and what is counted.
use Rattle.std.specs.Prelude.{◌≡◌, ◌≤◌, ℕ, zero, suc, ◌+◌, ◌*◌, ◌/◌, ◌%◌, ◌==◌, ◌||◌, Bool, true, false, List, codes, filter, length, Option, Some, option_map, option_and_then, if◌then◌else◌}
use Rattle.std.specs.List.{sum_by}
use Rattle.std.specs.Str.{chars}
use Rattle.rg_base.specs.declared.steps.Counted.{Counted}
use Rattle.rg_policy.specs.declared.policy.Policy.{Policy}
use Rattle.rg_policy.specs.declared.request.AccessRequest.{AccessRequest}
use Rattle.rg_facts.specs.Flow.{eval, is_allowed}
use Rattle.rg_facts.specs.declared.decision.Access.{Access}
use Rattle.rg_facts.specs.declared.decision.Access.TheVariants.{Allowed, Denied, Undetermined}
use Rattle.rg_facts.specs.declared.facts.Facts.{Facts}
use Rattle.rg_cmd.specs.declared.ask.AdminCommand.TheVariants.{CreatePolicy}
use Rattle.rg_cmd.specs.declared.ask.Ask.{Ask}
use Rattle.rg_publish.specs.Bounds.{bound_on}
use Rattle.rg_drill.specs.Hive.{drill_config}
use Rattle.rg_drill.specs.Workload.{policies_of, policy_of, requests_of}
use Rattle.rg_run_replay.specs.Starting.{start_fault}
use Rattle.rg_publish.specs.declared.history.Publication.{Publication}
use Rattle.rg_run_replay.specs.Running.{Running, asked, newest, opened_unless, refreshed}
use Rattle.rg_run_drill.specs.declared.answers.Answers.{Answers}
use Rattle.rg_run_drill.specs.declared.totals.Totals.{Totals}

-- ---- policies

-- root creates the policy
abbrev pub creation : Policy → Ask
creation p = record { actor = chars (codes "root"); command = CreatePolicy p }

-- the plugin is refreshed after each 500th policy, and after the last
abbrev pub is_due : ℕ → ℕ → Bool
is_due policies number = number % 500 == 0 || number == policies

-- after a refresh from the newest publication
abbrev pub refreshed_newest : Running → Option Running
refreshed_newest r = option_map (refreshed r) (newest r)

-- after the policy was created, and the plugin refreshed where that is due
abbrev pub created : Bool → Running → Policy → Option Running
created due r p = if due then refreshed_newest (asked r (creation p)) else Some (asked r (creation p))

-- after the first k of so many policies, drawn from x on
abbrev pub prepared : Option Running → ℕ → ℕ → ℕ → Option Running
prepared start policies zero x = start
prepared start policies (suc k) x =
    option_and_then (λ r. created (is_due policies (k + 1)) r (policy_of (k + 1) (policies_of k x).next).value) (prepared start policies k x)

-- how often the plugin is refreshed
abbrev pub refreshes : ℕ → ℕ
refreshes policies = (policies + 499) / 500

-- ---- requests

abbrev pub none_answered : Answers
none_answered = record { allowed = 0; denied = 0; undetermined = 0 }

abbrev pub answered : Answers → ℕ
answered a = a.allowed + (a.denied + a.undetermined)

-- after one more answer
abbrev pub with_answer : Access → Answers → Answers
with_answer Allowed a = record { allowed = a.allowed + 1; denied = a.denied; undetermined = a.undetermined }
with_answer Denied a = record { allowed = a.allowed; denied = a.denied + 1; undetermined = a.undetermined }
with_answer Undetermined a = record { allowed = a.allowed; denied = a.denied; undetermined = a.undetermined + 1 }

abbrev pub is_denied : Access → Bool
is_denied Allowed = false
is_denied Denied = true
is_denied Undetermined = false

abbrev pub is_undetermined : Access → Bool
is_undetermined Allowed = false
is_undetermined Denied = false
is_undetermined Undetermined = true

-- how many of the requests the flow over these facts answers so
abbrev pub number_of : (Access → Bool) → Facts → List AccessRequest → ℕ
number_of is facts qs = length (filter (λ (q : AccessRequest). is (eval facts q).access) qs)

-- all three numbers
abbrev pub answers_to : Facts → List AccessRequest → Answers
answers_to facts qs = record {
  allowed = number_of is_allowed facts qs;
  denied = number_of is_denied facts qs;
  undetermined = number_of is_undetermined facts qs;
}

-- the requests are drawn after the policies
abbrev pub drawn_requests : ℕ → ℕ → ℕ → List AccessRequest
drawn_requests seed policies requests = (requests_of policies requests (policies_of policies seed).next).value

-- ---- the whole

abbrev pub totals : ℕ → ℕ → ℕ → Counted → Answers → Totals
totals policies requests publications work answers = record {
  policies = policies;
  publications = publications;
  compiles = work.compiles;
  edits = work.edits;
  requests = requests;
  allowed = answers.allowed;
  denied = answers.denied;
  undetermined = answers.undetermined;
  tries = work.tries;
}

-- the numbers, where each refresh published and the work is within its bounds
pub record IsTotal (policies requests publications : ℕ) (work : Counted) (answers : Answers) (t : Totals) : Type 0 where
  pub total : t ≡ totals policies requests publications work answers
  pub published : publications ≡ 1 + refreshes policies
  pub compiled : work.compiles ≤ policies
  pub edited : work.edits ≤ 3 * policies

-- where from this start on so many policies were created, published in steps, and so many requests were decided by the last publication
pub record IsCarriedFrom (start : Option Running) (seed policies requests : ℕ) (t : Totals) : Type 0 where
  pub running : Running
  pub prepares : prepared start policies policies seed ≡ Some running
  pub last : Publication
  pub newest_is : newest running ≡ Some last
  -- what was asked for
  pub policies_are : t.policies ≡ policies
  pub requests_are : t.requests ≡ requests
  -- each refresh published
  pub publications_are : t.publications ≡ 1 + refreshes policies
  pub published : length running.published ≡ t.publications
  -- the written flow over the last publication
  pub allowed_are : t.allowed ≡ number_of is_allowed last.facts (drawn_requests seed policies requests)
  pub denied_are : t.denied ≡ number_of is_denied last.facts (drawn_requests seed policies requests)
  pub undetermined_are : t.undetermined ≡ number_of is_undetermined last.facts (drawn_requests seed policies requests)
  -- the work
  pub compiles_within : t.compiles ≤ policies
  pub edits_within : t.edits ≤ 3 * policies
  pub tries_within : t.tries ≤ sum_by (bound_on last.facts) (drawn_requests seed policies requests)

-- from the start of the drill's configuration on
abbrev pub IsCarriedOut : ℕ → ℕ → ℕ → Totals → Type 0
IsCarriedOut = IsCarriedFrom (opened_unless (start_fault drill_config) drill_config)
