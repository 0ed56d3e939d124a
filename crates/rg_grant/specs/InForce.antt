-- What an accepted grant and an accepted revoke bring about.
use Rattle.std.specs.Prelude.{◌≡◌, ℕ, ◌^◌, nat_lt, true, List, Option, Some, None, option_map, if◌then◌else◌}
use Rattle.std.specs.List.{Contains}
use Rattle.rg_policy.specs.declared.policy.Policy.{Policy}
use Rattle.rg_policy.specs.declared.request.AccessRequest.{AccessRequest}
use Rattle.rg_evalr.specs.Effects.{access_of}
use Rattle.rg_evalr.specs.Items.{Context}
use Rattle.rg_evalr.specs.declared.frame.Frame.{Frame}
use Rattle.rg_evalr.specs.declared.frame.Side.{Side}
use Rattle.rg_evalr.specs.declared.frame.Side.TheVariants.{Resource}
use Rattle.rg_facts.specs.Candidates.{Candidate, candidate, candidates, frame_of}
use Rattle.rg_facts.specs.Flow.{eval}
use Rattle.rg_facts.specs.declared.decision.Verdict.{Verdict}
use Rattle.rg_facts.specs.declared.facts.Facts.{Facts}
use Rattle.rg_cmd.specs.Lists.{without}
use Rattle.rg_cmd.specs.Lookups.{has_id}
use Rattle.rg_cmd.specs.declared.ask.AdminReply.{AdminReply}
use Rattle.rg_cmd.specs.declared.rule.Rule.{Rule}
use Rattle.rg_cmd.specs.declared.rule.Rule.TheVariants.{E2, L1}
use Rattle.rg_cmd.specs.declared.state.State.{State}
use Rattle.rg_admin_laws.specs.Logs.{Administration}
use Rattle.rg_admin_laws.specs.Steps.{kept}
use Rattle.rg_admin_laws.specs.Views.{view}
use Rattle.rg_grant.specs.Allowing.{IsAllowed, IsSpokenOf}
use Rattle.rg_grant.specs.Forms.{granted_form}
use Rattle.rg_grant.specs.Permissions.{IsGiven, Permission, names_both}
use Rattle.rg_grant.specs.Planning.{policy_for}
use Rattle.rg_grant.specs.declared.row.GrantRow.{GrantRow}

-- the policies are as before, but for this one
abbrev pub IsAlone : State → State → Policy → Type 0
IsAlone before after p = without (has_id p.id.0) after.policies.items ≡ without (has_id p.id.0) before.policies.items

-- the row has a policy, which the reply names; the other policies are as before; the plugin of the row's service asks the policy
-- for each request, and whatever a plugin is asked of which the row speaks is allowed as said; and to grant the row again changes nothing of what the policy gives
pub record IsInForce (g : GrantRow) (before after : Administration) (reply : AdminReply) : Type 0 where
  pub policy : Policy
  pub found : policy_for after.state g ≡ Some policy
  pub replied : reply ≡ kept policy
  pub others : IsAlone before.state after.state policy
  pub asked : (facts : Facts) (q : AccessRequest) → view after g.service ≡ Some facts → Contains (candidates facts q) (candidate (frame_of facts) Resource None policy)
  pub allows : (service : List ℕ) (facts : Facts) (q : AccessRequest) (c : Candidate) → view after service ≡ Some facts
      → c.source.policy ≡ policy → IsSpokenOf g facts q c → IsAllowed facts q c
  pub again : (frame : Frame) (side : Side) (c : Context) → access_of frame side c (granted_form g policy) ≡ access_of frame side c policy

-- the row has a policy, which the reply names; the other policies are as before; and no allow item of the policy gives a subject
-- of the row an access of the row
pub record IsRevoked (g : GrantRow) (before after : Administration) (reply : AdminReply) : Type 0 where
  pub policy : Policy
  pub found : policy_for after.state g ≡ Some policy
  pub replied : reply ≡ kept policy
  pub others : IsAlone before.state after.state policy
  pub takes : (p : Permission) → names_both g p ≡ true → IsGiven policy.items.items p → ⊥

-- the rule that refuses a revoke where the row has no policy
abbrev pub no_policy_rule : State → Rule
no_policy_rule s = if nat_lt s.count (2 ^ 62) then E2 else L1

-- what the service's plugin answers the request, where there is such a service
abbrev pub verdict_at : Administration → List ℕ → AccessRequest → Option Verdict
verdict_at a service q = option_map (λ (f : Facts). eval f q) (view a service)
