-- What a policy with the allow item of a grant says to a request of which the row speaks, by the definitions of the flow.
use Rattle.std.specs.Prelude.{◌≡◌, ℕ, ◌<◌, Bool, true, false, List, [], Some}
use Rattle.std.specs.Ordering.{int_eq}
use Rattle.std.specs.List.{Contains}
use Rattle.rg_base.specs.Texts.{is_among}
use Rattle.rg_policy.specs.Kinds.{access_policy, normal}
use Rattle.rg_policy.specs.declared.policy.Item.{Item}
use Rattle.rg_policy.specs.declared.policy.Policy.{Policy}
use Rattle.rg_policy.specs.declared.request.AccessRequest.{AccessRequest}
use Rattle.rg_items.specs.Subjects.{names_asker}
use Rattle.rg_evalr.specs.Effects.{access_of}
use Rattle.rg_evalr.specs.Frames.{requested_access}
use Rattle.rg_evalr.specs.Items.{any_matches}
use Rattle.rg_evalr.specs.declared.frame.Effect.TheVariants.{Allow}
use Rattle.rg_facts.specs.Candidates.{Candidate, candidates, context_of, setting_of, takes_part}
use Rattle.rg_facts.specs.Flow.{cell_at, eval, policies_in}
use Rattle.rg_facts.specs.declared.decision.Access.TheVariants.{Allowed}
use Rattle.rg_facts.specs.declared.facts.Facts.{Facts}
use Rattle.rg_grant.specs.Forms.{granting_item}
use Rattle.rg_grant.specs.declared.row.GrantRow.{GrantRow}

-- one of these items of the policy that is asked matches
abbrev pub some_matches : Facts → AccessRequest → Candidate → List Item → Bool
some_matches facts q c items = any_matches c.source.frame c.source.side (context_of (setting_of facts q) c) items

-- an access policy of priority 0 with the allow item of the row's grant
pub record IsGranting (g : GrantRow) (p : Policy) : Type 0 where
  pub has : Contains p.items.items (granting_item g)
  pub gives_access : int_eq p.policy_type access_policy ≡ true
  pub is_normal : int_eq p.priority normal ≡ true

-- the policy is asked, is chosen by the zone and in play; a subject of the row is the asker, and the access that the policy is
-- asked for is one of the row's
pub record IsSpokenOf (g : GrantRow) (facts : Facts) (q : AccessRequest) (c : Candidate) : Type 0 where
  pub asked : Contains (candidates facts q) c
  pub takes : takes_part (setting_of facts q) c ≡ true
  pub subject : names_asker facts.roles.items q (granting_item g) ≡ true
  pub access : is_among (requested_access c.source.frame c.source.side q.access) g.accesses.items ≡ true

-- no deny item and no allow exception of the policy matches
pub record IsUnopposed (facts : Facts) (q : AccessRequest) (c : Candidate) : Type 0 where
  pub deny_items : some_matches facts q c c.source.policy.deny_items.items ≡ false
  pub allow_exceptions : some_matches facts q c c.source.policy.allow_exceptions.items ≡ false

-- no policy stands in a cell before the candidate's
abbrev pub IsFirst : Facts → AccessRequest → Candidate → Type 0
IsFirst facts q c = (own n : ℕ) → cell_at (setting_of facts q) c ≡ Some own → n < own → policies_in (setting_of facts q) (candidates facts q) n ≡ []

-- an allow item matches; where nothing of the policy opposes it the policy allows; and where no earlier cell is filled the answer
-- is Allowed
pub record IsAllowed (facts : Facts) (q : AccessRequest) (c : Candidate) : Type 0 where
  pub matches : some_matches facts q c c.source.policy.items.items ≡ true
  pub allows : IsUnopposed facts q c → access_of c.source.frame c.source.side (context_of (setting_of facts q) c) c.source.policy ≡ Allow
  pub decides : IsUnopposed facts q c → IsFirst facts q c → (eval facts q).access ≡ Allowed
