-- The flow of decision: which policy decides a request, and how.
use Rattle.std.specs.Prelude.{ℕ, ◌+◌, ℤ, negsuc, int_lt, eqb, Bool, false, true, ◌&&◌, ◌||◌, List, [], ◌∷◌, map, filter, Option, Some, None, option_and_then, option_map, if◌then◌else◌}
use Rattle.std.specs.Option.{option_map_or}
use Rattle.std.specs.Ordering.{int_eq}
use Rattle.rg_policy.specs.Kinds.{access_policy, normal, overriding}
use Rattle.rg_policy.specs.declared.policy.Policy.{Policy}
use Rattle.rg_policy.specs.declared.request.AccessRequest.{AccessRequest}
use Rattle.rg_evalr.specs.Effects.{access_of}
use Rattle.rg_evalr.specs.declared.frame.Effect.{Effect}
use Rattle.rg_evalr.specs.declared.frame.Effect.TheVariants.{Nothing, Allow, Deny}
use Rattle.rg_evalr.specs.declared.frame.Side.{Side}
use Rattle.rg_evalr.specs.declared.frame.Side.TheVariants.{Resource, Tag}
use Rattle.rg_facts.specs.Candidates.{Candidate, Setting, candidates, context_of, is_chosen, setting_of}
use Rattle.rg_facts.specs.Choices.{Choice, chosen, unless_no_mask}
use Rattle.rg_facts.specs.Firsts.{first_by, first_some}
use Rattle.rg_facts.specs.declared.choice.Kind.TheVariants.{Mask, Filter}
use Rattle.rg_facts.specs.declared.decision.Access.{Access}
use Rattle.rg_facts.specs.declared.decision.Access.TheVariants.{Allowed, Denied, Undetermined}
use Rattle.rg_facts.specs.declared.decision.ItemPlace.{ItemPlace}
use Rattle.rg_facts.specs.declared.decision.Verdict.{Verdict}
use Rattle.rg_facts.specs.declared.facts.Facts.{Facts}

-- what an access policy gives: nothing where the zone doesn't choose it
unfoldable pub given : Setting → Candidate → Effect
given s c = if int_eq c.source.policy.policy_type access_policy && is_chosen s c
    then access_of c.source.frame c.source.side (context_of s c) c.source.policy else Nothing

-- the cells of one priority: denials before permissions, tags before the resource
abbrev pub cell_in : Side → Effect → Option ℕ
cell_in Tag Deny = Some 1
cell_in Resource Deny = Some 2
cell_in Tag Allow = Some 3
cell_in Resource Allow = Some 4
cell_in Tag Nothing = None
cell_in Resource Nothing = None

-- the cell of a policy that gives this effect: those of priority 1 are the first four, those of priority 0 the last four
abbrev pub cell_of : ℤ → Side → Effect → Option ℕ
cell_of priority side effect =
    if int_eq priority overriding then cell_in side effect
    else (if int_eq priority normal then option_map (λ n. n + 4) (cell_in side effect) else None)

-- the cell in which a candidate stands
abbrev pub cell_at : Setting → Candidate → Option ℕ
cell_at s c = cell_of c.source.policy.priority c.source.side (given s c)

-- the candidate stands in this cell
abbrev pub stands_in : Setting → ℕ → Candidate → Bool
stands_in s n c = option_map_or (λ m. eqb m n) (cell_at s c) false

-- the policies in a cell
abbrev pub policies_in : Setting → List Candidate → ℕ → List Policy
policies_in s cs n = map (λ (c : Candidate). c.source.policy) (filter (stands_in s n) cs)

-- the one id is less than the other
abbrev pub has_lesser_id : Policy → Policy → Bool
has_lesser_id p q = int_lt p.id.0 q.id.0

-- the policy with the least id in a cell, and the cell
abbrev pub decided_in : Setting → List Candidate → ℕ → Option (ℕ × Policy)
decided_in s cs n = option_map (λ p. (n, p)) (first_by has_lesser_id (policies_in s cs n))

abbrev pub cells : List ℕ
cells = 1 ∷ 2 ∷ 3 ∷ 4 ∷ 5 ∷ 6 ∷ 7 ∷ 8 ∷ []

-- the first cell that isn't empty decides, and in it the policy with the least id
abbrev pub decider : Setting → List Candidate → Option (ℕ × Policy)
decider s cs = first_some (map (decided_in s cs) cells)

-- the cells 1, 2, 5 and 6 deny, the others allow
abbrev pub denies : ℕ → Bool
denies n = eqb n 1 || (eqb n 2 || (eqb n 5 || eqb n 6))

-- what the deciding cell gives; where no policy decides access is denied, or left undetermined
abbrev pub access_in : Bool → Option (ℕ × Policy) → Access
access_in fallback (Some d) = if denies d.0 then Denied else Allowed
access_in fallback None = if fallback then Undetermined else Denied

abbrev pub is_allowed : Access → Bool
is_allowed Allowed = true
is_allowed Denied = false
is_allowed Undetermined = false

-- what a request gets: the access, the policy that decides, and the chosen items
pub record Outcome : Type 0 where
  pub access : Access
  pub policy : Option Policy
  pub filter : Option Choice
  pub mask : Option Choice

-- a row filter and a mask are given beside Allowed alone
abbrev pub outcome_from : Bool → Option (ℕ × Policy) → Option Choice → Option Choice → Outcome
outcome_from fallback decided filter mask = record {
  access = access_in fallback decided;
  policy = option_map (λ d. d.1) decided;
  filter = if is_allowed (access_in fallback decided) then filter else None;
  mask = if is_allowed (access_in fallback decided) then option_and_then unless_no_mask mask else None;
}

-- what these candidates give
unfoldable pub outcome_of : Bool → Setting → List Candidate → Outcome
outcome_of fallback s cs = outcome_from fallback (decider s cs) (chosen s Filter cs) (chosen s Mask cs)

-- the written flow over every policy and tag
abbrev pub outcome : Facts → AccessRequest → Outcome
outcome facts q = outcome_of facts.fallback (setting_of facts q) (candidates facts q)

-- where an item stands
abbrev pub is_tag : Side → Bool
is_tag Tag = true
is_tag Resource = false

abbrev pub place_of : Choice → ItemPlace
place_of c = record { policy = c.policy.id; tag = is_tag c.side; item = c.place }

-- the outcome in numbers; no policy has the number -1, and where none decides the request is audited
abbrev pub verdict_of : Outcome → Verdict
verdict_of o = record {
  access = o.access;
  policy = option_map_or (λ (p : Policy). p.id) o.policy (record { 0 = negsuc 0 });
  audited = option_map_or (λ (p : Policy). p.audited) o.policy true;
  filter = option_map place_of o.filter;
  mask = option_map place_of o.mask;
}

-- the evaluation of a request
abbrev pub eval : Facts → AccessRequest → Verdict
eval facts q = verdict_of (outcome facts q)
