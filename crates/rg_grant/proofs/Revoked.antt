-- What an accepted revoke leaves, and why it is refused where the row has no policy.
use Rattle.std.proofs.Common.{◌≡◌, ◌∷◌, ◌^◌, ℕ, pos, nat_lt, int_lt, Bool, true, false, cond, List, Option, Some, None, refl, sym, ap, subst, ◌∙◌}
use Rattle.std.specs.List.{list_any}
use Rattle.std.specs.Option.{option_or}
use Rattle.std.proofs.lemmas.Bool.{and_parts, false≢true}
use Rattle.std.proofs.lemmas.Option.{none-some}
use Rattle.rg_base.proofs.Lists.{all_holds, find_contained}
use Rattle.rg_policy.specs.declared.policy.Policy.{Policy}
use Rattle.rg_cmd.specs.Lookups.{has_id}
use Rattle.rg_cmd.specs.declared.ask.Ask.{Ask}
use Rattle.rg_cmd.specs.declared.rule.Rule.{Rule}
use Rattle.rg_cmd.specs.declared.rule.Rule.TheVariants.{E2, L1}
use Rattle.rg_cmd.specs.declared.state.State.{State}
use Rattle.rg_delegate.specs.Rules.{authority_fault}
use Rattle.rg_validate.specs.Failing.{Tested, first_failing}
use Rattle.rg_validate.specs.Policies.{policy_rules}
use Rattle.rg_validate.specs.Rules.{rules_under, service_exists}
use Rattle.rg_validate.specs.Valid.{IsKept, is_given}
use Rattle.rg_admin_laws.specs.Changes.{updated_form}
use Rattle.rg_admin_laws.specs.Laws.{is_refused}
use Rattle.rg_admin_laws.specs.Logs.{Administration}
use Rattle.rg_admin_laws.specs.Steps.{fault, step_by}
use Rattle.rg_admin_laws.proofs.Ids.{lt_differs}
use Rattle.rg_admin_laws.proofs.Lists.{none_from}
use Rattle.rg_cmd.specs.Lookups.{def_of}
use Rattle.rg_grant.specs.Forms.{new_policy, revoked_form}
use Rattle.rg_grant.specs.InForce.{IsRevoked, no_policy_rule}
use Rattle.rg_grant.specs.Planning.{is_for, planned, policy_for, revoke_of}
use Rattle.rg_grant.specs.Steps.{granted}
use Rattle.rg_grant.specs.declared.ask.GrantAsk.TheVariants.{Revoke}
use Rattle.rg_grant.specs.declared.row.GrantRow.{GrantRow}
use Rattle.rg_grant.proofs.Apart.{put_alone}
use Rattle.rg_grant.proofs.InForce.{accepted_where, done, find_put_own, id_self}
use Rattle.rg_grant.proofs.Permitted.{given_before}

-- ---- without a policy

none_has_zero : (s : State) → IsKept s → list_any (has_id (pos 0)) s.policies.items ≡ false
none_has_zero s kept = none_from (has_id (pos 0)) s.policies.items (λ p there.
    let given = and_parts (int_lt (pos 0) p.id.0) (int_lt p.id.0 s.next_id) (all_holds (is_given s) s.policies.items kept.given p there) in
    lt_differs (pos 0) p.id.0 given.0)

first_of_two : (low has : Bool) (rest : List Tested) → has ≡ false → first_failing ((L1, low) ∷ (E2, has) ∷ rest) ≡ Some (cond low E2 L1)
first_of_two true has rest none = ap (λ b. first_failing ((L1, true) ∷ (E2, b) ∷ rest)) none
first_of_two false has rest none = refl

revoke_fault : (s : State) (actor : List ℕ) (g : GrantRow) → IsKept s → fault s (record { actor = actor; command = revoke_of s g None }) ≡ Some (no_policy_rule s)
unfolding new_policy
revoke_fault s actor g kept =
    let p = new_policy s.next_id g in
    let ask : Ask = record { actor = actor; command = revoke_of s g None } in
    ap (λ o. option_or o (authority_fault s ask))
    (first_of_two (nat_lt s.count (2 ^ 62)) (list_any (has_id (pos 0)) s.policies.items) (service_exists s p.service ∷ rules_under (def_of s p.service) (policy_rules s (Some p.id) p)) (none_has_zero s kept))

pub refused_without : (a : Administration) (actor : List ℕ) (g : GrantRow) → IsKept a.state → policy_for a.state g ≡ None
    → granted a (Revoke actor g) ≡ step_by (Some (no_policy_rule a.state)) a (planned a.state (Revoke actor g))
unfolding granted planned
refused_without a actor g kept none =
    let ask : Option Policy → Ask = λ o. record { actor = actor; command = revoke_of a.state g o } in
    subst (λ (o : Option Policy). step_by (fault a.state (ask o)) a (ask o) ≡ step_by (Some (no_policy_rule a.state)) a (ask o)) (sym none)
    (ap (λ (r : Option Rule). step_by r a (ask None)) (revoke_fault a.state actor g kept))

-- ---- with one

revoked_from : (a : Administration) (actor : List ℕ) (g : GrantRow) → IsKept a.state → (o : Option Policy) → policy_for a.state g ≡ o
    → fault a.state (record { actor = actor; command = revoke_of a.state g o }) ≡ None → let d = done a actor (revoke_of a.state g o) in IsRevoked g a d.0 d.1
unfolding revoked_form
revoked_from a actor g kept None none fine = absurd (none-some (no_policy_rule a.state) (sym fine ∙ revoke_fault a.state actor g kept))
revoked_from a actor g kept (Some old) found fine =
    let s = a.state in
    let p = updated_form s (revoked_form g old) in
    record {
      policy = p;
      found = find_put_own (is_for g) (has_id old.id.0) p (find_contained (is_for g) s.policies.items old found).1 old (id_self old.id.0) s.policies.items found;
      replied = refl;
      others = put_alone (has_id old.id.0) p s.policies.items (id_self old.id.0);
      takes = λ given both left. false≢true (sym (given_before g old.items.items given left).1 ∙ both);
    }

pub revoked : (a : Administration) (actor : List ℕ) (g : GrantRow) → IsKept a.state → is_refused (granted a (Revoke actor g)).1 ≡ false
    → IsRevoked g a (granted a (Revoke actor g)).0 (granted a (Revoke actor g)).1
unfolding granted planned
revoked a actor g kept fine =
    let ask : Ask = record { actor = actor; command = revoke_of a.state g (policy_for a.state g) } in
    let none = accepted_where a ask (fault a.state ask) fine in
    subst (λ (o : Option Rule). IsRevoked g a (step_by o a ask).0 (step_by o a ask).1) (sym none) (revoked_from a actor g kept (policy_for a.state g) refl none)
