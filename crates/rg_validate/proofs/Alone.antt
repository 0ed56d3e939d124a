-- V2 and V13 where no other policy has the print of the name or of the maps.
use Rattle.std.proofs.Common.{arith, ◌≡◌, ◌≤◌, ◌&&◌, ℕ, nat_le, Bool, true, false, not, List, Option, Some, None, Contains, refl, ap, subst, ◌∙◌}
use Rattle.std.specs.List.{list_any}
use Rattle.std.specs.Str.{bytes_eq}
use Rattle.std.proofs.lemmas.Bool.{and_parts, false≢true}
use Rattle.std.proofs.lemmas.Bool.Decides.{nat_tests}
use Rattle.rg_base.proofs.Lists.{any_holds, find_contained}
use Rattle.rg_base.specs.declared.numbers.PolicyId.{PolicyId}
use Rattle.rg_policy.specs.Maps.{maps_of}
use Rattle.rg_policy.specs.declared.policy.Policy.{Policy}
use Rattle.rg_cmd.specs.Lookups.{has_id, policy_at}
use Rattle.rg_cmd.specs.declared.state.State.{State}
use Rattle.rg_same_resources.specs.Counts.{IsCounted, count_of, has_print}
use Rattle.rg_same_resources.specs.Prints.{name_print_of, print_of}
use Rattle.rg_same_resources.specs.Twins.{is_twin, same_kind, same_maps, same_place}
use Rattle.rg_same_resources.proofs.Counting.{has_map_print, has_name_print, none_has, none_other}
use Rattle.rg_same_resources.proofs.OnePrint.{one_name_print, one_print}
use Rattle.rg_validate.specs.Policies.{is_namesake, is_other, old_form}
use Rattle.rg_validate.specs.Steps.{own_count}

not_false : (b : Bool) → not b ≡ true → b ≡ false
not_false false h = refl
not_false true h = absurd (false≢true h)

no_more : (n : ℕ) → n ≤ 0 → n ≡ 0
no_more n h = omega (arith, h)

pub twin_has : (k : ℕ) (p q : Policy) → k ≡ print_of (maps_of p) → is_twin p q ≡ true → 1 ≤ has_print k q
twin_has k p q is twin =
    let maps = (and_parts (same_kind p q) (same_maps (maps_of p) (maps_of q)) (and_parts q.enabled (same_kind p q && same_maps (maps_of p) (maps_of q)) twin).1).1 in
    has_map_print k q (is ∙ one_print (maps_of p) (maps_of q) maps)

pub namesake_has : (k : ℕ) (p q : Policy) → k ≡ name_print_of p → is_namesake p q ≡ true → 1 ≤ has_print k q
namesake_has k p q is same =
    let both = and_parts (bytes_eq q.name p.name) (same_place p q) same in
    has_name_print k q (is ∙ one_name_print p q both.0 both.1)

module _ (counts : List (ℕ × ℕ)) (s : State) (k : ℕ) (counted : IsCounted counts s.policies.items) where
  -- another one with the print is counted, and beside it the old form, if there is one
  not_both : (updated : Option PolicyId) (q : Policy) → count_of counts k ≤ own_count (old_form s updated) k
      → Contains s.policies.items q → is_other updated q ≡ true → 1 ≤ has_print k q → ⊥
  not_both None q few here other has = none_has counts s.policies.items k q counted (no_more _ few) here has
  not_both (Some id) q few here other has = at (policy_at s id.0) refl
    where
      at : (found : Option Policy) → policy_at s id.0 ≡ found → ⊥
      at None is = none_has counts s.policies.items k q counted (no_more _ (subst (λ old. count_of counts k ≤ own_count old k) is few)) here has
      at (Some o) is =
          let old = find_contained (has_id id.0) s.policies.items o is in
          none_other counts s.policies.items k (has_id id.0) o q counted (subst (λ old. count_of counts k ≤ own_count old k) is few)
          old.0 here old.1 (not_false (has_id id.0 q) other) has

  alone : (updated : Option PolicyId) (test : Policy → Bool) → ((q : Policy) → test q ≡ true → 1 ≤ has_print k q)
      → count_of counts k ≤ own_count (old_form s updated) k → list_any (λ (q : Policy). is_other updated q && test q) s.policies.items ≡ false
  alone updated test tells few = at (list_any others s.policies.items) refl
    where
      others : Policy → Bool
      others q = is_other updated q && test q

      at : (b : Bool) → list_any others s.policies.items ≡ b → list_any others s.policies.items ≡ false
      at false e = e
      at true e =
          let found = any_holds others s.policies.items e in
          let both = and_parts (is_other updated found.0) (test found.0) found.2 in
          absurd (not_both updated found.0 few found.1 both.0 (tells found.0 both.1))

  -- by what the code looked at
  pub alone_by : (updated : Option PolicyId) (n most : ℕ) (old : Option Policy) → n ≡ count_of counts k → old ≡ old_form s updated → most ≡ own_count old k → nat_le n most ≡ true
      → (test : Policy → Bool) → ((q : Policy) → test q ≡ true → 1 ≤ has_print k q) → list_any (λ (q : Policy). is_other updated q && test q) s.policies.items ≡ false
  alone_by updated n most old count form own few test tells =
      let all : n ≤ most = grind (arith, nat_tests, few) in
      let same : own_count old k ≡ own_count (old_form s updated) k = ap (λ o. own_count o k) form in
      alone updated test tells (omega (arith, all, same, count, own))
