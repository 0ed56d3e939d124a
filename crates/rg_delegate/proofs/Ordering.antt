-- Policies whose ids rise stand in the order of their ids.
use Rattle.std.proofs.Common.{◌≡◌, ◌⊎◌, ◌&&◌, not, ℕ, ℤ, int_lt, Bool, true, false, cond, List, [], ◌∷◌, filter, Contains, refl, sym, ap, ◌∙◌, inl, inr, arith}
use Rattle.std.proofs.lemmas.Bool.{and_parts, not-true}
use Rattle.std.proofs.lemmas.Int.{ints}
use Rattle.rg_base.proofs.Lists.{Contains-cases, Contains-filtered, Contains-first, Contains-none}
use Rattle.rg_cmd.specs.Lookups.{is_of}
use Rattle.rg_cmd.specs.declared.state.State.{State}
use Rattle.rg_policy.specs.declared.policy.Policy.{Policy}
use Rattle.rg_delegate.specs.Authority.{may_see}
use Rattle.rg_delegate.specs.Listing.{by_id, ids_rise, placed, policies_for, seen_by}

never_less : (a b c : ℤ) → int_lt b a ≡ false → int_lt c b ≡ false → int_lt c a ≡ false
never_less a b c h k = grind (arith, ints)

-- the first has the least id
first_least : (p : Policy) (policies : List Policy) → ids_rise (p ∷ policies) ≡ true → (q : Policy) → Contains policies q → int_lt q.id.0 p.id.0 ≡ false
first_least p [] h q within = absurd (Contains-none q within)
first_least p (r ∷ policies) h q within =
    let parts = and_parts (not (int_lt r.id.0 p.id.0)) (ids_rise (r ∷ policies)) h in
    let before = not-true (int_lt r.id.0 p.id.0) parts.0 in
    at before (first_least r policies parts.1 q) (Contains-cases r policies q within) where
      at : int_lt r.id.0 p.id.0 ≡ false → (Contains policies q → int_lt q.id.0 r.id.0 ≡ false) → (r ≡ q) ⊎ Contains policies q → int_lt q.id.0 p.id.0 ≡ false
      at before rest (inl same) = ap (λ (x : Policy). int_lt x.id.0 p.id.0) (sym same) ∙ before
      at before rest (inr later) = never_less p.id.0 r.id.0 q.id.0 before (rest later)

placed_first : (p : Policy) (policies : List Policy) → ((q : Policy) → Contains policies q → int_lt q.id.0 p.id.0 ≡ false) → placed p policies ≡ p ∷ policies
placed_first p [] h = refl
placed_first p (q ∷ policies) h = ap (λ b. cond b (q ∷ placed p policies) (p ∷ q ∷ policies)) (h q (Contains-first q policies))

rest_rises : (p : Policy) (policies : List Policy) → ids_rise (p ∷ policies) ≡ true → ids_rise policies ≡ true
rest_rises p [] h = refl
rest_rises p (q ∷ policies) h = (and_parts (not (int_lt q.id.0 p.id.0)) (ids_rise (q ∷ policies)) h).1

pub kept_in_order : (keep : Policy → Bool) (policies : List Policy) → ids_rise policies ≡ true → by_id (filter keep policies) ≡ filter keep policies
kept_in_order keep [] h = refl
kept_in_order keep (p ∷ policies) h = at (keep p) (kept_in_order keep policies (rest_rises p policies h)) where
  at : (b : Bool) → by_id (filter keep policies) ≡ filter keep policies → by_id (cond b (p ∷ filter keep policies) (filter keep policies)) ≡ cond b (p ∷ filter keep policies) (filter keep policies)
  at true e = ap (placed p) e ∙ placed_first p (filter keep policies) (λ q within. first_least p policies h q (Contains-filtered keep policies q within).0)
  at false e = e

pub seen_in_order : (s : State) (actor service : List ℕ) → ids_rise s.policies.items ≡ true → policies_for s actor service ≡ seen_by s actor service
seen_in_order s actor service h = kept_in_order (λ (p : Policy). is_of service p && may_see s actor p) s.policies.items h
