-- What one more request adds to the numbers.
use Rattle.std.proofs.Common.{◌≡◌, ◌∙◌, ℕ, ◌+◌, Bool, true, false, cond, List, [], ◌∷◌, ◌++◌, append-nil, length, length-append, filter, ap, ap₂, arith}
use Rattle.std.proofs.lemmas.List.Elements.{filter-append}
use Rattle.rg_policy.specs.declared.request.AccessRequest.{AccessRequest}
use Rattle.rg_facts.specs.Flow.{eval, is_allowed}
use Rattle.rg_facts.specs.declared.decision.Access.{Access}
use Rattle.rg_facts.specs.declared.decision.Access.TheVariants.{Allowed, Denied, Undetermined}
use Rattle.rg_facts.specs.declared.facts.Facts.{Facts}
use Rattle.rg_run_drill.specs.declared.answers.Answers.{Answers}
use Rattle.rg_run_drill.specs.Drill.{answered, answers_to, is_denied, is_undetermined, with_answer}

counted_in : {X : Type 0} (f : X → Bool) (xs : List X) (x : X) → f x ≡ true → length (filter f (xs ++ x ∷ [])) ≡ length (filter f xs) + 1
counted_in f xs x is = ap length (filter-append f xs (x ∷ []) ∙ ap (λ b. filter f xs ++ cond b (x ∷ []) []) is) ∙ length-append (filter f xs) (x ∷ [])

counted_out : {X : Type 0} (f : X → Bool) (xs : List X) (x : X) → f x ≡ false → length (filter f (xs ++ x ∷ [])) ≡ length (filter f xs)
counted_out f xs x is = ap length (filter-append f xs (x ∷ []) ∙ ap (λ b. filter f xs ++ cond b (x ∷ []) []) is ∙ append-nil (filter f xs))

module _ (facts : Facts) (qs : List AccessRequest) (q : AccessRequest) where
  abbrev so : (Access → Bool) → AccessRequest → Bool
  so test r = test (eval facts r).access

  abbrev made : ℕ → ℕ → ℕ → Answers
  made a d u = record { allowed = a; denied = d; undetermined = u }

  same : {a a' d d' u u' : ℕ} → a ≡ a' → d ≡ d' → u ≡ u' → made a d u ≡ made a' d' u'
  same p q r = ap₂ (λ (f : ℕ → Answers) (n : ℕ). f n) (ap₂ made p q) r

  -- the numbers after one more request, which the flow answers so
  pub one_more_answer : (a : Access) → (eval facts q).access ≡ a → answers_to facts (qs ++ q ∷ []) ≡ with_answer a (answers_to facts qs)
  one_more_answer Allowed is = same (counted_in (so is_allowed) qs q (ap is_allowed is)) (counted_out (so is_denied) qs q (ap is_denied is)) (counted_out (so is_undetermined) qs q (ap is_undetermined is))
  one_more_answer Denied is = same (counted_out (so is_allowed) qs q (ap is_allowed is)) (counted_in (so is_denied) qs q (ap is_denied is)) (counted_out (so is_undetermined) qs q (ap is_undetermined is))
  one_more_answer Undetermined is = same (counted_out (so is_allowed) qs q (ap is_allowed is)) (counted_out (so is_denied) qs q (ap is_denied is)) (counted_in (so is_undetermined) qs q (ap is_undetermined is))

-- one more is answered
pub one_more_answered : (a : Access) (t : Answers) → answered (with_answer a t) ≡ answered t + 1
one_more_answered Allowed t = omega arith
one_more_answered Denied t = omega arith
one_more_answered Undetermined t = omega arith
