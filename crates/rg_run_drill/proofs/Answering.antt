-- What one more answer adds.
use Rattle.std.proofs.Common.{◌≡◌, ◌∙◌, ℕ, ◌+◌, ◌≤◌, List, [], ◌∷◌, Some, ap, arith, sym, subst}
use Rattle.std.proofs.Math.Numerals.{suc-eq-add-one}
use Rattle.std.specs.List.{sum_by}
use Rattle.std.proofs.lemmas.List.Sums.{sum_by-append, sum_by-cons}
use Rattle.std.proofs.lemmas.Option.{same_Some}
use Rattle.rg_policy.specs.declared.request.AccessRequest.{AccessRequest}
use Rattle.rg_facts.specs.Flow.{eval}
use Rattle.rg_facts.specs.declared.decision.Access.{Access}
use Rattle.rg_publish.specs.Bounds.{bound_on}
use Rattle.rg_drill.specs.Workload.{request_of, requests_of}
use Rattle.rg_publish.specs.Passes.{Ends}
use Rattle.rg_publish.specs.declared.history.Publication.{Publication}
use Rattle.rg_run_replay.specs.Running.{Running, newest}
use Rattle.rg_run_drill.specs.declared.answers.Answers.{Answers}
use Rattle.rg_run_drill.specs.Drill.{answers_to, with_answer}
use Rattle.rg_run_drill.proofs.Counting.{one_more_answer}

module _ (policies k x g : ℕ) (r start : Running) (same : r ≡ start) (drawn : g ≡ (requests_of policies k x).next) (p : Publication) (last : newest start ≡ Some p) where
  abbrev qs : List AccessRequest
  qs = (requests_of policies k x).value

  abbrev q : AccessRequest
  q = (request_of policies (requests_of policies k x).next).value

  -- what holds of the last publication, and of the request that is drawn, holds of these
  told : (P : Publication → AccessRequest → Type 0) → Ends r.published (λ z. P z (request_of policies g).value) → P p q
  told P ends =
      let now : P p (request_of policies g).value = subst (λ z. P z (request_of policies g).value) (same_Some ends.0 p (sym ends.1 ∙ ap newest same ∙ last)) ends.2 in
      subst (λ n. P p (request_of policies n).value) drawn now

  pub answers_more : (access : Access) (old new : Answers) → Ends r.published (λ z. access ≡ (eval z.facts (request_of policies g).value).access)
      → old ≡ answers_to p.facts qs → new ≡ with_answer access old → new ≡ answers_to p.facts (requests_of policies (k + 1) x).value
  answers_more access old new ends so_far is =
      is ∙ ap (with_answer access) so_far ∙ sym (one_more_answer p.facts qs q access (sym (told (λ z r. access ≡ (eval z.facts r).access) ends)))
      ∙ ap (λ n. answers_to p.facts (requests_of policies n x).value) (suc-eq-add-one k)

  pub tries_more : (before old new : ℕ) → Ends r.published (λ z. new ≤ old + bound_on z.facts (request_of policies g).value) → old ≤ before + sum_by (bound_on p.facts) qs
      → new ≤ before + sum_by (bound_on p.facts) (requests_of policies (k + 1) x).value
  tries_more before old new ends so_far =
      let one : new ≤ old + bound_on p.facts q = told (λ z r. new ≤ old + bound_on z.facts r) ends in
      let all = sum_by-append (bound_on p.facts) qs (q ∷ []) in
      let alone = sum_by-cons (bound_on p.facts) q [] in
      subst (λ n. new ≤ before + sum_by (bound_on p.facts) (requests_of policies n x).value) (suc-eq-add-one k) (omega (arith, one, all, alone, so_far))

-- the number behind one more request
pub requests_go_on : (policies k x : ℕ) → (request_of policies (requests_of policies k x).next).next ≡ (requests_of policies (k + 1) x).next
requests_go_on policies k x = ap (λ n. (requests_of policies n x).next) (suc-eq-add-one k)
