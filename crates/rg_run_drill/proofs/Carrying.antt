-- From the parts of a drill to the whole.
use Rattle.std.proofs.Common.{◌≡◌, ◌∙◌, ℕ, ◌+◌, ◌-◌, ◌*◌, ◌<◌, ◌≤◌, ◌^◌, min, List, [], ◌∷◌, length, get_or, slice_get, Option, Some, ap, arith, sym, subst}
use Rattle.std.proofs.Math.Nat.{min-le_left}
use Rattle.std.proofs.lemmas.Option.{slice_get-get_or}
use Rattle.std.specs.List.{sum_by}
use Rattle.rg_base.specs.declared.steps.Counted.{Counted}
use Rattle.rg_policy.specs.declared.request.AccessRequest.{AccessRequest}
use Rattle.rg_publish.specs.Bounds.{bound_on}
use Rattle.rg_drill.specs.Workload.{policies_of, requests_of}
use Rattle.rg_publish.specs.declared.history.Publication.{Publication}
use Rattle.rg_run_replay.specs.Running.{Running, newest}
use Rattle.rg_run_drill.specs.declared.answers.Answers.{Answers}
use Rattle.rg_run_drill.specs.declared.totals.Totals.{Totals}
use Rattle.rg_run_drill.specs.Drill.{IsCarriedFrom, IsTotal, answers_to, drawn_requests, prepared}

there : {X : Type 0} (xs : List X) (i : ℕ) → i < length xs → (x : X) × (slice_get xs i ≡ Some x)
there [] i low = absurd (omega (arith, low))
there (x ∷ xs) i low = (get_or (x ∷ xs) i x, slice_get-get_or (x ∷ xs) i x low)

module _ (start : Option Running) (seed n m g0 g1 : ℕ) (r r' : Running) (from_seed : g0 ≡ seed) (prepares : prepared start n n g0 ≡ Some r) (drawn : g1 ≡ (policies_of n g0).next) (same : r' ≡ r)
    (answers : Answers) (told : (p : Publication) → newest r ≡ Some p → answers ≡ answers_to p.facts (requests_of n m g1).value)
    (before after : ℕ) (none : before ≡ 0) (tries : (p : Publication) → newest r ≡ Some p → after ≤ before + sum_by (bound_on p.facts) (requests_of n m g1).value)
    (work : Counted) (kept : work.tries ≡ min after (2 ^ 64 - 1)) (publications : ℕ) (number : publications ≡ length r'.published) where
  many : length r.published ≡ publications
  many = ap (λ (z : Running). length z.published) (sym same) ∙ sym number

  abbrev qs : List AccessRequest
  qs = drawn_requests seed n m

  qs_are : (requests_of n m g1).value ≡ qs
  qs_are = ap (λ g. (requests_of n m g).value) (drawn ∙ ap (λ s. (policies_of n s).next) from_seed)

  module _ (t : Totals) (total : IsTotal n m publications work answers t) where
    last : (p : Publication) × (newest r ≡ Some p)
    last = there r.published (length r.published - 1) (omega (arith, many, total.published))

    abbrev p : Publication
    p = last.0

    answered : answers ≡ answers_to p.facts qs
    answered = told p last.1 ∙ ap (answers_to p.facts) qs_are

    tried : t.tries ≤ sum_by (bound_on p.facts) qs
    tried =
        let within : after ≤ before + sum_by (bound_on p.facts) qs = subst (λ rs. after ≤ before + sum_by (bound_on p.facts) rs) qs_are (tries p last.1) in
        let is : t.tries ≡ min after (2 ^ 64 - 1) = ap (λ (z : Totals). z.tries) total.total ∙ kept in
        let low : min after (2 ^ 64 - 1) ≤ after = min-le_left after (2 ^ 64 - 1) in
        omega (arith, within, is, low, none)

    compiled : t.compiles ≤ n
    compiled = subst (λ k. k ≤ n) (sym (ap (λ (z : Totals). z.compiles) total.total)) total.compiled

    edited : t.edits ≤ 3 * n
    edited = subst (λ k. k ≤ 3 * n) (sym (ap (λ (z : Totals). z.edits) total.total)) total.edited

    pub carried : IsCarriedFrom start seed n m t
    carried = record {
      running = r;
      prepares = ap (prepared start n n) (sym from_seed) ∙ prepares;
      last = p;
      newest_is = last.1;
      policies_are = ap (λ (z : Totals). z.policies) total.total;
      requests_are = ap (λ (z : Totals). z.requests) total.total;
      publications_are = ap (λ (z : Totals). z.publications) total.total ∙ total.published;
      published = many ∙ sym (ap (λ (z : Totals). z.publications) total.total);
      allowed_are = ap (λ (z : Totals). z.allowed) total.total ∙ ap (λ (a : Answers). a.allowed) answered;
      denied_are = ap (λ (z : Totals). z.denied) total.total ∙ ap (λ (a : Answers). a.denied) answered;
      undetermined_are = ap (λ (z : Totals). z.undetermined) total.total ∙ ap (λ (a : Answers). a.undetermined) answered;
      compiles_within = compiled;
      edits_within = edited;
      tries_within = tried;
    }
