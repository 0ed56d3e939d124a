-- Rows that are added one after the other.
use Rattle.std.proofs.Common.{◌≡◌, ◌<◌, ◌≤◌, ◌+◌, ◌*◌, ◌++◌, ℕ, List, [], ◌∷◌, append-nil, append_assoc, get_or, length, map, take, refl, sym, subst, ap, arith, ◌∙◌}
use Rattle.std.proofs.lemmas.Grind.{flat_map-append}
use Rattle.std.proofs.lemmas.List.{map-append}
use Rattle.rg_base.proofs.Lists.{take_next}
use Rattle.rg_base.specs.Counts.{Counts}
use Rattle.rg_engine.specs.Bounds.{bound_on}
use Rattle.rg_facts.specs.Flow.{eval}
use Rattle.rg_facts.specs.declared.facts.Facts.{Facts}
use Rattle.rg_policy.specs.declared.request.AccessRequest.{AccessRequest}
use Rattle.rg_roles.specs.declared.row.RoleRow.{RoleRow}
use Rattle.rg_acl.specs.Rows.{asked_for, named_askers, other_asker, report_rows, request_of, role_askers, row_of, rows_by, rows_for, rows_of}
use Rattle.rg_acl.specs.Strangers.{stranger, with_members}
use Rattle.rg_acl.specs.Work.{IsTriedFor, bound_for}
use Rattle.rg_acl.specs.declared.ask.ReportAsk.{ReportAsk}
use Rattle.rg_acl.specs.declared.asker.Asker.{Asker}
use Rattle.rg_acl.specs.declared.row.ReportRow.{ReportRow}
use Rattle.rg_acl.proofs.Agreeing.{map_agree}
use Rattle.rg_acl.proofs.Counting.{tried_all, tried_more}

-- ---- one more

module _ (facts : Facts) (ask : ReportAsk) (before : List ReportRow) where
  pub rows_next : (asker : Asker) (accesses : List (List ℕ)) (k : ℕ) (access : List ℕ) → k < length accesses → access ≡ get_or accesses k access
      → (before ++ rows_for facts ask (take k accesses) asker) ++ row_of facts ask asker access ∷ [] ≡ before ++ rows_for facts ask (take (k + 1) accesses) asker
  rows_next asker accesses k access there is =
      append_assoc before (rows_for facts ask (take k accesses) asker) (row_of facts ask asker access ∷ [])
      ∙ ap (λ rows. before ++ rows) (sym (ap (map (row_of facts ask asker)) (take_next k accesses access there is) ∙ map-append (row_of facts ask asker) (take k accesses) (access ∷ [])))

  pub askers_next : (accesses : List (List ℕ)) (askers : List Asker) (k : ℕ) (asker : Asker) → k < length askers → asker ≡ get_or askers k asker
      → (before ++ rows_of facts ask accesses (take k askers)) ++ rows_for facts ask accesses asker ≡ before ++ rows_of facts ask accesses (take (k + 1) askers)
  askers_next accesses askers k asker there is =
      append_assoc before (rows_of facts ask accesses (take k askers)) (rows_for facts ask accesses asker)
      ∙ ap (λ rows. before ++ rows) (sym (ap (rows_of facts ask accesses) (take_next k askers asker there is) ∙ flat_map-append (rows_for facts ask accesses) (take k askers) (asker ∷ [])
      ∙ ap (λ rows. rows_of facts ask accesses (take k askers) ++ rows) (append-nil (rows_for facts ask accesses asker))))

-- ---- other facts

-- facts that give the same verdicts give the same rows
module _ (e f : Facts) (same : (q : AccessRequest) → eval e q ≡ eval f q) (ask : ReportAsk) (accesses : List (List ℕ)) where
  row_agree : (asker : Asker) (access : List ℕ) → row_of e ask asker access ≡ row_of f ask asker access
  row_agree asker access = let verdict = same (request_of ask asker access) in λ i. record { kind = asker.kind; name = asker.name; access = access; verdict = verdict i }

  pub rows_agree : (askers : List Asker) → rows_of e ask accesses askers ≡ rows_of f ask accesses askers
  rows_agree [] = refl
  rows_agree (asker ∷ askers) =
      let own = map_agree (row_of e ask asker) (row_of f ask asker) accesses (row_agree asker) in
      let later = rows_agree askers in
      λ i. own i ++ later i

-- a verdict of facts that are asked within the same bounds
pub tried_alike : (e f : Facts) (ask : ReportAsk) → ((q : AccessRequest) → bound_on e q ≡ bound_on f q) → (before now : ℕ) (a b c : Counts) → b.tries ≡ a.tries
    → IsTriedFor (bound_for e ask) before now b c → IsTriedFor (bound_for f ask) before now a c
tried_alike e f ask same before now a b c tries tried =
    let bound : bound_for e ask ≡ bound_for f ask = same (request_of ask (other_asker []) []) in
    let these : c.tries + before * bound_for f ask ≤ b.tries + now * bound_for f ask = subst (λ n. c.tries + before * n ≤ b.tries + now * n) bound tried in
    omega (arith, these, tries)

-- ---- the parts of a report

-- the three parts, added to none
pub rows_joined : (facts : Facts) (ask : ReportAsk) (accesses : List (List ℕ)) (who : List ℕ) (askers : List Asker) (roles : List RoleRow) (none first second third : List ReportRow)
    → none ≡ [] → first ≡ none ++ rows_of facts ask accesses askers
    → second ≡ first ++ rows_of (with_members who facts) ask accesses (role_askers roles who)
    → third ≡ second ++ rows_of facts ask accesses (other_asker who ∷ []) → third ≡ rows_by facts ask accesses who askers roles
rows_joined facts ask accesses who askers roles none first second third is_none is_first is_second is_third =
    let own = rows_of facts ask accesses askers in
    let of_roles = rows_of (with_members who facts) ask accesses (role_askers roles who) in
    let of_others = rows_of facts ask accesses (other_asker who ∷ []) in
    is_third ∙ ap (λ rows. rows ++ of_others) (is_second ∙ ap (λ rows. rows ++ of_roles) (is_first ∙ ap (λ rows. rows ++ own) is_none))
    ∙ append_assoc own of_roles of_others

-- made of what the definition says
pub rows_made : (facts : Facts) (ask : ReportAsk) (accesses : List (List ℕ)) (who : List ℕ) (askers : List Asker) (roles : List RoleRow) → accesses ≡ asked_for facts ask
    → who ≡ stranger facts ask.resource.owner → askers ≡ named_askers facts who → roles ≡ facts.roles.items → rows_by facts ask accesses who askers roles ≡ report_rows facts ask
rows_made facts ask accesses who askers roles is_asked is_who are_askers are_roles =
    let named = are_askers ∙ ap (named_askers facts) is_who in
    λ i. rows_by facts ask (is_asked i) (is_who i) (named i) (are_roles i)

-- tries of the three
pub tried_thrice : (each n : ℕ) (first second third : ℕ) (a b c d : Counts) → n ≡ 0 → IsTriedFor each n first a b → IsTriedFor each first second b c → IsTriedFor each second third c d
    → d.tries ≤ a.tries + third * each
tried_thrice each n first second third a b c d none one two three =
    tried_all each third a d (subst (λ m. IsTriedFor each m third a d) none (tried_more each n second third a c d (tried_more each n first second a b c one two) three))
