-- The work that is counted for rows.
use Rattle.std.proofs.Common.{◌≡◌, ◌≤◌, ◌+◌, ◌*◌, ℕ, List, add-mul, ap, arith, one-mul, subst, zero-mul, ◌∙◌}
use Rattle.rg_base.specs.Counts.{Counts}
use Rattle.rg_engine.specs.Bounds.{TriesWithin, bound_on}
use Rattle.rg_facts.specs.declared.facts.Facts.{Facts}
use Rattle.rg_policy.specs.declared.request.AccessRequest.{AccessRequest}
use Rattle.rg_acl.specs.Rows.{request_of}
use Rattle.rg_acl.specs.Work.{IsTriedFor, NothingMade, bound_for}
use Rattle.rg_acl.specs.declared.ask.ReportAsk.{ReportAsk}
use Rattle.rg_acl.specs.declared.asker.Asker.{Asker}

pub nothing_yet : (a : Counts) → NothingMade a a
nothing_yet a = record { compiles = omega arith; edits = omega arith }

pub made_by_verdict : (each : ℕ) (a b c : Counts) → NothingMade a b → TriesWithin each b c → NothingMade a c
made_by_verdict each a b c before one = record { compiles = omega (arith, before.compiles, one.compiles); edits = omega (arith, before.edits, one.edits) }

pub made_more : (a b c : Counts) → NothingMade a b → NothingMade b c → NothingMade a c
made_more a b c before more = record { compiles = omega (arith, before.compiles, more.compiles); edits = omega (arith, before.edits, more.edits) }

-- a verdict takes as many tries whoever asks, and for whatever access
pub tried_for : (facts : Facts) (ask : ReportAsk) (asker : Asker) (access : List ℕ) (q : AccessRequest) (a b : Counts) → q ≡ request_of ask asker access
    → TriesWithin (bound_on facts q) a b → TriesWithin (bound_for facts ask) a b
tried_for facts ask asker access q a b is tried = subst (λ (r : AccessRequest). TriesWithin (bound_on facts r) a b) is tried

-- one more row
pub tried_once : (each before now : ℕ) (a b c : Counts) → IsTriedFor each before now a b → TriesWithin each b c → IsTriedFor each before (now + 1) a c
tried_once each before now a b c tried one =
    let sum : (now + 1) * each ≡ now * each + each = add-mul now 1 each ∙ ap (λ n. now * each + n) (one-mul each) in
    omega (arith, tried, one.tries, sum)

-- more rows
pub tried_more : (each x y z : ℕ) (a b c : Counts) → IsTriedFor each x y a b → IsTriedFor each y z b c → IsTriedFor each x z a c
tried_more each x y z a b c first later = omega (arith, first, later)

-- from the first row on
pub tried_all : (each now : ℕ) (a b : Counts) → IsTriedFor each 0 now a b → b.tries ≤ a.tries + now * each
tried_all each now a b tried = let none : 0 * each ≡ 0 = zero-mul each in omega (arith, tried, none)
