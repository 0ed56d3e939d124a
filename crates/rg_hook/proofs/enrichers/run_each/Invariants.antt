use Rattle.std.proofs.Common.{length}
use Rattle.rg_hook.specs.Enriching.{state_by}
use Rattle.rg_hook.proofs.Runs.{OneMore}
use Rattle.rg_hook.proofs.enrichers.run_each.Given as goal

-- the enrichers before this one have run, and the others are as they were
abbrev pub invariant-loop-enricher : goal.invariant-loop-enricher
invariant-loop-enricher g l =
    OneMore (state_by (λ e. (goal.Enricher-dyn g (e.vtable, e.value)).meaning e.value) (λ e. (goal.Enricher-dyn g (e.vtable, e.value)).remembered e.value))
    l.fn.list l.list l.fn.request l.request l.enricher-index (length l.fn.request.context.items)
