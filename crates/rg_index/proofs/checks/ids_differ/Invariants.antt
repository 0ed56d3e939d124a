use Rattle.std.proofs.Common.{◌≡◌, length}
use Rattle.rg_index.specs.Changes.{ids_differ}
use Rattle.rg_index.proofs.checks.ids_differ.Given as goal

abbrev pub invariant-loop-form : goal.invariant-loop-form
invariant-loop-form l = ids_differ l.rest ≡ ids_differ l.forms

abbrev pub decreases-loop-form : goal.decreases-loop-form
decreases-loop-form l = length l.rest
