use Rattle.std.proofs.Common.{◌≡◌, take}
use Rattle.rg_policy_sets.specs.Kept.{all_in, rows_in}
use Rattle.rg_policy_sets.proofs.rows.rows_of.Given as goal

-- those in the pages before this one
abbrev pub invariant-loop-page : goal.invariant-loop-page
invariant-loop-page l = l.list.items ≡ rows_in (all_in (take l.page-index l.pages))
