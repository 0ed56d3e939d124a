use Rattle.std.proofs.Common.{◌≡◌}
use Rattle.rg_base.specs.Listed.{listed}
use Rattle.rg_defs.specs.PathTests.{first_paths}
use Rattle.rg_defs.proofs.level_paths.paths.Given as goal

-- the paths to the leaves so far
abbrev pub invariant-loop-place : goal.invariant-loop-place
invariant-loop-place l = l.list ≡ listed (first_paths l.levels l.place)
