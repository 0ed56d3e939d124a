use Rattle.std.proofs.Common.{◌≡◌, ◌++◌, Some, length}
use Rattle.rg_defs.specs.PathTests.{climb}
use Rattle.rg_defs.proofs.level_paths.path_to.Given as goal

-- the places so far, and those that are left
abbrev pub invariant-climb : goal.invariant-climb
invariant-climb l = l.upwards.items ++ climb l.levels l.counter l.at ≡ climb l.levels (length l.levels) (Some l.place)
