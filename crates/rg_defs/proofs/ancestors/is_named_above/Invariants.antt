use Rattle.std.proofs.Common.{◌≡◌, length}
use Rattle.std.specs.List.{list_any}
use Rattle.std.specs.Str.{chars}
use Rattle.rg_defs.specs.PathTests.{climb, has_name}
use Rattle.rg_defs.proofs.ancestors.is_named_above.Given as goal

-- the answer rests on the levels that are left
abbrev pub invariant-climb : goal.invariant-climb
invariant-climb l = list_any (has_name l.levels (chars l.name)) (climb l.levels l.counter l.at) ≡ list_any (has_name l.levels (chars l.name)) (climb l.levels (length l.levels) l.fn.place)
