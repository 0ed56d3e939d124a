use Rattle.std.proofs.Common.{◌≡◌, ◌++◌, drop}
use Rattle.std.specs.Str.{chars}
use Rattle.rg_zones.specs.Candidates.{map_keys}
use Rattle.rg_zones.proofs.filing.with_map_keys.Given as goal

abbrev pub invariant-loop-level : goal.invariant-loop-level
invariant-loop-level l = l.keys.items ++ map_keys (chars l.name) (drop l.level-index l.levels) ≡ l.fn.keys.items ++ map_keys (chars l.name) l.levels
