use Rattle.std.proofs.Common.{◌≡◌, ◌++◌, drop, map}
use Rattle.rg_pattern.specs.Atoms.{literal_prefix}
use Rattle.rg_zones.proofs.filing.with_keys.Given as goal

abbrev pub invariant-loop-pattern : goal.invariant-loop-pattern
invariant-loop-pattern l = l.keys.items ++ map (literal_prefix l.fold) (drop l.pattern-index l.patterns) ≡ l.fn.keys.items ++ map (literal_prefix l.fold) l.patterns
