use Rattle.std.proofs.Common.{◌≡◌, drop}
use Rattle.std.specs.List.{list_all}
use Rattle.rg_delegate.specs.Compiled.{form_covered}
use Rattle.rg_delegate.proofs.covering.all_covered.Given as goal

-- the rest decides
abbrev pub invariant-loop-level : goal.invariant-loop-level
invariant-loop-level l = list_all (form_covered l.m) (drop l.level-index l.n) ≡ list_all (form_covered l.m) l.n
