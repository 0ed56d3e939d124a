use Rattle.std.proofs.Common.{◌≡◌, take}
use Rattle.rg_base.specs.Listed.{listed}
use Rattle.rg_resmatch.specs.Compiled.{path_names}
use Rattle.rg_resmatch.proofs.compile.path_names.Given as goal

abbrev pub invariant-loop-place : goal.invariant-loop-place
invariant-loop-place l = l.names ≡ listed (path_names l.levels (take l.place-index l.path))
