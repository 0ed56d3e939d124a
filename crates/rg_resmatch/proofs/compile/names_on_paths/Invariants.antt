use Rattle.std.proofs.Common.{◌≡◌, ◌++◌, drop}
use Rattle.rg_resmatch.specs.Compiled.{named_paths}
use Rattle.rg_resmatch.proofs.compile.names_on_paths.Given as goal

abbrev pub invariant-loop-path : goal.invariant-loop-path
invariant-loop-path l = l.named.items ++ named_paths l.paths l.resources (drop l.path-index l.all) ≡ named_paths l.paths l.resources l.all
