use Rattle.std.proofs.Common.{◌≡◌, drop}
use Rattle.std.specs.List.{list_all}
use Rattle.rg_validate.specs.Valid.{definition_valid}
use Rattle.rg_validate.proofs.valid.definitions_valid.Given as goal

-- the rest decides
abbrev pub invariant-loop-def : goal.invariant-loop-def
invariant-loop-def l = list_all definition_valid (drop l.def-index l.defs) ≡ list_all definition_valid l.defs
