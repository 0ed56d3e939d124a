use Rattle.std.proofs.Common.{◌≡◌, ◌++◌, take}
use Rattle.std.specs.Prelude.{flat_map, string_bytes}
use Rattle.rg_check.specs.Causes.{besides}
use Rattle.rg_check.proofs.words.add_all_unsound.Given as goal

-- what is added so far
abbrev pub invariant-loop-unsound : goal.invariant-loop-unsound
invariant-loop-unsound l = string_bytes l.text ≡ string_bytes l.initial.text ++ flat_map besides (take l.unsound-index l.list)
