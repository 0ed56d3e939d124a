use Rattle.std.proofs.Common.{◌≡◌, flat_map, string_bytes}
use Rattle.rg_test_script.specs.Printing.{escaped_char}
use Rattle.rg_test_script.proofs.printing.escaped.Given as goal

abbrev pub invariant-loop-c : goal.invariant-loop-c
invariant-loop-c l = string_bytes l.out ≡ flat_map escaped_char l.yielded
