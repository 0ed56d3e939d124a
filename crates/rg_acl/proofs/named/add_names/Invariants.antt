use Rattle.std.proofs.Common.{◌≡◌, ◌++◌, take}
use Rattle.rg_acl.specs.Named.{names_in}
use Rattle.rg_acl.proofs.named.add_names.Given as goal

abbrev pub invariant-loop-text : goal.invariant-loop-text
invariant-loop-text l = l.found.items ≡ l.initial.found.items ++ names_in (take l.text-index l.texts)
