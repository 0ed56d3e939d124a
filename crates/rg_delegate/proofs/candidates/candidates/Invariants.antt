use Rattle.std.proofs.Common.{◌≡◌, map, take}
use Rattle.std.specs.Str.{chars}
use Rattle.rg_delegate.specs.Compiled.{under}
use Rattle.rg_delegate.specs.Found.{candidates}
use Rattle.rg_delegate.proofs.candidates.candidates.Given as goal

abbrev pub invariant-loop-policy : goal.invariant-loop-policy
invariant-loop-policy l = record {
  same : l.actor ≡ l.initial.actor;
  so_far : l.found.items ≡ map (under l.def) (candidates (chars l.service) l.initial.actor (take l.policy-index l.policies));
}
