use Rattle.std.proofs.Common.{◌≡◌, take}
use Rattle.rg_delta.specs.Sides.{edits_with}
use Rattle.rg_delta.proofs.sides.policy_edits.Given as goal

-- the edits of the changes before this one
abbrev pub invariant-loop-change : goal.invariant-loop-change
invariant-loop-change l = l.edits.items ≡ edits_with l.tag (take l.change-index l.changes)
