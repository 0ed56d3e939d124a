use Rattle.std.proofs.Common.{◌≡◌, take}
use Rattle.rg_policy_sets.specs.Kept.{slot_ids}
use Rattle.rg_policy_sets.specs.Plan.{said_of}
use Rattle.rg_policy_sets.proofs.plan.plan_of.Given as goal

-- what the edits before this one say
abbrev pub invariant-loop-edit : goal.invariant-loop-edit
invariant-loop-edit g l = l.plan ≡ said_of g.X.Identified.id_of (slot_ids g.H.Fileable.form_of l.slots) (take l.edit-index l.edits)
