use Rattle.std.proofs.Common.{◌≡◌, take}
use Rattle.rg_policy_sets.specs.Kept.{slot_forms}
use Rattle.rg_policy_sets.proofs.slots.forms_of.Given as goal

-- the forms so far
abbrev pub invariant-loop-slot : goal.invariant-loop-slot
invariant-loop-slot g l = l.forms.items ≡ slot_forms g.H.Fileable.form_of (take l.slot-index l.slots)
