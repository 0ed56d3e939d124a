use Rattle.std.proofs.Common.{◌∷◌, [], ap, ◌∙◌}
use Rattle.std.proofs.lemmas.List.{map-append}
use Rattle.rg_policy_sets.specs.Kept.{Placed, are_rising, held_in}
use Rattle.rg_policy_sets.proofs.Counting.{no_work}
use Rattle.rg_policy_sets.proofs.Reshelved.{rises_more}
use Rattle.rg_policy_sets.proofs.moving.add_slot.Goals as goal

pub returns-in_err-ordinal-clause-steps : goal.returns-in_err-ordinal-clause-steps
returns-in_err-ordinal-clause-steps g c = no_work _ _ _

pub returns-clause-held : goal.returns-clause-held
returns-clause-held g c =
    ap held_in c.in_ok-add_at.ensures.slots
    ∙ map-append (λ (s : Placed g.row.H.Denot). s.held) c.args.moving.now.slots (record { ordinal = c.in_ok-ordinal.ordinal.0; held = g.C.Compile.hold c.args.compiler.now c.args.item.now } ∷ [])

pub returns-clause-rising : goal.returns-clause-rising
returns-clause-rising g c =
    ap are_rising c.in_ok-add_at.ensures.slots
    ∙ rises_more c.args.moving.now.slots (record { ordinal = c.in_ok-ordinal.ordinal.0; held = g.C.Compile.hold c.args.compiler.now c.args.item.now }) c.requires.rising c.in_ok-ordinal.ensures
