use Rattle.std.proofs.Common.{◌<◌, ◌∙◌, arith, length, sym}
use Rattle.rg_base.specs.Listed.{added}
use Rattle.rg_acl.proofs.Membership.{members_next}
use Rattle.rg_acl.proofs.members.members_of.Goals as goal

pub loop-place-preserved : goal.loop-place-preserved
loop-place-preserved c =
    let within : c.loop-place.place < length c.args.rows.now = omega arith in
    c.in_ok-add.ensures.ok ∙ (λ i. added (c.loop-place.invariant i) (c.in_ok-row.ensures i))
    ∙ sym (members_next c.args.stranger.now c.args.rows.now c.loop-place.place c.index-rows-place.result within c.index-rows-place.is)
