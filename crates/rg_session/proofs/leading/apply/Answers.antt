use Rattle.rg_session.proofs.Deltas.{ends_soundly, goes_forward}
use Rattle.rg_session.proofs.leading.apply.Goals as goal

pub apply-applied-requires-clause-sound : goal.apply-applied-requires-clause-sound
apply-applied-requires-clause-sound g c =
    ends_soundly c.args.engine.now c.args.document _ _ _ c.policy_delta-policies.ensures c.tag_delta-tags.ensures c.role_delta-roles.ensures c.requires.partial c.requires.fit

pub apply-applied-requires-clause-forward : goal.apply-applied-requires-clause-forward
apply-applied-requires-clause-forward g c =
    goes_forward c.args.engine.now c.args.document _ _ _ c.policy_delta-policies.ensures c.tag_delta-tags.ensures c.role_delta-roles.ensures c.requires.fit
