use Rattle.std.proofs.Common.{◌∙◌, ap}
use Rattle.rg_base.specs.Listed.{listed}
use Rattle.rg_acl.specs.Strangers.{members_from}
use Rattle.rg_acl.proofs.Membership.{answers_so, applied_sound, bound_so, goes_forward, nothing_made}
use Rattle.rg_acl.proofs.members.with_members.Goals as goal

pub apply-applied-requires-clause-sound : goal.apply-applied-requires-clause-sound
apply-applied-requires-clause-sound g c =
    applied_sound c.args.stranger.now c.args.engine.now _ _ _ _ c.no_policies-policies.ensures c.no_tags-tags.ensures
    (c.in_ok-members.ensures ∙ ap (λ rows. listed (members_from c.args.stranger.now 0 rows)) c.requires.rows) c.these_roles-roles.ensures c.requires.sound

pub apply-applied-requires-clause-forward : goal.apply-applied-requires-clause-forward
apply-applied-requires-clause-forward g c =
    goes_forward c.args.stranger.now c.args.engine.now _ _ _ _ c.no_policies-policies.ensures c.no_tags-tags.ensures
    (c.in_ok-members.ensures ∙ ap (λ rows. listed (members_from c.args.stranger.now 0 rows)) c.requires.rows) c.these_roles-roles.ensures

pub returns-in-Ok-clause-answers : goal.returns-in-Ok-clause-answers
returns-in-Ok-clause-answers g c =
    answers_so c.args.stranger.now c.args.engine.now _ _ _ _ c.no_policies-policies.ensures c.no_tags-tags.ensures
    (c.in_ok-members.ensures ∙ ap (λ rows. listed (members_from c.args.stranger.now 0 rows)) c.requires.rows) c.these_roles-roles.ensures _ c.in-Ok.ensures.facts

pub returns-in-Ok-clause-bound : goal.returns-in-Ok-clause-bound
returns-in-Ok-clause-bound g c =
    bound_so c.args.stranger.now c.args.engine.now _ _ _ _ c.no_policies-policies.ensures c.no_tags-tags.ensures
    (c.in_ok-members.ensures ∙ ap (λ rows. listed (members_from c.args.stranger.now 0 rows)) c.requires.rows) c.these_roles-roles.ensures _ c.in-Ok.ensures.facts

pub returns-in-Ok-clause-made : goal.returns-in-Ok-clause-made
returns-in-Ok-clause-made g c =
    (nothing_made c.args.stranger.now c.args.engine.now _ _ _ _ c.no_policies-policies.ensures c.no_tags-tags.ensures
    (c.in_ok-members.ensures ∙ ap (λ rows. listed (members_from c.args.stranger.now 0 rows)) c.requires.rows) c.these_roles-roles.ensures _ _ c.apply-applied.ensures.steps).0

pub returns-in-Err-clause-made : goal.returns-in-Err-clause-made
returns-in-Err-clause-made g c =
    (nothing_made c.args.stranger.now c.args.engine.now _ _ _ _ c.no_policies-policies.ensures c.no_tags-tags.ensures
    (c.in_ok-members.ensures ∙ ap (λ rows. listed (members_from c.args.stranger.now 0 rows)) c.requires.rows) c.these_roles-roles.ensures _ _ c.apply-applied.ensures.steps).0
