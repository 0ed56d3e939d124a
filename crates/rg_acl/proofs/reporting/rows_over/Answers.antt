use Rattle.std.proofs.Common.{◌∙◌, ◌∷◌, ap}
use Rattle.std.proofs.lemmas.Result.{IfOk-weaker}
use Rattle.rg_facts.specs.declared.facts.Facts.{Facts}
use Rattle.rg_acl.specs.Named.{named}
use Rattle.rg_acl.specs.Rows.{accesses_of, named_askers}
use Rattle.rg_acl.specs.Strangers.{stranger_to}
use Rattle.rg_acl.specs.declared.named.Listing.TheVariants.{Users}
use Rattle.rg_acl.proofs.Joined.{rows_made}
use Rattle.rg_acl.proofs.reporting.rows_over.Goals as goal

pub returns-clause-rows : goal.returns-clause-rows
returns-clause-rows g c =
    let types = c.as_slice-types.ensures ∙ ap (λ (f : Facts). f.def.access_types.items) c.requires.same in
    let accesses = c.as_slice-accesses.ensures.value ∙ c.in_ok-accesses.ensures ∙ (λ i. accesses_of (c.as_slice.ensures i) (types i)) in
    let users = c.as_slice-2.ensures.value ∙ c.in_ok-users.ensures ∙ ap (named Users) c.requires.same in
    let who = c.in_ok-stranger.ensures ∙ ap (λ names. stranger_to (c.args.ask.now.resource.owner ∷ names)) users in
    let askers = c.as_slice-askers.ensures.value ∙ c.in_ok-askers.ensures ∙ ap (λ (f : Facts). named_askers f c.in_ok-stranger.stranger) c.requires.same in
    let roles = c.as_slice-roles.ensures ∙ ap (λ (f : Facts). f.roles.items) c.requires.same in
    let made = rows_made c.args.engine.now c.args.ask.now c.as_slice-accesses.result.now c.in_ok-stranger.stranger c.as_slice-askers.result.now c.as_slice-roles.result.now accesses who askers roles in
    IfOk-weaker c.rows_of.result _ _ (λ rows is. is ∙ made) c.rows_of.ensures.rows
