use Rattle.std.proofs.Common.{◌≡◌, ap, sym, ◌∙◌, slice_get}
use Rattle.std.specs.Option.{option_and_then}
use Rattle.std.proofs.lemmas.Result.{on_ok_weaker}
use Rattle.rg_base.specs.Listed.{listed}
use Rattle.rg_base.specs.declared.numbers.Version.{Version}
use Rattle.rg_policy.specs.declared.policy.Policy.{Policy}
use Rattle.rg_cmd.specs.Lookups.{has_id}
use Rattle.rg_admin_laws.specs.Changes.{updated_form, version_after}
use Rattle.rg_admin.specs.InPlace.{put_at}
use Rattle.rg_validate.proofs.Places.{found_at}
use Rattle.rg_admin.proofs.Firsts.{put_by_id}
use Rattle.rg_admin.proofs.numbered.update_policy.Goals as goal

pub returns-clause-ok : goal.returns-clause-ok
returns-clause-ok c =
    let old = c.args.state.now.policies.items in
    let policy = c.args.policy in
    let new = updated_form c.args.state.now policy in
    let place = c.place_of-place.ensures.first in
    let version = c.version_after-version.ensures ∙ ap (λ o. version_after (option_and_then (slice_get old) o)) place ∙ ap version_after (sym (found_at (has_id policy.id.0) old)) in
    let form = c.in_ok-stored.ensures ∙ c.updated.ensures ∙ ap (λ (v : Version). record policy { version = v }) version in
    let there = ap (λ o. put_at o new old) place ∙ sym (put_by_id (λ (p : Policy). p.id.0) policy.id.0 new old c.requires.distinct) in
    on_ok_weaker c.put_at.result (λ (e : c.put_at.new.list ≡ listed (put_at c.place_of-place.result c.in_ok-stored.stored old)).
    let list = e ∙ ap (λ (p : Policy). listed (put_at c.place_of-place.result p old)) form ∙ ap listed there in λ i. record c.args.state.now { policies = list i }) c.put_at.ensures.ok
