use Rattle.std.proofs.Common.{◌≡◌, ap, sym, ◌∙◌, position, w64}
use Rattle.std.proofs.lemmas.Int.{to_z-of_z}
use Rattle.std.proofs.lemmas.Result.{on_ok_weaker}
use Rattle.rg_base.specs.Listed.{listed}
use Rattle.rg_tags.specs.declared.row.TagRow.{TagRow}
use Rattle.rg_cmd.specs.Lookups.{has_row_id}
use Rattle.rg_admin_laws.specs.Changes.{stored_row}
use Rattle.rg_admin.specs.InPlace.{put_at}
use Rattle.rg_admin.proofs.Firsts.{put_by_id}
use Rattle.rg_admin.proofs.numbered.put_tags.Goals as goal

pub returns-clause-ok : goal.returns-clause-ok
returns-clause-ok c =
    let old = c.args.state.now.tag_rows.items in
    let new = stored_row c.args.id c.args.row in
    let own = to_z-of_z w64 c.args.id c.ranges.id in
    let place = c.place_of_row-place.ensures.first ∙ ap (λ id. position (has_row_id id) old) own in
    let form = c.stored.ensures ∙ ap (λ id. stored_row id c.args.row) own in
    let there = ap (λ o. put_at o new old) place ∙ sym (put_by_id (λ (row : TagRow). row.id) c.args.id new old c.requires.distinct) in
    on_ok_weaker c.put_at.result (λ (e : c.put_at.new.list ≡ listed (put_at c.place_of_row-place.result c.stored.result old)).
    let list = e ∙ ap (λ (row : TagRow). listed (put_at c.place_of_row-place.result row old)) form ∙ ap listed there in λ i. record c.args.state.now { tag_rows = list i }) c.put_at.ensures.ok
