use Rattle.std.proofs.Common.{ap, sym, ◌∙◌, position, w64}
use Rattle.std.proofs.lemmas.Int.{to_z-of_z}
use Rattle.rg_base.specs.Listed.{listed}
use Rattle.rg_tags.specs.declared.row.TagRow.{TagRow}
use Rattle.rg_cmd.specs.Lookups.{has_row_id}
use Rattle.rg_admin.specs.InPlace.{without_at}
use Rattle.rg_admin.proofs.Firsts.{without_by_id}
use Rattle.rg_admin.proofs.numbered.delete_tags.Goals as goal

pub returns : goal.returns
returns c =
    let old = c.args.state.now.tag_rows.items in
    let place = c.place_of_row-place.ensures.first ∙ ap (λ id. position (has_row_id id) old) (to_z-of_z w64 c.args.id c.ranges.id) in
    let list = c.take_away.ensures ∙ ap listed (ap (λ o. without_at o old) place ∙ sym (without_by_id (λ (row : TagRow). row.id) c.args.id old c.requires.distinct)) in
    λ i. record c.args.state.now { tag_rows = list i }
