use Rattle.std.proofs.Common.{rules, ◌≡◌, true, Some, length, refl, slice_get, sym}
use Rattle.std.specs.Str.{bytes_eq}
use Rattle.std.proofs.lemmas.Option.{slice_get_read}
use Rattle.rg_cmd.specs.declared.state.ServiceRow.{ServiceRow}
use Rattle.rg_admin.proofs.Firsts.{found_by_name}
use Rattle.rg_admin.proofs.lookups.service_near.Goals as goal

pub returns-then-same_text : goal.returns-then-same_text
returns-then-same_text c =
    let services = c.args.state.now.services.items in
    let rows = c.as_slice.result.now in
    let row = c.in-Some.row.now in
    let at : slice_get rows c.args.place ≡ Some row = slice_get_read rows (length rows) c.args.place row refl c.in-Some.ensures.lookup.3.0 c.in-Some.ensures.lookup.1 in
    let there : slice_get services c.args.place ≡ Some row = search (rules, at) in
    let named : bytes_eq row.name c.args.name.now ≡ true = search rules in
    sym (found_by_name (λ (r : ServiceRow). r.name) c.args.name.now services c.args.place row c.requires.service_names there named)
