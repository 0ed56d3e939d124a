use Rattle.std.proofs.Common.{Some, cond, ap, ◌∙◌}
use Rattle.std.specs.BTreeMap.{get_by_text}
use Rattle.std.specs.Str.{bytes_eq}
use Rattle.std.specs.String.{string_bytes}
use Rattle.std.proofs.lemmas.Map.Text.{btree_map_updates_text}
use Rattle.rg_base.proofs.Names.{index_add}
use Rattle.rg_admin.proofs.places.insert.Goals as goal

pub returns : goal.returns
returns c = λ names ix none at.
    index_add c.args.places.now c.insert.new.self c.args.name.now c.args.place c.utf8.name
    (λ cs. btree_map_updates_text (string_bytes c.in-Ok.key) c.args.places.now c.insert.new.self (Some c.args.place) c.in-Ok-insert.ensures.updates cs
    ∙ ap (λ bs. cond (bytes_eq bs cs) (Some c.args.place) (get_by_text c.args.places.now cs)) c.in-Ok.ensures.ok)
    names ix none at
