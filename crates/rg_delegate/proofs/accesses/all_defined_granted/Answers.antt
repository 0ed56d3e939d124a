use Rattle.std.proofs.Common.{◌∙◌, sym, ap}
use Rattle.std.proofs.lemmas.List.Folds.{list_all-map}
use Rattle.std.specs.List.{list_all, list_any}
use Rattle.rg_defs.specs.declared.service_def.AccessType.{AccessType}
use Rattle.rg_items.specs.Accesses.{any_grants}
use Rattle.rg_delegate.proofs.accesses.all_defined_granted.Goals as goal

pub returns : goal.returns
returns c =
    let def = c.args.def.now in
    let by = c.args.by.now in
    c.types_granted.ensures
    ∙ ap (list_all (λ (t : AccessType). list_any (λ item. any_grants def t.name item.now.accesses.items) by)) c.as_slice.ensures
    ∙ sym (list_all-map (λ access. list_any (λ item. any_grants def access item.now.accesses.items) by) (λ (t : AccessType). t.name) def.access_types.items)
