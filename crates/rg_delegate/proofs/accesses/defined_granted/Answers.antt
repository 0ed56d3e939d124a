use Rattle.std.proofs.Common.{◌∙◌, sym, ap}
use Rattle.std.specs.List.{list_any}
use Rattle.rg_base.proofs.Lists.{list_any-map}
use Rattle.rg_defs.specs.declared.service_def.AccessType.{AccessType}
use Rattle.rg_items.specs.Accesses.{any_grants}
use Rattle.rg_delegate.proofs.accesses.defined_granted.Goals as goal

pub returns : goal.returns
returns c =
    let def = c.args.def.now in
    let given = c.args.given.now in
    c.type_granted.ensures
    ∙ ap (list_any (λ (t : AccessType). any_grants def t.name given)) c.as_slice.ensures
    ∙ sym (list_any-map (λ access. any_grants def access given) (λ (t : AccessType). t.name) def.access_types.items)
