use Rattle.std.proofs.Common.{◌∙◌, ap, subst}
use Rattle.rg_delegate.specs.Compiled.{DefinedPolicy, IsRead, form_maps_cover}
use Rattle.rg_delegate.proofs.Forms.{read_agree}
use Rattle.rg_delegate.proofs.delegation.ReadPolicy.covers.Goals as goal

pub returns : goal.returns
returns c =
    let maps = c.self.inside.maps.items in
    let others = c.other.inside.maps.items in
    c.in_ok-covered.ensures
    ∙ ap (λ maps. form_maps_cover maps c.deref-2.result.now) c.deref.ensures.value
    ∙ ap (form_maps_cover maps) c.deref-2.ensures.value
    ∙ read_agree c.args.self.now c.args.other.now maps others c.requires
    (subst (λ (p : DefinedPolicy). IsRead p.def p.policy maps) c.self.view_is c.self.invariant)
    (subst (λ (p : DefinedPolicy). IsRead p.def p.policy others) c.other.view_is c.other.invariant)
