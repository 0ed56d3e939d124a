use Rattle.rg_policy_sets.proofs.Shelving.{are_found, exactly_found}
use Rattle.rg_policy_sets.proofs.shelf.Shelf.candidates.Goals as goal

pub returns-clause-exact : goal.returns-clause-exact
returns-clause-exact g c =
    exactly_found g.H.Fileable.form_of c.self.inside.index c.self.inside.slots c.args.self.now c.self.view_is c.self.invariant.0 c.args.resource.now.elements.items c.candidates.result c.candidates.ensures.exact

pub returns-clause-found : goal.returns-clause-found
returns-clause-found g c =
    are_found g.H.Fileable.form_of c.self.inside.index c.self.inside.slots c.args.self.now c.self.view_is c.self.invariant.0 c.args.resource.now.elements.items c.candidates.result
    c.candidates_are_of_forms.ensures c.self.invariant.1 c.candidates.ensures.exact c.candidates.ensures.bounded c.candidates.ensures.all
