use Rattle.std.specs.Str.{chars}
use Rattle.rg_resmatch.specs.Tests.{tag_elements}
use Rattle.rg_policy_sets.proofs.Shelving.{are_found}
use Rattle.rg_policy_sets.proofs.shelf.Shelf.candidates_tag.Goals as goal

pub returns : goal.returns
returns g c =
    are_found g.H.Fileable.form_of c.self.inside.index c.self.inside.slots c.args.self.now c.self.view_is c.self.invariant.0 (tag_elements (chars c.args.tag.now)) c.candidates_tag.result
    c.candidates_are_of_forms.ensures c.self.invariant.1 c.candidates_tag.ensures.exact c.candidates_tag.ensures.bounded c.candidates_tag.ensures.all
