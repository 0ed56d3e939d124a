use Rattle.std.proofs.Common.{◌<◌, ◌∙◌, IfSome, length, subst, sym}
use Rattle.rg_zones.specs.Matched.{is_matched}
use Rattle.rg_zones.proofs.Places.{least_is_first, least_within}
use Rattle.rg_zones.proofs.map.first_place.Goals as goal

pub returns-clause-first : goal.returns-clause-first
returns-clause-first c = c.least_place.ensures ∙ least_is_first (is_matched c.args.resource.now.elements.items) c.args.zones.now c.args.candidates c.requires

pub returns-clause-within : goal.returns-clause-within
returns-clause-within c =
    subst (λ o. IfSome o (λ place. place < length c.args.zones.now)) (sym c.least_place.ensures) (least_within (is_matched c.args.resource.now.elements.items) c.args.zones.now c.args.candidates)
