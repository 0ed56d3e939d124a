use Rattle.std.proofs.Common.{◌≡◌, fold, length}
use Rattle.rg_zones.specs.Matched.{is_matched}
use Rattle.rg_zones.specs.Places.{after_id, least_place}
use Rattle.rg_zones.proofs.map.least_place.Given as goal

-- the least so far, and the candidates to come
abbrev pub invariant-loop-id : goal.invariant-loop-id
invariant-loop-id l =
    let test = is_matched l.resource.elements.items in
    fold (after_id test l.zones) l.least l.candidates ≡ least_place test l.zones l.initial.candidates

abbrev pub decreases-loop-id : goal.decreases-loop-id
decreases-loop-id l = length l.candidates
