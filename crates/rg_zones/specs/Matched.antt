-- For proofs alone: zones with the matchers of their maps.
use Rattle.std.specs.Prelude.{◌≡◌, ℕ, Bool, List, [], map}
use Rattle.rg_defs.specs.declared.service_def.ServiceDef.{ServiceDef}
use Rattle.rg_policy.specs.declared.request.Element.{Element}
use Rattle.rg_resmatch.specs.Matching.{Matching}
use Rattle.rg_resmatch.specs.Tests.{some_lies}
use Rattle.rg_zone_rules.specs.declared.row.ZoneRow.{ZoneRow}
use Rattle.rg_zone_rules.specs.Zones.{in_zone}

pub record RowMatching : Type 0 where
  pub matching : Matching
  pub row : ZoneRow

abbrev pub rows_of : List RowMatching → List ZoneRow
rows_of zones = map (λ (z : RowMatching). z.row) zones

-- one of the maps lies on the resource, whoever asks
abbrev pub is_matched : List Element → RowMatching → Bool
is_matched elements z = some_lies z.matching.def z.matching.maps z.matching.reach elements []

-- the matchers are those of the zones for the service
abbrev pub AreMatched : List ℕ → ServiceDef → List RowMatching → Type 0
AreMatched service def zones = (elements : List Element) → map (is_matched elements) zones ≡ map (in_zone service def elements) (rows_of zones)
