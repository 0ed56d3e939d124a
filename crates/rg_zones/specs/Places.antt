-- For proofs alone: zones as forms of an index, with their places as ids, and the least place that passes a test among ids.
use Rattle.std.specs.Prelude.{◌≡◌, ℕ, ◌+◌, ◌&&◌, ℤ, pos, nat_lt, Bool, true, false, List, [], ◌∷◌, Option, Some, None, fold, slice_get, if◌then◌else◌}
use Rattle.std.specs.List.{Contains}
use Rattle.rg_base.specs.Listed.{listed}
use Rattle.rg_defs.specs.declared.service_def.ServiceDef.{ServiceDef}
use Rattle.rg_index.specs.declared.form.Form.{Form}
use Rattle.rg_resmatch.specs.declared.reach.Reach.TheVariants.{Down}
use Rattle.rg_zone_rules.specs.declared.row.ZoneRow.{ZoneRow}
use Rattle.rg_zone_rules.specs.Zones.{zone_maps}

-- what is filed of the zone at this place
abbrev pub zone_form : List ℕ → ServiceDef → ℕ → ZoneRow → Form
zone_form service def place zone = record { id = pos place; maps = listed (zone_maps service def zone); reach = Down }

-- what is filed of zones at places that count on from this one
abbrev pub zone_forms : List ℕ → ServiceDef → ℕ → List ZoneRow → List Form
zone_forms service def place [] = []
zone_forms service def place (zone ∷ zones) = zone_form service def place zone ∷ zone_forms service def (place + 1) zones

abbrev pub passes : {X : Type 0} → (X → Bool) → Option X → Bool
passes test None = false
passes test (Some x) = test x

-- there is something at the place, and it passes
abbrev pub passes_at : {X : Type 0} → (X → Bool) → List X → ℕ → Bool
passes_at test xs place = passes test (slice_get xs place)

-- the place that is meant by an id
abbrev pub place_of : ℤ → Option ℕ
place_of (pos place) = Some place
place_of id = None

abbrev pub is_below : ℕ → Option ℕ → Bool
is_below place None = true
is_below place (Some best) = nat_lt place best

-- this place, where it is below the best so far and passes
abbrev pub lesser_place : {X : Type 0} → (X → Bool) → List X → Option ℕ → Option ℕ → Option ℕ
lesser_place test xs best None = best
lesser_place test xs best (Some place) = if is_below place best && passes_at test xs place then Some place else best

abbrev pub after_id : {X : Type 0} → (X → Bool) → List X → Option ℕ → ℤ → Option ℕ
after_id test xs best id = lesser_place test xs best (place_of id)

-- the least place that passes, of those that are meant by these ids
abbrev pub least_place : {X : Type 0} → (X → Bool) → List X → List ℤ → Option ℕ
least_place test xs ids = fold (after_id test xs) None ids

-- each place that passes is meant by one of these
abbrev pub AreNamed : {X : Type 0} → (X → Bool) → List X → List ℤ → Type 0
AreNamed test xs ids = (place : ℕ) → passes_at test xs place ≡ true → Contains ids (pos place)
