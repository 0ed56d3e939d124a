-- The zone in which a resource lies.
use Rattle.std.specs.Prelude.{ℕ, ◌&&◌, Bool, false, List, [], map, position, Option, Some, None, if◌then◌else◌}
use Rattle.std.specs.List.{flat_map, list_any}
use Rattle.std.specs.Str.{bytes_eq}
use Rattle.rg_base.specs.Listed.{Listed, listed}
use Rattle.rg_defs.specs.declared.service_def.Level.{Level}
use Rattle.rg_defs.specs.declared.service_def.ServiceDef.{ServiceDef}
use Rattle.rg_defs.specs.Paths.{level_of}
use Rattle.rg_policy.specs.declared.policy.PolicyResource.{PolicyResource}
use Rattle.rg_policy.specs.declared.policy.ResourceMap.{ResourceMap}
use Rattle.rg_policy.specs.declared.request.Element.{Element}
use Rattle.rg_resmatch.specs.declared.reach.Reach.TheVariants.{Down}
use Rattle.rg_resmatch.specs.Tests.{lies}
use Rattle.rg_zone_rules.specs.declared.row.ZoneLevel.{ZoneLevel}
use Rattle.rg_zone_rules.specs.declared.row.ZoneRow.{ZoneRow}
use Rattle.rg_zone_rules.specs.declared.row.ZoneService.{ZoneService}

-- whether the definition lets a level be recursive
abbrev pub is_recursive : Option Level → Bool
is_recursive None = false
is_recursive (Some l) = l.recursive

-- a level of a zone as one of a policy: never excluding, and recursive exactly where the definition supports it
abbrev pub zone_resource : ServiceDef → ZoneLevel → PolicyResource
zone_resource def l = record { level = l.level; values = l.values; excludes = false; recursive = is_recursive (level_of def l.level) }

-- a resource map of a zone as the resources of a policy
abbrev pub zone_resources : ServiceDef → List ZoneLevel → List PolicyResource
zone_resources def levels = map (zone_resource def) levels

-- the map reaches down to the resource, whoever asks
abbrev pub map_lies : ServiceDef → List Element → Listed ZoneLevel → Bool
map_lies def elements m = lies def (zone_resources def m.items) Down elements []

-- these are the maps for the service, and one of them reaches down to the resource
abbrev pub service_lies : List ℕ → ServiceDef → List Element → ZoneService → Bool
service_lies service def elements s = bytes_eq s.service service && list_any (map_lies def elements) s.resources.items

-- the resource lies in the zone: one of the zone's maps for the service reaches down to it
abbrev pub in_zone : List ℕ → ServiceDef → List Element → ZoneRow → Bool
in_zone service def elements zone = list_any (service_lies service def elements) zone.services.items

-- the least place of a zone in which the resource lies
abbrev pub zone_of : List ℕ → ServiceDef → List ZoneRow → List Element → Option ℕ
zone_of service def zones elements = position (in_zone service def elements) zones

-- the entry of the zone is for the service
abbrev pub is_for : List ℕ → ZoneService → Bool
is_for service s = bytes_eq s.service service

-- the maps of the entry where it is for the service
abbrev pub entry_maps : List ℕ → ZoneService → List (Listed ZoneLevel)
entry_maps service s = if is_for service s then s.resources.items else []

-- the maps of the zone for the service
abbrev pub maps_for : List ℕ → ZoneRow → List (Listed ZoneLevel)
maps_for service zone = flat_map (entry_maps service) zone.services.items

-- a resource map of a zone as one of a policy
abbrev pub resource_map : ServiceDef → Listed ZoneLevel → ResourceMap
resource_map def m = record { levels = listed (zone_resources def m.items) }

-- what is matched of the zone
abbrev pub zone_maps : List ℕ → ServiceDef → ZoneRow → List ResourceMap
zone_maps service def zone = map (resource_map def) (maps_for service zone)
