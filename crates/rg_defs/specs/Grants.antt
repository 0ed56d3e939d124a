-- What an access type grants.
use Rattle.std.specs.Prelude.{ℕ, ◌||◌, Bool, List, ◌∷◌, [], Option, option_map, unwrap_or}
use Rattle.std.specs.List.{find}
use Rattle.std.specs.Str.{bytes_eq}
use Rattle.rg_base.specs.Texts.{is_among}
use Rattle.rg_defs.specs.declared.service_def.AccessType.{AccessType}
use Rattle.rg_defs.specs.declared.service_def.ServiceDef.{ServiceDef}

-- the definition's access type of this name
abbrev pub access_type_of : ServiceDef → List ℕ → Option AccessType
access_type_of def name = find (λ (t : AccessType). bytes_eq t.name name) def.access_types.items

-- what the access type of this name lists as implied, nothing for an unknown one
abbrev pub implied_by : ServiceDef → List ℕ → List (List ℕ)
implied_by def name = unwrap_or (option_map (λ (t : AccessType). t.implied.items) (access_type_of def name)) []

-- the access, then its implied grants as they are listed
abbrev pub expand : ServiceDef → List ℕ → List (List ℕ)
expand def access = access ∷ implied_by def access

-- the given access is the asked one, or lists it among its implied grants: one step is followed, and no further
abbrev pub grants : ServiceDef → List ℕ → List ℕ → Bool
grants def given asked = bytes_eq given asked || is_among asked (implied_by def given)
