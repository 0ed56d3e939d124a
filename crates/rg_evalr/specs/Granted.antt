-- For proofs: what an item's access entries grant, written out.
use Rattle.std.specs.Prelude.{ℕ, ◌==◌, List, [], ◌∷◌, Option, Some, None, flat_map, option_to_list, if◌then◌else◌}
use Rattle.rg_policy.specs.declared.policy.AccessEntry.{AccessEntry}
use Rattle.rg_defs.specs.declared.service_def.ServiceDef.{ServiceDef}
use Rattle.rg_defs.specs.Grants.{expand}
use Rattle.rg_evalr.specs.declared.frame.Frame.{Frame}
use Rattle.rg_evalr.specs.declared.frame.Side.{Side}
use Rattle.rg_evalr.specs.declared.frame.Side.TheVariants.{Resource, Tag}
use Rattle.rg_evalr.specs.Frames.{def_of}

-- what an entry grants: nothing where it isn't allowed
abbrev pub granted_by : ServiceDef → AccessEntry → List (List ℕ)
granted_by def entry = if entry.allowed then expand def entry.access else []

abbrev pub all_granted : ServiceDef → List AccessEntry → List (List ℕ)
all_granted def entries = flat_map (granted_by def) entries

-- what follows the component and the mark `:` in a text that begins with them
abbrev pub past_component : List ℕ → List ℕ → Option (List ℕ)
past_component [] component = None
past_component (c ∷ t) [] = if c == 58 then Some t else None
past_component (c ∷ t) (a ∷ component) = if c == a then past_component t component else None

-- the accesses of a component
abbrev pub of_component : List ℕ → List (List ℕ) → List (List ℕ)
of_component component texts = flat_map (λ t. option_to_list (past_component t component)) texts

-- the accesses for which a policy of the side may be asked and that the entries grant
abbrev pub granted : Frame → Side → List AccessEntry → List (List ℕ)
granted frame Resource entries = all_granted (def_of frame Resource) entries
granted frame Tag entries = of_component frame.def.name (all_granted (def_of frame Tag) entries)
