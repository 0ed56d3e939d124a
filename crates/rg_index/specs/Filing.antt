-- Where forms are filed: at the levels of a definition, under texts with which the values begin that a form stands for.
use Rattle.std.specs.Prelude.{◌≡◌, ℕ, ◌+◌, ◌≤◌, ℤ, not, List, [], ◌∷◌, ◌++◌, filter, length, map, Option, Some, None, if◌then◌else◌}
use Rattle.std.specs.List.{flat_map}
use Rattle.std.specs.Str.{bytes_eq}
use Rattle.rg_base.specs.Counts.{Counts}
use Rattle.rg_base.specs.Folding.{folded}
use Rattle.rg_defs.specs.declared.service_def.Level.{Level}
use Rattle.rg_defs.specs.declared.service_def.ServiceDef.{ServiceDef}
use Rattle.rg_defs.specs.Paths.{level_of}
use Rattle.rg_pattern.specs.Atoms.{literal_prefix}
use Rattle.rg_pattern.specs.Reading.{atoms_of}
use Rattle.rg_policy.specs.declared.policy.PolicyResource.{PolicyResource}
use Rattle.rg_policy.specs.declared.policy.ResourceMap.{ResourceMap}
use Rattle.rg_resmatch.specs.declared.reach.Reach.{Reach}
use Rattle.rg_resmatch.specs.declared.reach.Reach.TheVariants.{Exact, Down}
use Rattle.rg_resmatch.specs.Tests.{names_level}
use Rattle.rg_trie.specs.declared.pair.Pair.{Pair}
use Rattle.rg_trie.specs.Walked.{is_under}
use Rattle.rg_index.specs.declared.form.Form.{Form}

-- at the level of this name, under this key
pub record Filing : Type 0 where
  pub level : List ℕ
  pub key : List ℕ

-- the literal prefix of a written value, folded where the level folds
abbrev pub value_key : Level → List ℕ → List ℕ
value_key l t = literal_prefix l.fold (atoms_of l.wild t)

-- once for each value under its literal prefix, or once under the empty text where the level is excluding; an unknown level has no keys
abbrev pub keys_of : Option Level → PolicyResource → List (List ℕ)
keys_of None r = []
keys_of (Some l) r = if r.excludes then [] ∷ [] else map (value_key l) r.values.items

abbrev pub resource_filings : ServiceDef → PolicyResource → List Filing
resource_filings def r = map (λ key. record { level = r.level; key = key }) (keys_of (level_of def r.level) r)

-- with reach Down, once under the empty text for each level of the definition that the map lacks
abbrev pub lacked_filings : Reach → ServiceDef → List PolicyResource → List Filing
lacked_filings Exact def resources = []
lacked_filings Down def resources =
    map (λ (l : Level). record { level = l.name; key = [] }) (filter (λ (l : Level). not (names_level resources l.name)) def.levels.items)

abbrev pub map_filings : ServiceDef → Reach → ResourceMap → List Filing
map_filings def reach m = flat_map (resource_filings def) m.levels.items ++ lacked_filings reach def m.levels.items

-- the filings of a form, map by map
abbrev pub filings : ServiceDef → Form → List Filing
filings def form = flat_map (map_filings def form.reach) form.maps.items

-- how often a form is filed
abbrev pub pairs : ServiceDef → Form → ℕ
pairs def form = length (filings def form)

-- the keys of a form at the level of this name
abbrev pub keys_at : ServiceDef → Form → List ℕ → List (List ℕ)
keys_at def form name = map (λ (f : Filing). f.key) (filter (λ (f : Filing). bytes_eq f.level name) (filings def form))

-- the keys as a trie holds them, with places that count on from this one
abbrev pub numbered : ℤ → ℕ → List (List ℕ) → List Pair
numbered id place [] = []
numbered id place (key ∷ keys) = record { key = key; entry = record { id = id; place = place } } ∷ numbered id (place + 1) keys

-- what a form has at the level: the place counts its values there through the maps in order
abbrev pub form_pairs : ServiceDef → List ℕ → Form → List Pair
form_pairs def name form = numbered form.id 0 (keys_at def form name)

-- what all forms have there
abbrev pub all_pairs : ServiceDef → List ℕ → List Form → List Pair
all_pairs def name forms = flat_map (form_pairs def name) forms

-- those with whose key the value begins, which is folded where the level folds; there are none at an unknown level
abbrev pub filed_under : Option Level → List ℕ → List Pair → List Pair
filed_under None value all = []
filed_under (Some l) value all = filter (is_under (folded l.fold value)) all

-- what is filed at the level of this name for the value
abbrev pub filed : ServiceDef → List Form → List ℕ → List ℕ → List Pair
filed def forms name value = filed_under (level_of def name) value (all_pairs def name forms)

-- so many edits are counted at most, and nothing else
pub record EditsWithin (most : ℕ) (old new : Counts) : Type 0 where
  pub edits : new.edits ≤ old.edits + most
  pub compiles : new.compiles ≡ old.compiles
  pub tries : new.tries ≡ old.tries
