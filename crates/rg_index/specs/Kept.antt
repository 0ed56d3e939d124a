-- For proofs alone: what the tries of an index hold.
use Rattle.std.specs.Prelude.{◌≡◌, ℕ, ℤ, Bool, true, nat_lt, List, [], ◌∷◌, ◌++◌, fold, map, Option, Some, None, if◌then◌else◌}
use Rattle.std.specs.List.{flat_map, list_all}
use Rattle.std.specs.Str.{bytes_eq}
use Rattle.rg_defs.specs.declared.service_def.Level.{Level}
use Rattle.rg_defs.specs.declared.service_def.ServiceDef.{ServiceDef}
use Rattle.rg_defs.specs.Rules.{def_fault}
use Rattle.rg_policy.specs.declared.policy.PolicyResource.{PolicyResource}
use Rattle.rg_policy.specs.declared.policy.ResourceMap.{ResourceMap}
use Rattle.rg_resmatch.specs.declared.reach.Reach.{Reach}
use Rattle.rg_resmatch.specs.declared.reach.Reach.TheVariants.{Exact, Down}
use Rattle.rg_resmatch.specs.Rules.{are_written}
use Rattle.rg_resmatch.specs.Tests.{names_level}
use Rattle.rg_trie.specs.declared.pair.Filed.{Filed}
use Rattle.rg_trie.specs.declared.pair.Pair.{Pair}
use Rattle.rg_trie.specs.Edited.{with_pair, without_pair}
use Rattle.rg_index.specs.declared.form.Form.{Form}
use Rattle.rg_index.specs.Candidates.{in_order}
use Rattle.rg_index.specs.Changes.{forms_fit, ids_differ}
use Rattle.rg_index.specs.Filing.{all_pairs, keys_of, numbered}

-- the keys of a resource at this level
abbrev pub named_keys : Level → PolicyResource → List (List ℕ)
named_keys l r = if bytes_eq r.level l.name then keys_of (Some l) r else []

-- the key of the level where the map lacks it
abbrev pub lacked_keys : Reach → Level → List PolicyResource → List (List ℕ)
lacked_keys Exact l resources = []
lacked_keys Down l resources = if names_level resources l.name then [] else [] ∷ []

abbrev pub map_keys : Level → Reach → ResourceMap → List (List ℕ)
map_keys l reach m = flat_map (named_keys l) m.levels.items ++ lacked_keys reach l m.levels.items

-- the keys of a form at this level
abbrev pub level_keys : Level → Form → List (List ℕ)
level_keys l form = flat_map (map_keys l form.reach) form.maps.items

abbrev pub level_pairs : Level → Form → List Pair
level_pairs l form = numbered form.id 0 (level_keys l form)

abbrev pub given_level_pairs : Level → Option Form → List Pair
given_level_pairs l None = []
given_level_pairs l (Some form) = level_pairs l form

abbrev pub given_keys : Level → Option Form → List (List ℕ)
given_keys l None = []
given_keys l (Some form) = level_keys l form

-- the values of each of its maps are patterns
abbrev pub is_written : Form → Bool
is_written form = list_all (λ (m : ResourceMap). are_written m.levels.items) form.maps.items

abbrev pub is_given_written : Option Form → Bool
is_given_written None = true
is_given_written (Some form) = is_written form

-- the list with all of these, and without all of these
abbrev pub with_all : List Pair → List Pair → List Pair
with_all held all = fold (λ held p. with_pair p held) held all

abbrev pub without_all : List Pair → List Pair → List Pair
without_all held all = fold (λ held p. without_pair p held) held all

-- a level with what its trie holds
pub record LevelPairs : Type 0 where
  pub level : Level
  pub held : List Pair

-- a level with all these forms
abbrev pub built : List Form → Level → LevelPairs
built forms l = record { level = l; held = in_order (flat_map (level_pairs l) forms) }

-- the level without the old form and with the new one
abbrev pub edited : Option Form → Option Form → LevelPairs → LevelPairs
edited old new t = record { level = t.level; held = with_all (without_all t.held (given_level_pairs t.level old)) (given_level_pairs t.level new) }

-- a level as the index has to hold it
abbrev pub indexed : ServiceDef → List Form → Level → LevelPairs
indexed def forms l = record { level = l; held = in_order (all_pairs def l.name forms) }

-- the levels are those of the definition, each with what is filed there
pub record IsIndexed (def : ServiceDef) (forms : List Form) (levels : List LevelPairs) : Type 0 where
  pub lawful : def_fault def ≡ None
  pub apart : ids_differ forms ≡ true
  pub fit : forms_fit def forms ≡ true
  pub levels_hold : levels ≡ map (indexed def forms) def.levels.items

abbrev pub entries_of : List Pair → List Filed
entries_of all = map (λ (p : Pair). p.entry) all

abbrev pub entry_ids : List Filed → List ℤ
entry_ids entries = map (λ (e : Filed). e.id) entries

-- the element with its number, where that is less than that of the best so far
abbrev pub lesser : {X : Type 0} → Option (X × ℕ) → X → ℕ → Option (X × ℕ)
lesser None x n = Some (x, n)
lesser (Some best) x n = if nat_lt n best.1 then Some (x, n) else Some best
