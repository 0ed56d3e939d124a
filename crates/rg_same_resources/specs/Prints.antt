-- Numbers for what resource maps say and for what a policy is called, by which most that differ are told apart.
use Rattle.std.specs.Prelude.{ℕ, ◌+◌, ◌*◌, ◌/◌, ◌%◌, ◌^◌, List, [], ◌∷◌, get_or, max, replicate, slice_set}
use Rattle.rg_policy.specs.Maps.{maps_of}
use Rattle.rg_policy.specs.declared.policy.Policy.{Policy}
use Rattle.rg_policy.specs.declared.policy.PolicyResource.{PolicyResource}
use Rattle.rg_policy.specs.declared.policy.ResourceMap.{ResourceMap}
use Rattle.rg_same_resources.specs.declared.prints.Prints.{Prints}

-- ---- a text

-- the golden ratio, by which a product's high bits depend on all bits of the factor
abbrev pub spread : ℕ
spread = 0x9E3779B97F4A7C15

-- the hash of a text to which the character is added
abbrev pub mixed : ℕ → ℕ → ℕ
mixed hash c = ((hash + c) % 2 ^ 64 * spread) % 2 ^ 64

abbrev pub hash_from : ℕ → List ℕ → ℕ
hash_from hash [] = hash
hash_from hash (c ∷ text) = hash_from (mixed hash c) text

-- ---- marks: for each of 512 places the highest hash of those that fall there, whatever their order and repeats

unfoldable pub no_marks : List ℕ
no_marks = replicate 512 0

abbrev pub raised_mark : List ℕ → ℕ → ℕ → List ℕ
raised_mark marks place hash = slice_set marks place (max (get_or marks place 0) hash)

-- the place of a hash is its highest nine bits
unfoldable pub marked : List ℕ → ℕ → List ℕ
marked marks hash = raised_mark marks (hash / 2 ^ 55) hash

-- ---- maps: the marks of all their values, each under the name of its level

abbrev pub with_texts : ℕ → List ℕ → List (List ℕ) → List ℕ
with_texts seed marks [] = marks
with_texts seed marks (text ∷ texts) = with_texts seed (marked marks (hash_from seed text)) texts

abbrev pub with_levels : List ℕ → List PolicyResource → List ℕ
with_levels marks [] = marks
with_levels marks (r ∷ levels) = with_levels (with_texts (hash_from 1 r.level) marks r.values.items) levels

abbrev pub with_maps : List ℕ → List ResourceMap → List ℕ
with_maps marks [] = marks
with_maps marks (m ∷ maps) = with_maps (with_levels marks m.levels.items) maps

unfoldable pub print_of : List ResourceMap → ℕ
print_of maps = hash_from 1 (with_maps no_marks maps)

-- ---- names: of the service, of the zone in it, and of the policy there

-- the hash of a text to which a mark is added that is no character
abbrev pub ended : ℕ → ℕ
ended hash = mixed hash 0x110000

unfoldable pub name_print_of : Policy → ℕ
name_print_of p = hash_from (ended (hash_from (ended (hash_from 1 p.service)) p.zone)) p.name

-- ---- both

abbrev pub prints_of : Policy → Prints
prints_of p = record { maps = print_of (maps_of p); name = name_print_of p }
