-- The paths, computed.
use Rattle.std.specs.Prelude.{ℕ, zero, suc, Bool, false, not, ◌||◌, nat_eq, List, [], ◌∷◌, length, map, Option, Some, None, option_and_then, option_map, reverse, unwrap_or}
use Rattle.std.specs.List.{filter, find, list_all, list_any, range_with_len, slice_get}
use Rattle.std.specs.Str.{bytes_eq}
use Rattle.rg_base.specs.Listed.{Listed, listed}
use Rattle.rg_base.specs.Texts.{is_among}
use Rattle.rg_defs.specs.declared.service_def.Level.{Level}
use Rattle.rg_defs.specs.Paths.{parent_of, place_of}

-- the place, if there is one, and those above it, at most so many
abbrev pub climb : List Level → ℕ → Option ℕ → List ℕ
climb levels zero at = []
climb levels (suc n) None = []
climb levels (suc n) (Some place) = place ∷ climb levels n (parent_of levels place)

-- from the root down to this place
abbrev pub path_to : List Level → ℕ → List ℕ
path_to levels place = reverse (climb levels (length levels) (Some place))

abbrev pub is_some_place : ℕ → Option ℕ → Bool
is_some_place place None = false
is_some_place place (Some other) = nat_eq other place

-- no level has this one as its parent
abbrev pub is_leaf : List Level → ℕ → Bool
is_leaf levels place = not (list_any (λ (l : Level). is_some_place place (place_of levels l.parent)) levels)

-- the paths, in order of the place of their leaf
abbrev pub paths_of : List Level → List (List ℕ)
paths_of levels = map (path_to levels) (filter (is_leaf levels) (range_with_len 0 (length levels)))

-- those to leaves at the first n places, as they are kept
abbrev pub first_paths : List Level → ℕ → List (Listed ℕ)
first_paths levels n = map (λ leaf. listed (path_to levels leaf)) (filter (is_leaf levels) (range_with_len 0 n))

-- the level at this place has this name
abbrev pub has_name : List Level → List ℕ → ℕ → Bool
has_name levels name place = unwrap_or (option_map (λ (l : Level). bytes_eq l.name name) (slice_get levels place)) false

-- a level of this name lies on the path
abbrev pub lies_on : List Level → List ℕ → List ℕ → Bool
lies_on levels path name = list_any (has_name levels name) path

-- levels of all these names lie on one path
abbrev pub on_one_path : List Level → List (List ℕ) → Bool
on_one_path levels names = list_any (λ path. list_all (lies_on levels path) names) (paths_of levels)

-- the first path on which levels of all these names lie
abbrev pub path_for : List Level → List (List ℕ) → Option (List ℕ)
path_for levels names = find (λ path. list_all (lies_on levels path) names) (paths_of levels)

-- the levels above that of this name, the nearest first
abbrev pub ancestors : List Level → List ℕ → List ℕ
ancestors levels name = climb levels (length levels) (option_and_then (parent_of levels) (place_of levels name))

-- the level of the one name stands above that of the other
abbrev pub is_above : List Level → List ℕ → List ℕ → Bool
is_above levels upper lower = list_any (has_name levels upper) (ancestors levels lower)

-- the level of this name is named, or stands above none that is named
abbrev pub is_settled : List Level → List (List ℕ) → List ℕ → Bool
is_settled levels names name = is_among name names || not (list_any (is_above levels name) names)

-- the level may be left out, or is settled
abbrev pub is_spared : List Level → List (List ℕ) → Level → Bool
is_spared levels names l = not l.mandatory || is_settled levels names l.name

-- every mandatory level above a named one is named
abbrev pub mandatory_named : List Level → List (List ℕ) → Bool
mandatory_named levels names = list_all (is_spared levels names) levels
