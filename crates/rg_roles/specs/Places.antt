-- For proofs alone: rows by their places, and sets of places.
use Rattle.std.specs.Prelude.{ℕ, zero, suc, ◌≡◌, ◌<◌, ◌≤◌, ◌+◌, ◌*◌, ◌/◌, ◌%◌, ◌^◌, ◌&&◌, ◌||◌, nat_eq, nat_le, nat_lt, Bool, true, false, List, [], ◌++◌, length, take, map, Contains, Option, Some, None, IfSome, position, slice_index_or, unwrap_or}
use Rattle.std.specs.Bool.{Decides}
use Rattle.std.specs.Int.{bit_at}
use Rattle.std.specs.List.{All, count_by, list_all}
use Rattle.std.specs.Str.{bytes_eq}
use Rattle.rg_roles.specs.declared.row.RoleRow.{RoleRow}
use Rattle.rg_roles.specs.Chains.{leads}
use Rattle.rg_roles.specs.Members.{name_at, names_of, passes_at}

-- the first place of the name
abbrev pub place_in : List (List ℕ) → List ℕ → Option ℕ
place_in names name = position (λ n. bytes_eq n name) names

-- the chart has, for each row, the places of the roles that it names
abbrev pub IsChart : List RoleRow → List (List ℕ) → Type 0
IsChart rows chart = map (λ (row : RoleRow). map (place_in (names_of rows)) row.roles.items) rows ≡ map (map Some) chart

-- one or more steps of the chart lead from the first place to the other
pub data Reaches (chart : List (List ℕ)) (from : ℕ) : ℕ → Type 0 where
  by_step : (k : ℕ) → Contains (slice_index_or chart from []) k → Reaches chart from k
  by_steps : (p k : ℕ) → Reaches chart from p → Contains (slice_index_or chart p []) k → Reaches chart from k

-- the found places are those that steps lead to
pub record AreReached (chart : List (List ℕ)) (from : ℕ) (found : List ℕ) : Type 0 where
  pub sound : All (Reaches chart from) found
  pub first : All (Contains found) (slice_index_or chart from [])
  pub closed : All (λ p. All (Contains found) (slice_index_or chart p [])) found

-- every step leads to a place of the chart
abbrev pub AreBounded : List (List ℕ) → Type 0
AreBounded chart = All (All (λ k. k < length chart)) chart

-- every step from the place leads to a lower rank
abbrev pub falls : List (List ℕ) → List ℕ → ℕ → Bool
falls chart ranks place = list_all (λ k. nat_lt (slice_index_or ranks k 0) (slice_index_or ranks place 0)) (slice_index_or chart place [])

-- no step from the place leads to a higher rank
abbrev pub stays : List (List ℕ) → List ℕ → ℕ → Bool
stays chart ranks place = list_all (λ k. nat_le (slice_index_or ranks k 0) (slice_index_or ranks place 0)) (slice_index_or chart place [])

-- no step leads to a higher rank
abbrev pub NeverRises : List (List ℕ) → List ℕ → Type 0
NeverRises chart ranks = (place : ℕ) → place < length chart → stays chart ranks place ≡ true

-- the first place from which steps lead back to it
pub record IsFirstOnCycle (chart : List (List ℕ)) (place : ℕ) : Type 0 where
  pub within : place < length chart
  pub back : Reaches chart place place
  pub first : (k : ℕ) → k < place → ¬ (Reaches chart k k)

-- the places that were found are within the chart, and just these are marked
pub record IsMarked (found : List ℕ) (seen : List Bool) : Type 0 where
  pub marks : All (λ k. slice_index_or seen k false ≡ true) found
  pub listed : (k : ℕ) → slice_index_or seen k false ≡ true → Contains found k
  pub counted : length found ≡ count_by (λ b. b) seen

-- what was found stays, more of these places follow, and then all of them are found
pub record IsGrown (places old new : List ℕ) : Type 0 where
  pub more : (more : List ℕ) × (new ≡ old ++ more) × All (Contains places) more
  pub all : All (Contains new) places

-- a walk that has looked at the first places that were found, and added what they lead to
pub record IsWalked (chart : List (List ℕ)) (from looked : ℕ) (found : List ℕ) (seen : List Bool) : Type 0 where
  pub within : looked ≤ length found
  pub wide : length seen ≡ length chart
  pub marked : IsMarked found seen
  pub sound : All (Reaches chart from) found
  pub first : All (Contains found) (slice_index_or chart from [])
  pub closed : All (λ p. All (Contains found) (slice_index_or chart p [])) (take looked found)

-- the set, which is a list of words of 64 bits, has the place
abbrev pub has : List ℕ → ℕ → Bool
has words k = nat_eq (bit_at (slice_index_or words (k / 64) 0) (k % 64)) 1

-- a number below n passes
unfoldable pub any_below : (ℕ → Bool) → ℕ → Bool
any_below test zero = false
any_below test (suc n) = any_below test n || test n

-- the set has just what steps lead to from the place
pub record IsKnown (chart : List (List ℕ)) (place : ℕ) (words : List ℕ) : Type 0 where
  pub within : length words ≤ length chart / 64 + 1
  pub exact : (k : ℕ) → Decides (has words k) (Reaches chart place k)

-- what is known is right
abbrev pub AreKnown : List (List ℕ) → List (Option (List ℕ)) → Type 0
AreKnown chart reach = (place : ℕ) → IfSome (slice_index_or reach place None) (IsKnown chart place)

-- the set of the place; empty where it isn't known
abbrev pub words_at : List (Option (List ℕ)) → ℕ → List ℕ
words_at reach place = unwrap_or (slice_index_or reach place None) []

-- all is known
abbrev pub IsAllKnown : List (List ℕ) → List (Option (List ℕ)) → Type 0
IsAllKnown chart reach = (place : ℕ) → place < length chart → IsKnown chart place (words_at reach place)

-- the row at each place and those in its set are those that chains lead to from its role
abbrev pub IsExpanded : List RoleRow → List (Option (List ℕ)) → Type 0
IsExpanded rows reach = (place : ℕ) → place < length rows → (length (words_at reach place) < 2 ^ 32) × ((test : RoleRow → Bool) →
    (passes_at test rows place || any_below (λ k. has (words_at reach place) k && passes_at test rows k) (64 * length (words_at reach place))) ≡ leads rows test (name_at rows place))
