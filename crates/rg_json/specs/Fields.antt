-- The fields of a JSON map, by their names. Where a field is missing or of another kind it has its usual value.
use Rattle.std.specs.Prelude.{ℕ, ℤ, Bool, true, false, List, [], ◌∷◌, map, length, nat_lt, Option, Some, None, is_some, option_map, option_and_then, unwrap_or, codes, if◌then◌else◌}
use Rattle.std.specs.Str.{bytes_eq, chars}
use Rattle.serde_json.specs.Data.{Data, null, boolean, number, string, array, object, Items, no_items, item, Members, no_members, member}
use Rattle.serde_json.specs.Find.{get, as_bool, as_str, as_array, as_object, as_number, as_i64, as_u64}
use Rattle.rg_base.specs.Listed.{Listed, listed}

-- null counts as missing
abbrev pub unless_null : Data → Option Data
unless_null null = None
unless_null (boolean b) = Some (boolean b)
unless_null (number n) = Some (number n)
unless_null (string s) = Some (string s)
unless_null (array ds) = Some (array ds)
unless_null (object ms) = Some (object ms)

unfoldable pub field : List ℕ → Data → Option Data
field key d = option_and_then unless_null (get key d)

-- what a field has, or null
unfoldable pub within : List ℕ → Data → Data
within key d = unwrap_or (field key d) null

-- ---- texts, truth values, numbers

unfoldable pub text_of : Data → List ℕ
text_of d = chars (unwrap_or (as_str d) [])

unfoldable pub text_at : List ℕ → Data → List ℕ
text_at key d = chars (unwrap_or (option_and_then as_str (field key d)) [])

unfoldable pub bool_at : Bool → List ℕ → Data → Bool
bool_at usual key d = unwrap_or (option_and_then as_bool (field key d)) usual

-- one of the texts `true` and `false`
unfoldable pub word_truth : List ℕ → Option Bool
word_truth word = if bytes_eq word (codes "true") then Some true else (if bytes_eq word (codes "false") then Some false else None)

-- true or false, be it as a text
abbrev pub truth_or_word : Option Bool → Option (List ℕ) → Option Bool
truth_or_word (Some b) word = Some b
truth_or_word None None = None
truth_or_word None (Some word) = word_truth word

unfoldable pub truth_word_of : Data → Option Bool
truth_word_of d = truth_or_word (as_bool d) (as_str d)

unfoldable pub truth_word_at : Bool → List ℕ → Data → Bool
truth_word_at usual key d = unwrap_or (option_and_then truth_word_of (field key d)) usual

unfoldable pub i64_at : ℤ → List ℕ → Data → ℤ
i64_at usual key d = unwrap_or (option_and_then (λ v. option_and_then as_i64 (as_number v)) (field key d)) usual

unfoldable pub u64_at : ℕ → List ℕ → Data → ℕ
u64_at usual key d = unwrap_or (option_and_then (λ v. option_and_then as_u64 (as_number v)) (field key d)) usual

-- ---- lists and maps

-- the items of an array
abbrev pub data_list : Items → List Data
data_list no_items = []
data_list (item d ds) = d ∷ data_list ds

-- the members of a map, in byte order of their keys
abbrev pub pairs_list : Members → List (List ℕ × Data)
pairs_list no_members = []
pairs_list (member k d ms) = (k, d) ∷ pairs_list ms

unfoldable pub items_in : Data → List Data
items_in d = unwrap_or (option_map data_list (as_array d)) []

unfoldable pub members_in : Data → List (List ℕ × Data)
members_in d = unwrap_or (option_map pairs_list (as_object d)) []

-- each item, read
unfoldable pub list_of : {X : Type 0} → (Data → X) → Data → Listed X
list_of read d = listed (map read (items_in d))

unfoldable pub list_at : {X : Type 0} → (Data → X) → List ℕ → Data → Listed X
list_at read key d = list_of read (within key d)

-- each member, read
unfoldable pub map_of : {X : Type 0} → (List ℕ × Data → X) → Data → Listed X
map_of read d = listed (map read (members_in d))

unfoldable pub map_at : {X : Type 0} → (List ℕ × Data → X) → List ℕ → Data → Listed X
map_at read key d = map_of read (within key d)

-- whether a list has items
unfoldable pub is_filled : List ℕ → Data → Bool
is_filled key d = nat_lt 0 (length (items_in (within key d)))

-- ---- what may be missing, and what a map names

unfoldable pub optional_at : {X : Type 0} → (Data → X) → List ℕ → Data → Option X
optional_at read key d = option_map read (field key d)

-- a text, or the text of this field where it is a map
unfoldable pub text_or_at : List ℕ → Data → List ℕ
text_or_at key d = if is_some (as_object d) then text_at key d else text_of d
