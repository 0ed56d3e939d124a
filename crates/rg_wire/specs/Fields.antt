-- The fields of a JSON map, by their keys.
use Rattle.std.specs.Prelude.{ℕ, ℤ, Bool, List, Option}
use Rattle.serde_json.specs.Data.{Data}
use Rattle.rg_base.specs.Listed.{Listed}
use Rattle.rg_json.specs.Fields as named
use Rattle.rg_wire.specs.declared.key.Key.{Key}
use Rattle.rg_wire.specs.declared.key.Key.TheVariants as key
use Rattle.rg_wire.specs.Names.{name_of}

abbrev pub within : Key → Data → Data
within key d = named.within (name_of key) d

abbrev pub text_at : Key → Data → List ℕ
text_at key d = named.text_at (name_of key) d

abbrev pub bool_at : Bool → Key → Data → Bool
bool_at usual key d = named.bool_at usual (name_of key) d

abbrev pub truth_word_at : Bool → Key → Data → Bool
truth_word_at usual key d = named.truth_word_at usual (name_of key) d

abbrev pub i64_at : ℤ → Key → Data → ℤ
i64_at usual key d = named.i64_at usual (name_of key) d

abbrev pub u64_at : ℕ → Key → Data → ℕ
u64_at usual key d = named.u64_at usual (name_of key) d

abbrev pub list_at : {X : Type 0} → (Data → X) → Key → Data → Listed X
list_at read key d = named.list_at read (name_of key) d

abbrev pub map_at : {X : Type 0} → (List ℕ × Data → X) → Key → Data → Listed X
map_at read key d = named.map_at read (name_of key) d

abbrev pub optional_at : {X : Type 0} → (Data → X) → Key → Data → Option X
optional_at read key d = named.optional_at read (name_of key) d

abbrev pub is_filled : Key → Data → Bool
is_filled key d = named.is_filled (name_of key) d

-- a text, or the `name` of a map
abbrev pub member_name : Data → List ℕ
member_name d = named.text_or_at (name_of key.Name) d

abbrev pub names_at : Key → Data → Listed (List ℕ)
names_at key d = list_at member_name key d
