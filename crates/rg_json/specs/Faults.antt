-- The first fault of a value, by its shape.
use Rattle.std.specs.Prelude.{ℕ, ◌+◌, Bool, true, nat_le, List, [], ◌∷◌, ◌++◌, length, Option, Some, None, is_some, if◌then◌else◌, decimal}
use Rattle.std.specs.Str.{chars}
use Rattle.serde_json.specs.Data.{Num, Data, Items, Members}
use Rattle.serde_json.specs.Find.{is_float, as_bool, as_str, as_array, as_object, as_number, as_i64, as_u64}
use Rattle.rg_base.specs.Texts.{is_name}
use Rattle.rg_json.specs.declared.fault.Fault.{Fault}
use Rattle.rg_json.specs.declared.fault.WireKind.{WireKind}
use Rattle.rg_json.specs.declared.fault.WireKind.TheVariants.{Mistyped, Missing, Range}
use Rattle.rg_json.specs.declared.shape.Keys.{Keys}
use Rattle.rg_json.specs.declared.shape.Keys.TheVariants.{Any, Names}
use Rattle.rg_json.specs.declared.shape.Need.{Need}
use Rattle.rg_json.specs.declared.shape.Need.TheVariants.{Must, May}
use Rattle.rg_json.specs.Fields.{field as found, data_list, pairs_list, truth_word_of}
use Rattle.rg_json.specs.Shape.{Shape, text, name, value, truth, truth_word, integer, count, anything, text_or, list_of, map_of, record_of, Fields, no_fields, field}

-- a fault of the value itself
abbrev pub here : WireKind → Option Fault
here k = Some (record { path = []; kind = k })

-- what is wrong with a part is wrong with the whole, at `/` and the part's name before its path
abbrev pub below : List ℕ → Option Fault → Option Fault
below part None = None
below part (Some f) = Some (record { path = 47 ∷ (part ++ f.path); kind = f.kind })

-- the first of two
abbrev pub before : Option Fault → Option Fault → Option Fault
before None next = next
before (Some f) next = Some f

-- ---- values without parts

abbrev pub unless : Bool → Option Fault
unless b = if b then None else here Mistyped

-- a text that has to pass
abbrev pub passing_fault : (List ℕ → Bool) → Option (List ℕ) → Option Fault
passing_fault passes None = here Mistyped
passing_fault passes (Some bytes) = if passes (chars bytes) then None else here Range

-- at most 4,096 characters
abbrev pub is_value : List ℕ → Bool
is_value t = nat_le (length t) 4096

unfoldable pub name_fault : Data → Option Fault
name_fault d = passing_fault is_name (as_str d)

unfoldable pub value_fault : Data → Option Fault
value_fault d = passing_fault is_value (as_str d)

-- a number that is held as an integer of 64 bits has to fit
abbrev pub number_fault : {X : Type 0} → (Num → Option X) → Option Num → Option Fault
number_fault fits None = here Mistyped
number_fault fits (Some n) = if is_float n then here Mistyped else (if is_some (fits n) then None else here Range)

unfoldable pub integer_fault : Data → Option Fault
integer_fault d = number_fault as_i64 (as_number d)

unfoldable pub count_fault : Data → Option Fault
count_fault d = number_fault as_u64 (as_number d)

-- ---- lists, maps and records

-- the items in order, each below its place counted from 0
abbrev pub items_fault : (Data → Option Fault) → ℕ → List Data → Option Fault
items_fault f n [] = None
items_fault f n (d ∷ ds) = before (below (chars (decimal n)) (f d)) (items_fault f (n + 1) ds)

abbrev pub list_fault : (Data → Option Fault) → Option Items → Option Fault
list_fault f None = here Mistyped
list_fault f (Some ds) = items_fault f 0 (data_list ds)

abbrev pub key_passes : Keys → List ℕ → Bool
key_passes Any bytes = true
key_passes Names bytes = is_name (chars bytes)

-- a key is judged before its value
abbrev pub member_fault : Keys → (Data → Option Fault) → List ℕ × Data → Option Fault
member_fault keys f m = below (chars m.0) (if key_passes keys m.0 then f m.1 else here Range)

-- the members in byte order of their keys
abbrev pub members_fault : Keys → (Data → Option Fault) → List (List ℕ × Data) → Option Fault
members_fault keys f [] = None
members_fault keys f (m ∷ ms) = before (member_fault keys f m) (members_fault keys f ms)

abbrev pub map_fault : Keys → (Data → Option Fault) → Option Members → Option Fault
map_fault keys f None = here Mistyped
map_fault keys f (Some ms) = members_fault keys f (pairs_list ms)

abbrev pub field_fault : Need → (Data → Option Fault) → Option Data → Option Fault
field_fault Must f None = here Missing
field_fault May f None = None
field_fault need f (Some d) = f d

-- the fields of a record in the order of its table, each with all that it holds
abbrev mutual
  pub fault_of : Shape → Data → Option Fault
  fault_of text d = unless (is_some (as_str d))
  fault_of name d = name_fault d
  fault_of value d = value_fault d
  fault_of truth d = unless (is_some (as_bool d))
  fault_of truth_word d = unless (is_some (truth_word_of d))
  fault_of integer d = integer_fault d
  fault_of count d = count_fault d
  fault_of anything d = None
  fault_of (text_or s) d = if is_some (as_object d) then fault_of s d else unless (is_some (as_str d))
  fault_of (list_of s) d = list_fault (fault_of s) (as_array d)
  fault_of (map_of keys s) d = map_fault keys (fault_of s) (as_object d)
  fault_of (record_of fs) d = if is_some (as_object d) then fields_fault fs d else here Mistyped

  pub fields_fault : Fields → Data → Option Fault
  fields_fault no_fields d = None
  fields_fault (field key need s fs) d = before (below (chars key) (field_fault need (fault_of s) (found key d))) (fields_fault fs d)
