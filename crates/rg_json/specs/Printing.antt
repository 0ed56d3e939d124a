-- What is printed for the parts of a record. Members stand in byte order of their keys, since `put` keeps that order.
use Rattle.std.specs.Prelude.{ℕ, ℤ, Bool, List, [], ◌∷◌, map, Option, Some, None}
use Rattle.std.specs.Str.{encode_utf8_all}
use Rattle.serde_json.specs.Data.{Data, null, boolean, number, string, array, object, Members, no_members, put, unsigned}
use Rattle.serde_json.specs.Find.{of_integer}
use Rattle.serde_json.specs.View.{items_of}
use Rattle.rg_base.specs.Listed.{Listed}

-- these members and then those, each put in turn
abbrev pub with_members : {K : Type 0} → (K → List ℕ) → Members → List (K × Data) → Members
with_members name_of ms [] = ms
with_members name_of ms (p ∷ ps) = with_members name_of (put (name_of p.0) p.1 ms) ps

abbrev pub object_of : {K : Type 0} → (K → List ℕ) → List (K × Data) → Data
object_of name_of ps = object (with_members name_of no_members ps)

unfoldable pub text_data : List ℕ → Data
text_data t = string (encode_utf8_all t)

abbrev pub bool_data : Bool → Data
bool_data b = boolean b

unfoldable pub integer_data : ℤ → Data
integer_data z = number (of_integer z)

abbrev pub count_data : ℕ → Data
count_data n = number (unsigned n)

unfoldable pub list_data : {X : Type 0} → (X → Data) → Listed X → Data
list_data print xs = array (items_of (map print xs.items))

abbrev pub option_data : {X : Type 0} → (X → Data) → Option X → Data
option_data print None = null
option_data print (Some x) = print x
