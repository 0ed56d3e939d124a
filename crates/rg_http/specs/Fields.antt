-- The fields of a head by name. A field is its name, and its value without the white space around it.
use Rattle.std.specs.Prelude.{ℕ, List, [], ◌∷◌, map, filter, Bool, Option, Some, None}
use Rattle.std.specs.Char.{to_ascii_lowercase}
use Rattle.std.specs.Str.{bytes_eq}
use Rattle.rg_http.specs.declared.fields.FieldName.{FieldName}
use Rattle.rg_http.specs.Names.{name_of}

-- the same text, letters compared without case
abbrev pub is_same_folded : List ℕ → List ℕ → Bool
is_same_folded a b = bytes_eq (map to_ascii_lowercase a) (map to_ascii_lowercase b)

-- the field has that name
abbrev pub is_named : FieldName → List ℕ × List ℕ → Bool
is_named name f = is_same_folded f.0 (name_of name)

-- the values of the fields of that name, in order
abbrev pub values : FieldName → List (List ℕ × List ℕ) → List (List ℕ)
values name fields = map (λ f. f.1) (filter (is_named name) fields)

-- the first of them
abbrev pub first : {A : Type 0} → List A → Option A
first [] = None
first (x ∷ xs) = Some x
