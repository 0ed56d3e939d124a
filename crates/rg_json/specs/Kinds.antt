-- The shapes that the names of kinds stand for, where those of the records and the names of the keys are given.
use Rattle.std.specs.Prelude.{ℕ, List, [], ◌∷◌}
use Rattle.rg_json.specs.Shape.{Shape, text, name, value, truth, truth_word, integer, count, anything, text_or, list_of, map_of, record_of, Fields, no_fields, field}
use Rattle.rg_json.specs.declared.shape.Field.{Field}
use Rattle.rg_json.specs.declared.shape.Form.{Form}
use Rattle.rg_json.specs.declared.shape.Form.TheVariants as form
use Rattle.rg_json.specs.declared.shape.Keys.TheVariants.{Any, Names}
use Rattle.rg_json.specs.declared.shape.Kind.{Kind}
use Rattle.rg_json.specs.declared.shape.Kind.TheVariants as kind
use Rattle.rg_json.specs.declared.shape.Need.{Need}

-- the fields of a table, one after another
abbrev pub fields : List (List ℕ × Need × Shape) → Fields
fields [] = no_fields
fields (f ∷ fs) = field f.0 f.1 f.2 (fields fs)

unfoldable pub shape_of : {R : Type 0} → (R → Shape) → Kind R → Shape
shape_of record_shape kind.Text = text
shape_of record_shape kind.Name = name
shape_of record_shape kind.Value = value
shape_of record_shape kind.Truth = truth
shape_of record_shape kind.TruthWord = truth_word
shape_of record_shape kind.Integer = integer
shape_of record_shape kind.Count = count
shape_of record_shape kind.Anything = anything
shape_of record_shape kind.Texts = list_of text
shape_of record_shape kind.Names = list_of name
shape_of record_shape kind.Things = list_of anything
shape_of record_shape kind.Pairs = map_of Any text
shape_of record_shape kind.Values = map_of Names value
shape_of record_shape kind.Lists = map_of Any (list_of text)
shape_of record_shape kind.MapsOfLists = list_of (map_of Any (list_of text))
shape_of record_shape (kind.Record r) = record_shape r
shape_of record_shape (kind.TextOr r) = text_or (record_shape r)
shape_of record_shape (kind.List r) = list_of (record_shape r)
shape_of record_shape (kind.TextsOr r) = list_of (text_or (record_shape r))
shape_of record_shape (kind.Map r) = map_of Any (record_shape r)
shape_of record_shape (kind.Maps r) = list_of (map_of Any (record_shape r))

-- the fields as they stand in the code
abbrev pub fields_from : {K R : Type 0} → (K → List ℕ) → (R → Shape) → List (Field K R) → Fields
fields_from name_of record_shape [] = no_fields
fields_from name_of record_shape (f ∷ fs) = field (name_of f.0) f.1 (shape_of record_shape f.2) (fields_from name_of record_shape fs)

-- the shape that one level of a kind says
abbrev pub unfolded : {K R : Type 0} → (K → List ℕ) → (R → Shape) → Form K R → Shape
unfolded name_of record_shape form.Text = text
unfolded name_of record_shape form.Name = name
unfolded name_of record_shape form.Value = value
unfolded name_of record_shape form.Truth = truth
unfolded name_of record_shape form.TruthWord = truth_word
unfolded name_of record_shape form.Integer = integer
unfolded name_of record_shape form.Count = count
unfolded name_of record_shape form.Anything = anything
unfolded name_of record_shape (form.TextOr k) = text_or (shape_of record_shape k)
unfolded name_of record_shape (form.List k) = list_of (shape_of record_shape k)
unfolded name_of record_shape (form.Map keys k) = map_of keys (shape_of record_shape k)
unfolded name_of record_shape (form.Record fs) = record_of (fields_from name_of record_shape fs.now)
