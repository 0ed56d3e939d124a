-- What JSON may be: a tree, since no record holds itself.
use Rattle.std.specs.Prelude.{ℕ, ◌+◌, List}
use Rattle.rg_json.specs.declared.shape.Keys.{Keys}
use Rattle.rg_json.specs.declared.shape.Need.{Need}

mutual
  pub data Shape : Type 0 where
    -- a text
    text : Shape
    -- a text of 1 to 256 characters
    name : Shape
    -- a text of at most 4,096 characters
    value : Shape
    -- true or false
    truth : Shape
    -- true or false, or one of the texts `true` and `false`
    truth_word : Shape
    -- an integer of 64 bits with its sign
    integer : Shape
    -- an integer of 64 bits without a sign
    count : Shape
    -- whatever it is
    anything : Shape
    -- a text, or a map that is something else
    text_or : Shape → Shape
    list_of : Shape → Shape
    map_of : Keys → Shape → Shape
    record_of : Fields → Shape

  pub data Fields : Type 0 where
    no_fields : Fields
    field : List ℕ → Need → Shape → Fields → Fields

-- how many shapes it holds, itself included
abbrev mutual
  pub height : Shape → ℕ
  height text = 1
  height name = 1
  height value = 1
  height truth = 1
  height truth_word = 1
  height integer = 1
  height count = 1
  height anything = 1
  height (text_or s) = 1 + height s
  height (list_of s) = 1 + height s
  height (map_of keys s) = 1 + height s
  height (record_of fs) = 1 + fields_height fs

  pub fields_height : Fields → ℕ
  fields_height no_fields = 0
  fields_height (field k need s fs) = 1 + height s + fields_height fs
