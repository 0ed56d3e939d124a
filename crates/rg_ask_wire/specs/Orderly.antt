-- For proofs alone: JSON as it is in memory. Its strings and keys are text, the keys of a map stand in byte order, and integers fit.
use Rattle.std.specs.Prelude.{◌≡◌, ℕ, List, IfSome, option_and_then}
use Rattle.std.specs.Str.{IsUtf8}
use Rattle.std.specs.Ordering.{nat_cmp}
use Rattle.std.specs.declared.cmp.Ordering.TheVariants.{Less}
use Rattle.std.specs.Cmp.Lexicographic.{slice_cmp}
use Rattle.serde_json.specs.Data.{Num, Data, null, boolean, number, string, array, object, Items, no_items, item, Members, no_members, member}
use Rattle.serde_json.specs.Find.{as_i64, as_number}
use Rattle.rg_json.specs.Own.{IsInteger}

-- where it is an integer of 64 bits, it is one
abbrev pub IsFine : Num → Type 0
IsFine n = IfSome (as_i64 n) IsInteger

-- the key is before that of the first
abbrev pub IsFirstKey : List ℕ → Members → Type 0
IsFirstKey k no_members = Unit {0}
IsFirstKey k (member l d ms) = slice_cmp nat_cmp k l ≡ Less

abbrev mutual
  pub IsOrderly : Data → Type 0
  IsOrderly null = Unit {0}
  IsOrderly (boolean b) = Unit {0}
  IsOrderly (number n) = IsFine n
  IsOrderly (string s) = IsUtf8 s
  IsOrderly (array ds) = AreOrderly ds
  IsOrderly (object ms) = AreKeyed ms

  pub AreOrderly : Items → Type 0
  AreOrderly no_items = Unit {0}
  AreOrderly (item d ds) = IsOrderly d × AreOrderly ds

  pub AreKeyed : Members → Type 0
  AreKeyed no_members = Unit {0}
  AreKeyed (member k d ms) = IsUtf8 k × IsFirstKey k ms × IsOrderly d × AreKeyed ms

-- a number is fine
abbrev pub IsFineNumber : Data → Type 0
IsFineNumber d = IfSome (option_and_then as_i64 (as_number d)) IsInteger
