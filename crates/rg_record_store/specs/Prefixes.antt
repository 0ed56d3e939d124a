-- For proofs alone: the lists of the first records.
use Rattle.std.specs.Prelude.{◌≡◌, ◌≤◌, ℕ, List, length, take, Some}
use Rattle.std.proofs.Common.{sym, ◌∙◌, arith}
use Rattle.std.proofs.lemmas.List.{take_all}
use Rattle.rg_record_store.specs.Memory.{HadBeen}

some_same : {X : Type 0} (x y : X) → Some x ≡ Some y → x ≡ y
some_same x y e = cc e

-- the whole list is one of them
pub had_been_now : (kept : List (List ℕ)) (t : ℕ) (records : List (List ℕ)) → t ≤ length kept → Some kept ≡ Some records → HadBeen kept t records
had_been_now kept t records le told = (length kept, le, omega arith, sym (some_same kept records told) ∙ sym (take_all (length kept) kept (omega arith)))

-- of those since the last there is no other
pub only_now : (kept records left : List (List ℕ)) → Some kept ≡ Some records → HadBeen kept (length kept) left → left ≡ records
only_now kept records left told had =
    had.3 ∙ take_all had.0 kept had.1 ∙ some_same kept records told
