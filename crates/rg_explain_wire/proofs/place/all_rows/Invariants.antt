use Rattle.std.proofs.Common.{◌≡◌, string_bytes, take}
use Rattle.std.specs.Prelude.{flat_map}
use Rattle.rg_explain_wire.specs.Words.{row_words}
use Rattle.rg_explain_wire.proofs.place.all_rows.Given as goal

abbrev pub invariant-loop-row : goal.invariant-loop-row
invariant-loop-row l = string_bytes l.text ≡ flat_map row_words (take l.row-index l.rows)
