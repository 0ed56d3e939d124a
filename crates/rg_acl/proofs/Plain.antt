-- What is printed for a row has no float.
use Rattle.std.proofs.Common.{◌≡◌, false, refl, arith}
use Rattle.serde_json.specs.Written.{has_float}
use Rattle.rg_json.proofs.Plain.{Plain, integer_plain, object_plain, text_plain}
use Rattle.rg_acl.specs.Printing.{name_of, row_data, row_members}
use Rattle.rg_acl.specs.declared.row.ReportRow.{ReportRow}

row_plain : (r : ReportRow) → Plain 1 (row_data r)
unfolding row_data
row_plain r = object_plain name_of 0 1 (row_members r) (omega arith) ((refl, omega arith), (text_plain 0 r.access, ((refl, omega arith), (text_plain 0 r.name, (integer_plain 0 r.verdict.policy.0, tt)))))

pub row_has_no_float : (r : ReportRow) → has_float (row_data r) ≡ false
row_has_no_float r = (row_plain r).0

pub ruleset rows = (row_has_no_float)
