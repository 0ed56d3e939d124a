use Rattle.std.proofs.Common.{◌≡◌, ◌++◌, string_bytes, take}
use Rattle.rg_run_report.specs.Report.{row_lines}
use Rattle.rg_run_report.proofs.report.add_rows.Given as goal

abbrev pub invariant-loop-row : goal.invariant-loop-row
invariant-loop-row l = string_bytes l.text ≡ string_bytes l.initial.text ++ row_lines (take l.row-index l.rows)
