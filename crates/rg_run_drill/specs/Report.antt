-- What is printed of a drill.
use Rattle.std.specs.Prelude.{ℕ, List, ◌++◌, codes, decimal}
use Rattle.rg_run_drill.specs.declared.totals.Totals.{Totals}

unfoldable pub policies_line : Totals → List ℕ
policies_line t =
    codes "policies=" ++ (decimal t.policies ++ (codes " publications=" ++ (decimal t.publications
    ++ (codes " compiles=" ++ (decimal t.compiles ++ (codes " edits=" ++ (decimal t.edits ++ codes "\n")))))))

unfoldable pub requests_line : Totals → List ℕ
requests_line t =
    codes "requests=" ++ (decimal t.requests ++ (codes " allowed=" ++ (decimal t.allowed ++ (codes " denied=" ++ (decimal t.denied
    ++ (codes " undetermined=" ++ (decimal t.undetermined ++ (codes " tries=" ++ (decimal t.tries ++ codes "\n")))))))))

-- two lines
abbrev pub report_text : Totals → List ℕ
report_text t = policies_line t ++ requests_line t
