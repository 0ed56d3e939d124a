-- What is printed of tests.
use Rattle.std.specs.Prelude.{ℕ, Bool, ◌==◌, nat_lt, ◌&&◌, ◌||◌, not, ◌++◌, List, [], codes, decimal, encode_utf8, flat_map, if◌then◌else◌}
use Rattle.std.specs.Str.{chars}
use Rattle.rg_run_script.specs.declared.status.Status.{Status}
use Rattle.rg_run_script.specs.declared.status.Status.TheVariants.{BadLine}
use Rattle.rg_test_script.specs.declared.form.Form.{Form}
use Rattle.rg_test_script.specs.declared.form.Form.TheVariants as form

-- ---- XML

-- what XML can't have: controls but for tab, LF and CR, and the two characters that are none
abbrev pub is_no_xml : ℕ → Bool
is_no_xml c = (nat_lt c 32 && not (c == 9 || (c == 10 || c == 13))) || (c == 65534 || c == 65535)

-- a character as XML has it in a text; one that XML can't have is a question mark
unfoldable pub escaped_char : ℕ → List ℕ
escaped_char c =
    if c == 38 then codes "&amp;"
    else (if c == 60 then codes "&lt;"
    else (if c == 62 then codes "&gt;"
    else (if c == 34 then codes "&quot;"
    else (if is_no_xml c then codes "?" else encode_utf8 c))))

unfoldable pub escaped : List ℕ → List ℕ
escaped text = flat_map escaped_char (chars text)

unfoldable pub case_open : ℕ → List ℕ → List ℕ
case_open n wanted = codes "<testcase name=\"line " ++ (decimal n ++ (codes ": " ++ (escaped wanted ++ codes "\"")))

-- ---- an expectation

-- line n expects this, and it is so
unfoldable pub passed_text : Form → ℕ → List ℕ → List ℕ
passed_text form.Words n wanted = []
passed_text form.Junit n wanted = case_open n wanted ++ codes "/>\n"

-- it isn't: the line that was printed, and why
unfoldable pub failed_text : Form → ℕ → List ℕ → List ℕ → List ℕ → List ℕ
failed_text form.Words n wanted line reason =
    codes "line " ++ (decimal n ++ (codes ": expected " ++ (wanted ++ (codes ", got " ++ (line ++ reason)))))
failed_text form.Junit n wanted line reason =
    case_open n wanted ++ (codes "><failure message=\"" ++ (escaped line ++ (codes "\">" ++ (escaped reason ++ codes "</failure></testcase>\n"))))

-- ---- the whole

-- what stands above all
unfoldable pub top : Form → List ℕ
top form.Words = []
top form.Junit = codes "<?xml version=\"1.0\" encoding=\"UTF-8\"?>\n<testsuite name=\"rangerd-test\">\n"

-- a case for the bad line at which the tests end, since build servers show nothing but cases
unfoldable pub bad_case : Status → List ℕ
bad_case BadLine = codes "<testcase name=\"bad line\"><error message=\"the tests end at a bad line\"/></testcase>\n"
bad_case _ = []

-- and below, where the lines end with this status
unfoldable pub summary : Form → Status → ℕ → ℕ → List ℕ
summary form.Words status passed failed = decimal passed ++ (codes " passed, " ++ (decimal failed ++ codes " failed\n"))
summary form.Junit status passed failed = bad_case status ++ codes "</testsuite>\n"
