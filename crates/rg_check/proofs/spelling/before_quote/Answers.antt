-- The mark is one character of ASCII.
use native.Mathlib.Omega.{arith}
use Rattle.std.proofs.lemmas.Str.Pattern.{strip_suffix_char}
use Rattle.rg_check.proofs.spelling.before_quote.Goals as goal

pub returns : goal.returns
returns c = strip_suffix_char 34 c.args.text.now c.strip_suffix.result c.strip_suffix.ensures.cases (omega arith)
