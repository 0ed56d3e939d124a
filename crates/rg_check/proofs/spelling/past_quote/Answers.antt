-- The mark is one character of ASCII.
use native.Mathlib.Omega.{arith}
use Rattle.std.proofs.lemmas.Str.Pattern.{strip_prefix_char}
use Rattle.rg_check.proofs.spelling.past_quote.Goals as goal

pub returns : goal.returns
returns c = strip_prefix_char 34 c.args.text.now c.strip_prefix.result c.strip_prefix.ensures.cases (omega arith)
