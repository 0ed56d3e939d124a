use Rattle.std.proofs.Common.{◌∙◌, Some, None, arith, string_bytes, sym}
use Rattle.std.proofs.lemmas.Bool.Decides.{nat_tests}
use Rattle.std.proofs.lemmas.List.{nil_from_length}
use Rattle.std.proofs.lemmas.Result.{IfOk-weaker}
use Rattle.clap.specs.Words.{found_of}
use Rattle.rg_run.proofs.CommandLine.{no_words, not_plain, word_missing, word_read}
use Rattle.rg_run.proofs.command.command_of.Goals as goal

pub returns-then-is_empty : goal.returns-then-is_empty
returns-then-is_empty c = no_words string_bytes c.args.words.now (nil_from_length c.args.words.now (grind (arith, nat_tests)))

pub returns-then-not-are_plain : goal.returns-then-not-are_plain
returns-then-not-are_plain c = not_plain string_bytes c.args.words.now (sym c.are_plain.ensures ∙ c.if-not-are_plain.true)

pub returns-in-None : goal.returns-in-None
returns-in-None c = word_missing string_bytes c.args.words.now (found_of c.in_ok-matches.matches) (sym c.are_plain.ensures ∙ c.if-not-are_plain.false) c.in_ok-matches.ensures c.in-None.ensures

pub returns-in-Some-get_raw : goal.returns-in-Some-get_raw
returns-in-Some-get_raw c = IfOk-weaker c.named.result _ _ (λ command e. e ∙ word_read string_bytes c.args.words.now (found_of c.in_ok-matches.matches)
    (sym c.are_plain.ensures ∙ c.if-not-are_plain.false) c.in_ok-matches.ensures _ (Some _) c.in-Some.ensures c.in-Some-get_raw.ensures) c.named.ensures

pub returns : goal.returns
returns c = IfOk-weaker c.named-in-None-get_raw.result _ _ (λ command e. e ∙ word_read string_bytes c.args.words.now (found_of c.in_ok-matches.matches)
    (sym c.are_plain.ensures ∙ c.if-not-are_plain.false) c.in_ok-matches.ensures _ None c.in-Some.ensures c.in-None-get_raw.ensures) c.named-in-None-get_raw.ensures
