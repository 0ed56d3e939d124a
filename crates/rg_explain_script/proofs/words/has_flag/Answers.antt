use Rattle.clap.specs.Matches.{one_text}
use Rattle.clap.specs.Words.{found_of}
use Rattle.rg_explain_script.proofs.CommandLine.{flag_read}
use Rattle.rg_explain_script.proofs.words.has_flag.Goals as goal

pub returns : goal.returns
returns c = λ is told. flag_read is (one_text (found_of c.args.matches.now) c.args.id.now) c.get_flag.result c.get_flag.ensures.value c.get_flag.ensures.other told
