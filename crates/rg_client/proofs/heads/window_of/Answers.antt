use Rattle.std.proofs.Common.{sym, arith}
use Rattle.std.proofs.lemmas.List.{take_all}
use Rattle.rg_http.specs.Framing.{head_limit}
use Rattle.rg_client.proofs.heads.window_of.Goals as goal

pub returns-then-held-lt-HEAD_LIMIT-clause-value : goal.returns-then-held-lt-HEAD_LIMIT-clause-value
returns-then-held-lt-HEAD_LIMIT-clause-value c = sym (take_all head_limit c.args.held.now (omega arith))
