use Rattle.std.proofs.Common.{string_bytes}
use Rattle.rg_run_serve.specs.Preparing.{AreAsked}
use Rattle.rg_run_serve.proofs.preparing.ask_all.Given as goal

abbrev pub invariant-loop-ask : goal.invariant-loop-ask
invariant-loop-ask g l = AreAsked l.fn.opened l.yielded l.opened (string_bytes l.text)
