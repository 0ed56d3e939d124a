use contract.Lifetimes.{Lfts}
use denote.Param.Send.{IsSend, param_send, sendable}
use Rattle.std.proofs.Crossing.{crosses}
use Rattle.rg_publish.proofs.Sent.{pass_send}
use Rattle.bench_figures.proofs.passes.threads.start.Given as given
use Rattle.bench_figures.proofs.passes.threads.start.Lts as lts
use Rattle.bench_figures.proofs.passes.threads.start.Goals as goal

crossing : (g : given.Over) (κs : Lfts 4) → IsSend (lts.arg-0-1 g.row.R g.R.laws g.R.Threads-dict κs)
crossing g κs = search (crosses, sendable, pass_send) depth 60 fits 4000

pub spawn-requires-send-F : goal.spawn-requires-send-F
spawn-requires-send-F g c κs within = param_send 1 _ (crossing g κs)
