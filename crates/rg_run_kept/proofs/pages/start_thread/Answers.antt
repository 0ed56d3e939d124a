use contract.Lifetimes.{Lfts}
use denote.Param.Send.{IsSend, param_send, sendable}
use Rattle.std.proofs.Crossing.{crosses}
use Rattle.rg_ports.proofs.tcp.TcpNet.TheSendSync as net
use Rattle.rg_metrics.proofs.metrics.Metrics.TheSendSync as metrics
use Rattle.rg_run_kept.proofs.Sent.{seen_send}
use Rattle.rg_run_kept.proofs.pages.start_thread.Given as given
use Rattle.rg_run_kept.proofs.pages.start_thread.Lts as lts
use Rattle.rg_run_kept.proofs.pages.start_thread.Goals as goal

crossing : (g : given.Over) (κs : Lfts 4) → IsSend (lts.arg-0-1 g.row.R g.R.laws g.R.Threads-dict κs)
crossing g κs = search (crosses, sendable, net.the_send, metrics.the_send, metrics.the_sync, seen_send) depth 60 fits 4000

pub spawn-requires-send-F : goal.spawn-requires-send-F
spawn-requires-send-F g c κs within = param_send 1 _ (crossing g κs)
