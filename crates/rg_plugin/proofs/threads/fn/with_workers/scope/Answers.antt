use denote.Param.Send.{IsSend, IsSync, param_send, param_sync, sendable}
use Rattle.std.proofs.Crossing.{crosses}
use Rattle.rg_plugin.proofs.board.Board.TheSendSync as board
use Rattle.rg_plugin.specs.contracts.threads.fn.with_workers.scope as rows
use Rattle.rg_plugin.proofs.Sent.{worker_send}
use Rattle.rg_plugin.proofs.threads.fn.with_workers.scope.Given as given
use Rattle.rg_plugin.proofs.threads.fn.with_workers.scope.Lts as lts
use Rattle.rg_plugin.proofs.threads.fn.with_workers.scope.Goals as goal
use contract.Lifetimes.{Lfts}

crossing : (g : given.Over) (κs : Lfts 13) → IsSend (rows.N-row g.row.A g.row.K g.row.Q g.row.N g.row.C g.row.H g.row.R g.row.A-Link g.row.N-Link)
    → IsSend (rows.C-row g.row.A g.row.K g.row.Q g.row.N g.row.C g.row.H g.row.R g.row.A-Link g.row.N-Link)
    → IsSend (rows.H-row g.row.A g.row.K g.row.Q g.row.N g.row.C g.row.H g.row.R g.row.A-Link g.row.N-Link)
    → IsSync (rows.R-row g.row.A g.row.K g.row.Q g.row.N g.row.C g.row.H g.row.R g.row.A-Link g.row.N-Link)
    → IsSend (lts.arg-0-1 g.row.A g.row.K g.row.Q g.row.N g.row.C g.row.H g.row.R g.row.A-Link g.row.N-Link g.A.laws g.K.laws g.Q.laws g.N.laws g.C.laws g.H.laws g.R.laws g.A.Link.laws g.N.Link.laws g.A.Administration g.A.Administration-dict g.A.Link.Link g.A.Link.Link-dict g.K.Cache g.K.Cache-dict g.Q.Wait g.Q.Wait-dict g.N.Listener g.N.Listener-dict g.N.Link.Link g.N.Link.Link-dict g.C.Clock g.C.Clock-dict g.H.RequestHooks g.H.RequestHooks-dict g.R.Threads g.R.Threads-dict g.R.Wait g.R.Wait-dict g.R.Clock g.R.Clock-dict g.K.Destruct-dict g.Q.Destruct-dict g.H.Destruct-dict g.A.Link.Destruct-dict g.N.Link.Destruct-dict κs)
crossing g κs net clock hooks handle = search (crosses, sendable, board.the_sync, worker_send) depth 60 fits 4000

pub spawn-started-requires-send-F : goal.spawn-started-requires-send-F
spawn-started-requires-send-F g c κs premises =
    let r = c.requires.1.1.1.1.1.1.1.1.1 in
    param_send 1 _ (crossing g κs (param_send 3 _ r.0) (param_send 4 _ r.1) (param_send 5 _ r.2) (param_sync 6 _ r.6))

pub follow_rounds-requires-send-C : goal.follow_rounds-requires-send-C
follow_rounds-requires-send-C g c κs within = param_send 3 _ c.requires.1.1.1.1.1.1.1.1.1.1

pub follow_rounds-requires-send-A-Link : goal.follow_rounds-requires-send-A-Link
follow_rounds-requires-send-A-Link g c κs within = param_send 5 _ c.requires.1.1.1.1.1.1.1.1.1.3
