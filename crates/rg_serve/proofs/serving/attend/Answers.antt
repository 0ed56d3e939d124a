use contract.Lifetimes.{Lfts}
use denote.Param.{param}
use denote.Exit.{yes}
use denote.Param.Send.{IsSend, IsSync, arg_sync, param_sync}
use Rattle.rg_serve.specs.contracts.serving.attend as rows
use Rattle.rg_serve.proofs.Sent.{follower_sync}
use Rattle.rg_serve.proofs.serving.attend.Given as given
use Rattle.rg_serve.proofs.serving.attend.Lts as lts
use Rattle.rg_serve.proofs.serving.attend.Goals as goal

-- what refreshes may be shared, where its handle may be sent
shared : (g : given.Over) (κs : Lfts 22) → IsSend (rows.P-row g.row.J g.row.P g.row.N g.row.C g.row.G g.row.H g.row.Q g.row.R g.row.N-Link) → IsSend (rows.Q-row g.row.J g.row.P g.row.N g.row.C g.row.G g.row.H g.row.Q g.row.R g.row.N-Link)
    → IsSync (lts.arg-0-6 g.row.J g.row.P g.row.N g.row.C g.row.G g.row.H g.row.Q g.row.R g.row.N-Link g.J.laws g.P.laws g.N.laws g.C.laws g.G.laws g.H.laws g.Q.laws g.R.laws g.N.Link.laws g.J.Naming g.J.Naming-dict g.J.Ledger g.J.Ledger-dict g.P.Recorder g.P.Recorder-dict g.N.Listener g.N.Listener-dict g.N.Link.Link g.N.Link.Link-dict g.C.Clock g.C.Clock-dict g.G.Gate g.G.Gate-dict g.H.RequestHooks g.H.RequestHooks-dict g.Q.Wait g.Q.Wait-dict g.R.Threads g.R.Threads-dict g.R.Wait g.R.Wait-dict g.P.Destruct-dict g.H.Destruct-dict g.Q.Destruct-dict g.N.Link.Destruct-dict κs)
shared g κs recorder handle = arg_sync _ yes _ (follower_sync (param 0 g.row.J) (param 1 g.row.P) g.J.Naming g.J.Ledger g.P.Recorder recorder (param 6 g.row.Q) handle _ _)

pub with_watcher-accepted-requires-sync-V : goal.with_watcher-accepted-requires-sync-V
with_watcher-accepted-requires-sync-V g c κs premises = param_sync 6 _ (shared g κs c.type_bounds.send-P c.type_bounds.send-Q)
