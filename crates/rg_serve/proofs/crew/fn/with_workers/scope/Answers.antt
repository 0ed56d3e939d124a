use denote.Ref.{NamedLft, ShrRef}
use denote.Builtin.{usize}
use Prim.Native.Nat.{ℕ}
use base.Fml.{Lft}
use mir.Syntax.{named}
use denote.Exit.{yes}
use denote.Struct.Tuple.{TupleAt, type_at}
use denote.Param.SendFields.{declared_send}
use mathlib.Core.List.{List, [], ◌∷◌}
use denote.RattleType.{RattleType}
use denote.Param.Send.{IsSend, IsSync, arg_send, param_send, shr_send, sendable}
use Rattle.rg_serve.specs.contracts.crew.Crew as E
use Rattle.rg_serve.specs.contracts.crew.fn.with_workers.scope as rows
use Rattle.rg_serve.proofs.Sent.{crew_sync}
use Rattle.rg_serve.proofs.crew.fn.with_workers.scope.Given as given
use Rattle.rg_serve.proofs.crew.fn.with_workers.scope.Lts as lts
use Rattle.rg_serve.proofs.crew.fn.with_workers.scope.Goals as goal
use contract.Lifetimes.{Lfts}

abbrev life : ℕ → Lft → NamedLft
life n κ = record { mir = named n; lft = κ }

-- what a worker's closure holds
abbrev captured : (g : given.Over) → Lfts 14 → List RattleType
captured g κs =
    ShrRef (named 5) κs.1.1.1.1.1.0 (rows.R-row g.row.J g.row.P g.row.N g.row.C g.row.G g.row.H g.row.R g.row.N-Link)
    ∷ ShrRef (named 6) κs.1.1.1.1.1.1.0 (E.the_row (life 7 κs.1.1.1.1.1.1.1.0) (life 8 κs.1.1.1.1.1.1.1.1.0) (life 9 κs.1.1.1.1.1.1.1.1.1.0) (life 10 κs.1.1.1.1.1.1.1.1.1.1.0) (life 11 κs.1.1.1.1.1.1.1.1.1.1.1.0) (life 12 κs.1.1.1.1.1.1.1.1.1.1.1.1.0) (life 13 κs.1.1.1.1.1.1.1.1.1.1.1.1.1.0) (rows.J-row g.row.J g.row.P g.row.N g.row.C g.row.G g.row.H g.row.R g.row.N-Link) (rows.P-row g.row.J g.row.P g.row.N g.row.C g.row.G g.row.H g.row.R g.row.N-Link) (rows.C-row g.row.J g.row.P g.row.N g.row.C g.row.G g.row.H g.row.R g.row.N-Link) (rows.G-row g.row.J g.row.P g.row.N g.row.C g.row.G g.row.H g.row.R g.row.N-Link) (rows.H-row g.row.J g.row.P g.row.N g.row.C g.row.G g.row.H g.row.R g.row.N-Link) (rows.N-Link-row g.row.J g.row.P g.row.N g.row.C g.row.G g.row.H g.row.R g.row.N-Link) g.J.Naming g.J.Ledger g.P.Recorder)
    ∷ usize ∷ []

crossing : (g : given.Over) (κs : Lfts 14) → IsSend (rows.P-row g.row.J g.row.P g.row.N g.row.C g.row.G g.row.H g.row.R g.row.N-Link) → IsSend (rows.C-row g.row.J g.row.P g.row.N g.row.C g.row.G g.row.H g.row.R g.row.N-Link) → IsSend (rows.H-row g.row.J g.row.P g.row.N g.row.C g.row.G g.row.H g.row.R g.row.N-Link)
    → IsSend (rows.N-Link-row g.row.J g.row.P g.row.N g.row.C g.row.G g.row.H g.row.R g.row.N-Link) → IsSync (rows.G-row g.row.J g.row.P g.row.N g.row.C g.row.G g.row.H g.row.R g.row.N-Link) → IsSync (rows.R-row g.row.J g.row.P g.row.N g.row.C g.row.G g.row.H g.row.R g.row.N-Link)
    → IsSend (lts.arg-1-1 g.row.J g.row.P g.row.N g.row.C g.row.G g.row.H g.row.R g.row.N-Link g.J.laws g.P.laws g.N.laws g.C.laws g.G.laws g.H.laws g.R.laws g.N.Link.laws g.J.Naming g.J.Naming-dict g.J.Ledger g.J.Ledger-dict g.P.Recorder g.P.Recorder-dict g.N.Listener g.N.Listener-dict g.N.Link.Link g.N.Link.Link-dict g.C.Clock g.C.Clock-dict g.G.Gate g.G.Gate-dict g.H.RequestHooks g.H.RequestHooks-dict g.R.Threads g.R.Threads-dict g.R.Wait g.R.Wait-dict g.P.Destruct-dict g.H.Destruct-dict g.N.Link.Destruct-dict κs)
crossing g κs recorder clock hooks link gate handle =
    arg_send _ yes (TupleAt _ (captured g κs))
    (declared_send (type_at _ (captured g κs)) (
      shr_send _ _ _ handle,
      (shr_send _ _ _ (crew_sync (rows.J-row g.row.J g.row.P g.row.N g.row.C g.row.G g.row.H g.row.R g.row.N-Link) (rows.P-row g.row.J g.row.P g.row.N g.row.C g.row.G g.row.H g.row.R g.row.N-Link) g.J.Naming g.J.Ledger g.P.Recorder recorder (rows.H-row g.row.J g.row.P g.row.N g.row.C g.row.G g.row.H g.row.R g.row.N-Link) hooks (rows.C-row g.row.J g.row.P g.row.N g.row.C g.row.G g.row.H g.row.R g.row.N-Link) (rows.G-row g.row.J g.row.P g.row.N g.row.C g.row.G g.row.H g.row.R g.row.N-Link) (rows.N-Link-row g.row.J g.row.P g.row.N g.row.C g.row.G g.row.H g.row.R g.row.N-Link) clock gate link (life 7 κs.1.1.1.1.1.1.1.0) (life 8 κs.1.1.1.1.1.1.1.1.0) (life 9 κs.1.1.1.1.1.1.1.1.1.0) (life 10 κs.1.1.1.1.1.1.1.1.1.1.0) (life 11 κs.1.1.1.1.1.1.1.1.1.1.1.0) (life 12 κs.1.1.1.1.1.1.1.1.1.1.1.1.0) (life 13 κs.1.1.1.1.1.1.1.1.1.1.1.1.1.0)), (search sendable depth 20, tt)),
    ))

pub spawn-started-requires-send-F : goal.spawn-started-requires-send-F
spawn-started-requires-send-F g c κs premises =
    let b = c.requires-raw in
    param_send 1 _ (crossing g κs b.1.1.1.1.1.1.1.1.1.0 b.1.1.1.1.1.1.1.1.1.1.0 b.1.1.1.1.1.1.1.1.1.1.1.0 b.1.1.1.1.1.1.1.1.1.1.1.1.0 b.1.1.1.1.1.1.1.1.1.1.1.1.1.1.0 b.1.1.1.1.1.1.1.1.1.1.1.1.1.1.1.0)

pub spawn-started-requires-after_bounds : goal.spawn-started-requires-after_bounds
spawn-started-requires-after_bounds g c = λ κs h.
    let b = c.requires-raw in (
      record { owned = b.1.1.1.1.1.1.1.1.0.owned; leaving = λ k x w. tt },
      record { owned = b.1.1.1.1.1.1.1.1.1.0.owned; leaving = λ k x w. tt },
      record { owned = b.1.1.1.1.1.1.1.1.1.1.0.owned; leaving = λ k x w. tt },
      record { owned = b.1.1.1.1.1.1.1.1.1.1.1.0.owned; leaving = λ k x w. tt },
      record { owned = b.1.1.1.1.1.1.1.1.1.1.1.1.0.owned; leaving = λ k x w. tt },
      search (sendable, b.1.1.1.1.1.1.1.1.1.1.1.1.1.0) depth 10,
      search (sendable, b.1.1.1.1.1.1.1.1.1.1.1.1.1.1.0) depth 10,
      search (sendable, b.1.1.1.1.1.1.1.1.1.1.1.1.1.1.1.0) depth 10,
    )
