-- What passes and publishers hold may cross threads. `search` alone stops at its bounds where an engine begins.
use denote.RattleType.{RattleType}
use denote.Ref.{NamedLft}
use denote.Param.Send.{IsSend, IsSync, sendable, shr_sync}
use denote.Param.SendFields.{declared_send, declared_sync}
use Rattle.std.proofs.Crossing.{crosses}
use Rattle.logbook.proofs.word.Word.TheSendSync as word
use Rattle.left_right.proofs.writer.Writer.TheSendSync as writer
use Rattle.rg_base.proofs.text.Text.TheSendSync as text
use Rattle.rg_turn.proofs.seats.Seat.TheSendSync as seat
use Rattle.rg_admin.proofs.admin.Admin.TheSendSync as admin
use Rattle.rg_admin.specs.contracts.admin.Admin as D
use Rattle.rg_admin.specs.contracts.recorder.Unkept as K
use Rattle.rg_admin.specs.contracts.recorder.UnkeptRecorder.TheImpl as KI
use Rattle.rg_admin.specs.contracts.admin.AdminMachine.TheImpl as DM
use Rattle.rg_cmd.specs.contracts.ask.Ask as Q
use Rattle.rg_cmd.specs.contracts.ask.AdminReply as Y
use Rattle.rg_turn.specs.contracts.seats.Seat as S
use Rattle.rg_admin.specs.declared.recorder.Recorder as recorder
use Rattle.rg_publish.proofs.Sent.{pass_send, shown_send, shown_sync}
use Rattle.rg_publish.specs.contracts.publisher.Publisher as U
use Rattle.rg_publish.specs.contracts.publisher.Publisher.TheInside as UI
use Rattle.rg_session.specs.contracts.refresher.Refresher as F
use Rattle.std.specs.declared.sync.ledger.Ledger as ledger
use Rattle.std.proofs.sync.ledger.Share.TheSendSync as share
use Rattle.rg_serve.specs.declared.naming.Naming as naming
use Rattle.rg_serve.specs.contracts.places.Parts as A
use Rattle.rg_serve.specs.contracts.places.Parts.TheInside as AI
use Rattle.rg_serve.specs.contracts.following.Following as W
use Rattle.rg_serve.specs.contracts.following.Following.TheInside as WI
use Rattle.rg_serve.specs.contracts.following.Follower as L
use Rattle.rg_threads.proofs.queue.Queue.TheSendSync as queue
use Rattle.rg_serve.proofs.sessions.Common.TheSendSync as common
use Rattle.rg_serve.proofs.sessions.Sessions.TheSendSync as sessions
use Rattle.rg_serve.specs.contracts.places.Workers as B
use Rattle.rg_serve.specs.contracts.crew.Crew as E

module _ (P : RattleType) (h : recorder.Ghosts P.Denot) (k : IsSend P) where
  machine_send : IsSend (D.the_row P h)
  machine_send = admin.the_send P h k

  -- the seat of an administration, whose state is one that nobody keeps
  seat_send : IsSend (S.the_row (D.the_row P h) Q.the_row Y.the_row (D.the_row K.the_row KI.ghosts) (DM.ghosts P h DM.no_dict DM.no_dict))
  seat_send = seat.the_send (D.the_row P h) Q.the_row Y.the_row (D.the_row K.the_row KI.ghosts) (DM.ghosts P h DM.no_dict DM.no_dict) machine_send

module _ (R : RattleType) (s : IsSend R) where
  publisher_inside_send : IsSend (UI.the_row R)
  publisher_inside_send = declared_send (UI.the_type R) (search (crosses, sendable, writer.the_send, shown_send, shown_sync) depth 60, (search (sendable, s) depth 20, (search (sendable, word.the_send) depth 20, (search (sendable, shown_send) depth 40, tt))))

  publisher_send : IsSend (U.the_row R)
  publisher_send = search (sendable, publisher_inside_send) depth 20

  refresher_send : IsSend (F.the_row R)
  refresher_send = declared_send (F.the_type R) (search (sendable, publisher_send) depth 20, (search (sendable, text.the_send) depth 20, (search sendable depth 20, tt)))

module _ (J P : RattleType) (g : naming.Ghosts J.Denot) (l : ledger.Ghosts J.Denot) (h : recorder.Ghosts P.Denot) (k : IsSend P) where
  parts_inside_send : IsSend (AI.the_row J P g l h)
  parts_inside_send = declared_send (AI.the_type J P g l h) (seat_send P h k, (search (sendable, pass_send) depth 20, (search (sendable, share.the_send) depth 20, (search sendable depth 20, (search sendable depth 20, (search (crosses, sendable) depth 20, tt))))))

  -- a worker's seat and pass, with its share
  pub parts_send : IsSend (A.the_row J P g l h)
  parts_send = search (sendable, parts_inside_send) depth 20

module _ (J P : RattleType) (g : naming.Ghosts J.Denot) (l : ledger.Ghosts J.Denot) (h : recorder.Ghosts P.Denot) (k : IsSend P) where
  module _ (R : RattleType) (s : IsSend R) where
    following_inside_send : IsSend (WI.the_row J P R g l h)
    following_inside_send = declared_send (WI.the_type J P R g l h) (search (sendable, refresher_send, s) depth 20, (seat_send P h k, (search sendable depth 20, (search (crosses, sendable) depth 20, tt))))

    -- a refresher with its seat
    pub following_send : IsSend (W.the_row J P R g l h)
    following_send = search (sendable, following_inside_send) depth 20

    -- what refreshes beside the workers
    pub follower_sync : (a b : NamedLft) → IsSync (L.the_row a b J P R g l h)
    follower_sync a b = declared_sync (L.the_type a b J P R g l h) (shr_sync _ _ _ (common.the_sync J P g l h k), (search (crosses, sendable, following_send) depth 20, tt))

  module _ (H : RattleType) (e : IsSend H) where
    workers_sync : IsSync (B.the_row J P H g h l)
    workers_sync = declared_sync (B.the_type J P H g h l) (search (crosses, sendable, parts_send J P g l h k) depth 40, (search (crosses, sendable, e) depth 40, tt))

    -- the workers, what they share, and the links that wait for them
    pub crew_sync : (C G T : RattleType) → IsSend C → IsSync G → IsSend T → (s q w a b c d : NamedLft) → IsSync (E.the_row s q w a b c d J P C G H T g l h)
    crew_sync C G T clock gate link s q w a b c d =
        declared_sync (E.the_type s q w a b c d J P C G H T g l h)
        (shr_sync _ _ _ (sessions.the_sync a b c d J P C G g l h k clock gate), (shr_sync _ _ _ (queue.the_sync J T l link), (shr_sync _ _ _ workers_sync, tt)))
