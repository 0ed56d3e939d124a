-- What is shown, passes, and what they are told may cross threads. `search` alone stops at its bounds where an engine begins.
use denote.Param.Send.{IsSend, IsSync, sendable}
use denote.Param.SendFields.{declared_send, declared_sync}
use Rattle.std.proofs.Crossing.{crosses}
use Rattle.logbook.proofs.tokens.Seen.TheSendSync as seen
use Rattle.left_right.proofs.reader.Reader.TheSendSync as reader
use Rattle.rg_engine.proofs.Sent.{engine_send, engine_sync}
use Rattle.rg_publish.specs.contracts.shown.Shown as S
use Rattle.rg_publish.specs.contracts.pass.Pass as P
use Rattle.rg_publish.specs.contracts.pass.Pass.TheInside as PI
use Rattle.rg_publish.specs.contracts.pass.Told as T
use Rattle.rg_publish.specs.contracts.pass.Told.TheInside as TI

pub shown_send : IsSend S.the_row
shown_send = declared_send S.the_type (search (crosses, sendable, engine_send, engine_sync) depth 40, (search sendable depth 20, (search sendable depth 20, (search (sendable, seen.the_send) depth 40, tt))))

pub shown_sync : IsSync S.the_row
shown_sync = declared_sync S.the_type (search (crosses, sendable, engine_send, engine_sync) depth 40, (search sendable depth 20, (search sendable depth 20, (search (sendable, seen.the_sync) depth 40, tt))))

pass_inside_send : IsSend PI.the_row
pass_inside_send = declared_send PI.the_type (search (crosses, sendable, reader.the_send, shown_sync) depth 60, (search (sendable, shown_send) depth 40, (search sendable depth 20, (search sendable depth 20, tt))))

pub pass_send : IsSend P.the_row
pass_send = search (sendable, pass_inside_send) depth 20

told_inside_send : IsSend TI.the_row
told_inside_send = declared_send TI.the_type (search (sendable, shown_send) depth 40, tt)

pub told_send : IsSend T.the_row
told_send = search (sendable, told_inside_send) depth 20
