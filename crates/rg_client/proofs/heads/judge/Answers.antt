use Rattle.std.proofs.Common.{arith}
use Rattle.rg_client.proofs.Finishing.{stands}
use Rattle.rg_client.proofs.Room.{room_enough}
use Rattle.rg_client.proofs.heads.judge.Goals as goal

pub returns-in-Some : goal.returns-in-Some
returns-in-Some c = stands c.args.held.now _ c.in-Some.judged c.window_of-window.ensures.value c.in-Some.ensures.judged

pub unreachable-requires : goal.unreachable-requires
unreachable-requires c =
    room_enough c.window_of-window.result.now _ c.window_of-window.ensures.short (omega (arith, c.as_mut_slice-2.ensures.len, c.in_ok-resize.ensures.len))
    c.in_default-judge_within.ensures.exceeds

pub returns : goal.returns
returns c = stands c.args.held.now _ c.in-Some-judge_within.judged c.window_of-window.ensures.value c.in-Some-judge_within.ensures.judged
