use denote.Param.Send.{sendable}
use Rattle.rg_run_kept.proofs.Sent.{keeper_send}
use Rattle.rg_run_kept.proofs.program.serve_words.Goals as goal

pub serve_kept-keeper-requires-send-P : goal.serve_kept-keeper-requires-send-P
serve_kept-keeper-requires-send-P g c κs within = search (sendable, keeper_send) depth 20
