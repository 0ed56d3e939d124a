use Rattle.std.proofs.Common.{string_bytes}
use Rattle.rg_run_serve.proofs.Readied.{readied}
use Rattle.rg_run_serve.proofs.preparing.ready.Goals as goal

pub returns : goal.returns
returns g c =
    readied c.args.workers c.args.admin c.args.asks.items c.in_ok-opened.opened _ c.in_ok-opened-2.opened _ (string_bytes c.in_ok-text.text)
    c.in_ok-opened.ensures.opened c.in_ok-opened.ensures.workers c.in_ok-text.ensures c.in_ok-opened-2.ensures
