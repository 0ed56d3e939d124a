use Rattle.std.proofs.Common.{◌∙◌, string_bytes, subst}
use Rattle.rg_publish.specs.Passes.{Ends}
use Rattle.rg_run_replay.specs.Running.{IsRefreshed, Running}
use Rattle.rg_run_replay.proofs.Working.{refreshed_work}
use Rattle.rg_run_script.proofs.Written.{written_so}
use Rattle.rg_run_replay.proofs.replay.refresh_and_print.Goals as goal

pub returns : goal.returns
returns g c =
    let same = c.deref_mut.ensures.value ∙ c.administered.view_is in
    written_so c.add_refresh.result _ _
    (refreshed_work c.args.administered.now c.refresh.new.self c.in_ok-published.published (string_bytes c.args.text.now) (string_bytes c.add_refresh.new.text)
    (subst (λ (r : Running). Ends r.published (λ p. IsRefreshed r p c.in_ok-published.published c.refresh.new.self)) same c.in_ok-published.ensures.refreshed))
    c.add_refresh.ensures
