use Rattle.std.proofs.Common.{ap}
use Rattle.std.proofs.lemmas.Result.{IfOk-weaker}
use Rattle.rg_run_replay.specs.Running.{Running}
use Rattle.rg_run_replay.proofs.Holding.{newest_facts}
use Rattle.rg_run_replay.proofs.running.Running.facts.Goals as goal

pub returns-clause-newest : goal.returns-clause-newest
returns-clause-newest g c =
    IfOk-weaker c.facts.result _ _
    (λ facts is. newest_facts c.self.inside.refresher.publisher.list c.args.self.now c.newest.result.now facts (ap (λ (r : Running). r.published) c.self.view_is) c.newest.ensures is)
    c.facts.ensures.copied
