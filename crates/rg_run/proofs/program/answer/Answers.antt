use Rattle.std.proofs.Common.{length, ap, rules}
use Rattle.rg_run.proofs.Runs.{by_grants, by_workers}
use Rattle.rg_run.proofs.program.answer.Goals as goal

pub returns-in-Some-Serve-clause-run : goal.returns-in-Some-Serve-clause-run
returns-in-Some-Serve-clause-run g c =
    by_workers _ _ _ _ _ c.in-Some-Serve.address c.in-Some-Serve.links _ _ _ (search rules) (ap (λ hooks. length hooks.items) c.replace-hooks.ensures.value) c.serve_script.ensures.run

pub returns-in-Some-Grants-clause-run : goal.returns-in-Some-Grants-clause-run
returns-in-Some-Grants-clause-run g c =
    by_grants _ _ _ _ _ _ _ _ (search rules) c.new-in-Some-Grants.ensures c.judge_by-in-Some-Grants.ensures.run
