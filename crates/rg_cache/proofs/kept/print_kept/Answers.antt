use Rattle.rg_cache.proofs.Again.{kept_again}
use Rattle.rg_cache.proofs.kept.print_kept.Goals as goal

pub returns-clause-again : goal.returns-clause-again
returns-clause-again c = λ ordered whole. kept_again c.args.facts.now (c.in_ok-facts.ensures.again ordered) whole
