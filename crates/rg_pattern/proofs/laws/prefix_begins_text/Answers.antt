use Rattle.rg_pattern.proofs.Joined.{prefix_starts, twin_prefix_starts}
use Rattle.rg_pattern.proofs.laws.prefix_begins_text.Goals as goal

pub returns-clause-pattern : goal.returns-clause-pattern
returns-clause-pattern c = prefix_starts

pub returns-clause-twin : goal.returns-clause-twin
returns-clause-twin c = twin_prefix_starts
