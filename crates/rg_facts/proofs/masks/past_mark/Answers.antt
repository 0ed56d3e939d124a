use Rattle.rg_facts.proofs.Marks.{stripped}
use Rattle.rg_facts.proofs.masks.past_mark.Goals as goal

pub returns : goal.returns
returns c = stripped c.args.text.now c.strip_prefix.result c.utf8.text c.strip_prefix.ensures.cases
