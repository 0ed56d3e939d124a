use Rattle.rg_json.proofs.Sorted.{sorted}
use Rattle.rg_json.proofs.lists.read_members.Goals as goal

pub returns-clause-sorted : goal.returns-clause-sorted
returns-clause-sorted g c = sorted c.args.members.now.entries c.iter-key-items.ensures.ordered
