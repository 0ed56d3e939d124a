use Rattle.rg_validate.proofs.Alone.{alone_by}
use Rattle.rg_validate.proofs.policies.is_alone.Goals as goal

pub returns : goal.returns
returns c = λ test tells few.
    alone_by c.args.counts.now c.args.state.now c.args.print c.requires.counted c.args.updated c.count_of.result c.own_count.result _
    c.count_of.ensures c.old_form.ensures c.own_count.ensures few test tells
