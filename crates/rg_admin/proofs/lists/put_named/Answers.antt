use Rattle.std.proofs.Common.{arith}
use Rattle.rg_admin.proofs.Firsts.{put_by_name}
use Rattle.rg_admin.proofs.lists.put_named.Goals as goal

pub returns-clause-ok : goal.returns-clause-ok
returns-clause-ok g c =
    let first = put_by_name g.T.Named.named (g.T.Named.named c.args.item) c.args.item c.args.list.now.items c.requires.distinct in grind (arith, first)
