use Rattle.std.specs.Str.{chars}
use Rattle.rg_admin.proofs.Firsts.{without_by_name}
use Rattle.rg_admin.proofs.lists.remove_named.Goals as goal

pub returns : goal.returns
returns g c =
    let first = without_by_name g.T.Named.named (chars c.args.name.now) c.args.list.now.items c.requires.distinct in cc
