use Rattle.std.proofs.Common.{map, ◌∙◌}
use Rattle.std.specs.Str.{chars}
use Rattle.rg_admin.proofs.Placed.{all_within, placed}
use Rattle.rg_admin.proofs.places.place_of.Goals as goal

pub returns-clause-first : goal.returns-clause-first
returns-clause-first g c =
    let it = g.T.Named.named in
    c.place_at.ensures (map it c.args.list.now) c.requires ∙ placed it (chars c.args.name.now) c.args.list.now

pub returns-clause-within : goal.returns-clause-within
returns-clause-within g c =
    let it = g.T.Named.named in
    all_within it (chars c.args.name.now) c.args.list.now c.place_at.result (c.place_at.ensures (map it c.args.list.now) c.requires)
