use Rattle.std.proofs.Common.{position, ap, ◌∙◌}
use Rattle.std.specs.Str.{bytes_eq, chars}
use Rattle.rg_base.proofs.Names.{place_is}
use Rattle.rg_base.proofs.name_index.NameIndex.place_of.Goals as goal

pub returns : goal.returns
returns c =
    let names = c.self.inside.names.items in
    let name = chars c.args.name.now in
    c.place_at.ensures names c.self.invariant.0 ∙ place_is names name ∙ ap (position (λ t. bytes_eq t name)) c.self.view_is
