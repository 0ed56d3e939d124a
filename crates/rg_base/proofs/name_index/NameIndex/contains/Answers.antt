use Rattle.std.proofs.Common.{sym, ap, ◌∙◌}
use Rattle.std.specs.Option.{is_some}
use Rattle.std.specs.Str.{chars}
use Rattle.rg_base.specs.Texts.{is_among}
use Rattle.rg_base.proofs.Names.{known}
use Rattle.rg_base.proofs.name_index.NameIndex.contains.Goals as goal

pub returns : goal.returns
returns c =
    let names = c.self.inside.names.items in
    let name = chars c.args.name.now in
    c.is_some.ensures ∙ ap is_some (c.place_at.ensures names c.self.invariant.0) ∙ sym (known names name) ∙ ap (is_among name) c.self.view_is
