use Rattle.std.proofs.Common.{sym, ap, ◌∙◌}
use Rattle.std.specs.Option.{is_some}
use Rattle.rg_base.specs.Places.{place_in}
use Rattle.rg_base.proofs.Names.{known}
use Rattle.rg_admin.proofs.places.has_place.Goals as goal

pub returns : goal.returns
returns c = λ names index.
    c.is_some.ensures ∙ ap is_some (c.place_at.ensures names index) ∙ ap (λ t. is_some (place_in names t)) c.as_str.ensures.read ∙ sym (known names c.args.name.now)
