use Rattle.std.proofs.Common.{◌≡◌, Some, refl, sym, ap, ◌∙◌, length, option_and_then}
use Rattle.std.proofs.lemmas.Option.{slice_get_past, slice_get_read}
use Rattle.std.specs.List.{slice_get}
use Rattle.rg_defs.specs.declared.service_def.Level.{Level}
use Rattle.rg_defs.specs.Paths.{place_of}
use Rattle.rg_defs.proofs.level_paths.parent_of.Goals as goal

pub returns-in-Some : goal.returns-in-Some
returns-in-Some c =
    let levels = c.args.levels.now in
    let at : slice_get levels c.args.place ≡ Some c.in-Some.level.now =
    slice_get_read levels (length levels) c.args.place c.in-Some.level.now refl c.in-Some.ensures.lookup.3.0 c.in-Some.ensures.lookup.1 in
    c.place_named.ensures.first ∙ ap (place_of levels) c.as_str.ensures.read ∙ sym (ap (option_and_then (λ (l : Level). place_of levels l.parent)) at)

pub returns-in-None : goal.returns-in-None
returns-in-None c =
    let levels = c.args.levels.now in
    sym (ap (option_and_then (λ (l : Level). place_of levels l.parent)) (slice_get_past levels c.args.place c.in-None.ensures.lookup.3))
