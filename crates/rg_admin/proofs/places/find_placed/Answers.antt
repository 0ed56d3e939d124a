use Rattle.std.proofs.Common.{length, refl, sym, ap, ◌∙◌, slice_get}
use Rattle.std.specs.Option.{option_and_then}
use Rattle.std.specs.Str.{chars}
use Rattle.std.proofs.lemmas.Option.{slice_get_read}
use Rattle.rg_admin.proofs.Placed.{found}
use Rattle.rg_admin.proofs.places.find_placed.Goals as goal

pub returns-in-Some : goal.returns-in-Some
returns-in-Some g c =
    let xs = c.args.list.now in
    let there = slice_get_read xs (length xs) c.in-Some.place c.index-list-place.result refl c.in-Some.ensures.within c.index-list-place.is in
    sym (found g.T.Named.named (chars c.args.name.now) xs ∙ ap (option_and_then (slice_get xs)) (sym c.in-Some.ensures.first) ∙ there)

pub returns-in-None : goal.returns-in-None
returns-in-None g c =
    let xs = c.args.list.now in
    sym (found g.T.Named.named (chars c.args.name.now) xs ∙ ap (option_and_then (slice_get xs)) (sym c.in-None.ensures.first))
