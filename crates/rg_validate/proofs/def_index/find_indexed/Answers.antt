use Rattle.std.proofs.Common.{◌≡◌, Some, None, position, slice_get, sym, ap, ◌∙◌}
use Rattle.std.specs.Option.{option_and_then}
use Rattle.std.specs.Str.{bytes_eq, chars}
use Rattle.rg_validate.proofs.Places.{found_at, position_mapped}
use Rattle.rg_validate.proofs.def_index.find_indexed.Goals as goal

pub returns-in-Some : goal.returns-in-Some
returns-in-Some g c =
    let named = g.T.Named.named in
    let name = chars c.args.name.now in
    let xs = c.args.things.now in
    let at : position (λ x. bytes_eq (named x) name) xs ≡ Some c.in-Some.place =
    sym (c.in-Some.ensures ∙ ap (position (λ n. bytes_eq n name)) c.requires ∙ position_mapped (λ n. bytes_eq n name) named xs) in
    c.thing_at.ensures ∙ sym (found_at (λ x. bytes_eq (named x) name) xs ∙ ap (option_and_then (slice_get xs)) at)

pub returns-in-None : goal.returns-in-None
returns-in-None g c =
    let named = g.T.Named.named in
    let name = chars c.args.name.now in
    let xs = c.args.things.now in
    let at : position (λ x. bytes_eq (named x) name) xs ≡ None =
    sym (c.in-None.ensures ∙ ap (position (λ n. bytes_eq n name)) c.requires ∙ position_mapped (λ n. bytes_eq n name) named xs) in
    sym (found_at (λ x. bytes_eq (named x) name) xs ∙ ap (option_and_then (slice_get xs)) at)
