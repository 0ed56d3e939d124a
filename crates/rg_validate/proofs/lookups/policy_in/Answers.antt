use Rattle.std.proofs.Common.{length, refl, sym, ap, ◌∙◌, slice_get}
use Rattle.std.specs.Option.{option_and_then}
use Rattle.std.proofs.lemmas.Option.{slice_get_read}
use Rattle.rg_cmd.specs.Lookups.{has_id}
use Rattle.rg_validate.proofs.Places.{found_at}
use Rattle.rg_validate.proofs.lookups.policy_in.Goals as goal

pub returns-in-Some : goal.returns-in-Some
returns-in-Some c =
    let xs = c.args.policies.now in
    let there = slice_get_read xs (length xs) c.in-Some.place c.index-policies-place.result refl c.in-Some.ensures.within c.index-policies-place.is in
    sym (found_at (has_id c.args.id.0) xs ∙ ap (option_and_then (slice_get xs)) (sym c.in-Some.ensures.first) ∙ there)

pub returns-in-None : goal.returns-in-None
returns-in-None c =
    let xs = c.args.policies.now in
    sym (found_at (has_id c.args.id.0) xs ∙ ap (option_and_then (slice_get xs)) (sym c.in-None.ensures.first))
