use Rattle.std.proofs.Common.{◌≡◌, true, Some, length, refl, sym, ◌∙◌, slice_get}
use Rattle.std.specs.Ordering.{int_eq}
use Rattle.std.proofs.lemmas.Option.{slice_get_read}
use Rattle.rg_policy.specs.declared.policy.Policy.{Policy}
use Rattle.rg_cmd.specs.Lookups.{has_id}
use Rattle.rg_validate.proofs.Places.{one_id, stands_first}
use Rattle.rg_validate.proofs.lookups.place_of_policy.Goals as goal

pub returns-then-has_id-clause-first : goal.returns-then-has_id-clause-first
returns-then-has_id-clause-first c =
    let xs = c.args.policies.now in
    let place = c.partition_point-place.result in
    let p : Policy = c.in-Some.policy.now in
    let there : slice_get xs place ≡ Some p = slice_get_read xs (length xs) place p refl c.in-Some.ensures.lookup.3.0 c.in-Some.ensures.lookup.1 in
    let is : has_id c.args.id.0 p ≡ true = sym c.has_id.ensures ∙ c.if-has_id.true in
    stands_first (λ (p q : Policy). int_eq p.id.0 q.id.0) (has_id c.args.id.0) (one_id c.args.id.0) xs place p c.requires there is
