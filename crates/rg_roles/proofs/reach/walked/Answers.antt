use Rattle.std.proofs.Common.{◌≡◌, ◌<◌, ◌+◌, ◌/◌, List, length, sym, ap, ◌∙◌, subst, arith}
use Rattle.std.specs.List.{All}
use Rattle.std.proofs.lemmas.List.{length-replicate}
use Rattle.std.proofs.lemmas.List.Elements.{All-weaker}
use Rattle.rg_roles.specs.Places.{IsKnown, Reaches, has}
use Rattle.rg_roles.proofs.Reached.{AreListed, lent, listed_known}
use Rattle.rg_roles.proofs.Sets.{has_none}
use Rattle.rg_roles.proofs.Walks.{reached_bounded}
use Rattle.rg_roles.proofs.reach.walked.Goals as goal

pub insert_all-requires-clause-within : goal.insert_all-requires-clause-within
insert_all-requires-clause-within c =
    let chart = c.args.chart.now in
    let room : length c.as_mut_slice.result.now ≡ length chart / 64 + 1 =
    ap length (c.as_mut_slice.ensures.value ∙ c.in_ok-words.ensures) ∙ length-replicate _ 0 ∙ ap (λ n. n / 64 + 1) c.len.ensures in
    subst (All (λ k. k / 64 < length c.as_mut_slice.result.now)) (sym c.as_slice.ensures.value)
    (All-weaker (Reaches chart c.args.place) (λ k. k / 64 < length c.as_mut_slice.result.now)
    (λ k r. let within = reached_bounded chart c.requires c.args.place k r in omega arith) c.in_ok-found.found.items c.in_ok-found.ensures.sound)

pub insert_all-requires-clause-none : goal.insert_all-requires-clause-none
insert_all-requires-clause-none c = λ k. ap (λ ws. has ws k) (c.as_mut_slice.ensures.value ∙ c.in_ok-words.ensures) ∙ has_none _ k

pub returns : goal.returns
returns c =
    let chart = c.args.chart.now in
    let found = c.in_ok-found.found.items in
    let new = c.insert_all.new.words in
    let wide : length new ≡ length chart / 64 + 1 =
    c.insert_all.ensures.len ∙ ap length (c.as_mut_slice.ensures.value ∙ c.in_ok-words.ensures) ∙ length-replicate _ 0 ∙ ap (λ n. n / 64 + 1) c.len.ensures in
    let listed : AreListed found new = subst (λ xs. AreListed xs new) c.as_slice.ensures.value c.insert_all.ensures.exact in
    subst (IsKnown chart c.args.place) (sym (lent new c.in_ok-words.words.items c.in_ok-words.words.len (omega (arith, c.in_ok-words.words.ok)))) (record {
      within = omega arith;
      exact = listed_known chart c.args.place found new c.in_ok-found.ensures listed;
    })
