use Rattle.std.proofs.Common.{◌≡◌, ◌+◌, ◌/◌, length, refl, sym, ap, ◌∙◌, subst, arith}
use Rattle.std.proofs.lemmas.List.{length-replicate}
use Rattle.rg_roles.specs.Places.{IsKnown, has}
use Rattle.rg_roles.proofs.Reached.{lent, no_steps, nowhere}
use Rattle.rg_roles.proofs.Sets.{has_none}
use Rattle.rg_roles.proofs.reach.joined.Goals as goal

pub returns-then-is_empty : goal.returns-then-is_empty
returns-then-is_empty c =
    let chart = c.args.chart.now in
    let none = no_steps c.at.result.now (sym c.is_empty.ensures ∙ c.if-is_empty.true) in
    subst (IsKnown chart c.args.place) (sym c.new.ensures.items) (record {
      within = omega arith;
      exact = nowhere chart c.args.place (sym c.at.ensures ∙ none);
    })

pub join-requires-clause-none : goal.join-requires-clause-none
join-requires-clause-none c = λ k. ap (λ ws. has ws k) (c.as_mut_slice.ensures.value ∙ c.in_ok-words.ensures) ∙ has_none _ k

pub returns-then-join : goal.returns-then-join
returns-then-join c =
    let new = c.join.new.words in
    let wide : length new ≡ length c.args.chart.now / 64 + 1 =
    c.join.ensures.len ∙ ap length (c.as_mut_slice.ensures.value ∙ c.in_ok-words.ensures) ∙ length-replicate _ 0 ∙ ap (λ n. n / 64 + 1) c.len.ensures in
    subst (IsKnown c.args.chart.now c.args.place) (sym (lent new c.in_ok-words.words.items c.in_ok-words.words.len (omega (arith, c.in_ok-words.words.ok)))) (record {
      within = omega arith;
      exact = c.if-join.ensures.exact refl;
    })
