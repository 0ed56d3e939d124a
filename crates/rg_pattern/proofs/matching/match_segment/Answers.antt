use Rattle.std.proofs.Common.{◌∷◌, List, length, subst, sym, ap, ◌∙◌, arith, rules, refl}
use Rattle.std.specs.Str.{chars}
use Rattle.rg_pattern.specs.declared.atoms.Atom.{Atom}
use Rattle.rg_pattern.specs.Tests.{stands}
use Rattle.rg_pattern.specs.Steps.{LeadsTo}
use Rattle.rg_pattern.proofs.Walks.{stands_on, leads_to_any}
use Rattle.rg_pattern.proofs.matching.match_segment.Goals as goal

pub returns-in-Any-clause-answer : goal.returns-in-Any-clause-answer
returns-in-Any-clause-answer c =
    let test = stands c.args.fold (chars c.args.user.now) in
    let from = chars c.args.text.now in
    let to = chars c.loop-atom.text.now in
    leads_to_any test c.args.pattern.now from c.in-Some.more.now to
    (subst (λ (q : List Atom). LeadsTo test c.args.pattern.now from q to) (c.in-Some.ensures.cases.0 ∙ ap (λ a. a ∷ c.in-Some.more.now) c.in-Any.is) c.loop-atom.invariant.leads)
    refl

pub loop-atom-preserved : goal.loop-atom-preserved
loop-atom-preserved c =
    let user = chars c.args.user.now in
    let from = chars c.args.text.now in
    let to = chars c.loop-atom.text.now in
    record {
      utf8 = search rules;
      leads = stands_on c.args.fold user c.args.pattern.now from c.in-Some.atom.now c.in-Some.more.now to (chars c.in-Some-strip_atom.rest.now)
          (subst (λ (q : List Atom). LeadsTo (stands c.args.fold user) c.args.pattern.now from q to) c.in-Some.ensures.cases.0 c.loop-atom.invariant.leads)
          c.in_default-atom.not-Any (sym c.in-Some-strip_atom.ensures);
      work = omega (arith, c.loop-atom.invariant.work, c.add.ensures, ap length c.in-Some.ensures.cases.0);
    }
