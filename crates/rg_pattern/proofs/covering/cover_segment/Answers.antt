use Rattle.std.proofs.Common.{◌∷◌, List, subst, ap, ◌∙◌, rules, refl}
use Rattle.rg_pattern.specs.declared.atoms.Atom.{Atom}
use Rattle.rg_pattern.specs.Tests.{covers}
use Rattle.rg_pattern.specs.Steps.{LeadsTo}
use Rattle.rg_pattern.proofs.Walks.{covers_on, leads_to_any}
use Rattle.rg_pattern.proofs.covering.cover_segment.Goals as goal

pub returns-in-Any : goal.returns-in-Any
returns-in-Any c =
    let test = covers c.args.fold in
    leads_to_any test c.args.pattern.now c.args.other.now c.in-Some.more.now c.loop-atom.other.now
    (subst (λ (q : List Atom). LeadsTo test c.args.pattern.now c.args.other.now q c.loop-atom.other.now) (c.in-Some.ensures.cases.0 ∙ ap (λ a. a ∷ c.in-Some.more.now) c.in-Any.is) c.loop-atom.invariant)
    refl

pub loop-atom-preserved : goal.loop-atom-preserved
loop-atom-preserved c =
    let test = covers c.args.fold in
    let at_atom = subst (λ (q : List Atom). LeadsTo test c.args.pattern.now c.args.other.now q c.loop-atom.other.now) c.in-Some.ensures.cases.0 c.loop-atom.invariant in
    let at_both = subst (λ (s : List Atom). LeadsTo test c.args.pattern.now c.args.other.now (c.in-Some.atom.now ∷ c.in-Some.more.now) s) c.in-Some-split_first.ensures.cases.0 at_atom in
    covers_on c.args.fold c.args.pattern.now c.args.other.now c.in-Some.atom.now c.in-Some.more.now c.in-Some-split_first.next.now c.in-Some-split_first.rest.now
    at_both c.in_default-atom.not-Any (search rules)
