use Rattle.std.proofs.Common.{◌≡◌, true, List, IfOk, subst}
use Rattle.rg_pattern.specs.declared.atoms.Atom.{Atom}
use Rattle.rg_pattern.specs.Atoms.{are_scalars}
use Rattle.rg_pattern.specs.Tests.{overlaps}
use Rattle.rg_pattern.proofs.Table.{overlap_answered}
use Rattle.rg_pattern.proofs.atoms.Pattern.overlap.Goals as goal

pub returns-clause-exact : goal.returns-clause-exact
returns-clause-exact c =
    let p = c.args.self.now in
    let q = c.args.other.now in
    let seen : c.deref.result.now ≡ p = cc (c.deref.ensures.value, c.self.view_is) in
    let other_seen : c.deref-2.result.now ≡ q = cc (c.deref-2.ensures.value, c.other.view_is) in
    let scalars : are_scalars p ≡ true = cc (c.self.invariant, c.self.view_is) in
    let other_scalars : are_scalars q ≡ true = cc (c.other.invariant, c.other.view_is) in
    let of_self = subst (λ (x : List Atom). IfOk c.overlaps.result (λ b. b ≡ overlaps c.args.fold x c.deref-2.result.now)) seen c.overlaps.ensures in
    let of_both = subst (λ (y : List Atom). IfOk c.overlaps.result (λ b. b ≡ overlaps c.args.fold p y)) other_seen of_self in
    overlap_answered c.args.fold p q c.overlaps.result (c.requires.no_user, scalars) (c.requires.no_other_user, other_scalars) of_both
