use Rattle.std.proofs.Common.{◌≡◌, ap, ◌∙◌}
use Rattle.rg_pattern.specs.Atoms.{are_scalars, twin}
use Rattle.rg_pattern.proofs.Read.{scalars-twin}
use Rattle.rg_pattern.proofs.atoms.Pattern.recursive.Goals as goal

pub invariant_of-result : goal.invariant_of-result
invariant_of-result c =
    let read : c.in_ok-atoms.atoms.items ≡ twin c.self.inside.atoms.items = cc (c.in_ok-atoms.ensures, c.deref.ensures.value) in
    ap are_scalars read ∙ scalars-twin c.self.inside.atoms.items c.self.invariant
