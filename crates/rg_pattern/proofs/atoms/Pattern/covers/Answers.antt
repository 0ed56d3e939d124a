use Rattle.std.proofs.Common.{◌≡◌}
use Rattle.rg_pattern.specs.Tests.{covers}
use Rattle.rg_pattern.proofs.Decided.{covers_exact}
use Rattle.rg_pattern.proofs.atoms.Pattern.covers.Goals as goal

pub returns-clause-exact : goal.returns-clause-exact
returns-clause-exact c =
    let test : c.covers_whole.result ≡ covers c.args.fold c.args.self.now c.args.other.now = cc (c.covers_whole.ensures, c.deref.ensures.value, c.deref-2.ensures.value, c.self.view_is, c.other.view_is) in
    covers_exact c.args.fold c.args.self.now c.args.other.now c.covers_whole.result test
