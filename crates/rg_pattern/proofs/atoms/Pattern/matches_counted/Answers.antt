use Rattle.std.proofs.Common.{◌≡◌}
use Rattle.std.specs.Str.{chars}
use Rattle.rg_pattern.specs.Tests.{stands}
use Rattle.rg_pattern.proofs.Decided.{stands_exact}
use Rattle.rg_pattern.proofs.atoms.Pattern.matches_counted.Goals as goal

pub returns-clause-exact : goal.returns-clause-exact
returns-clause-exact c =
    let user = chars c.args.user.now in
    let value = chars c.args.value.now in
    let test : c.matches_whole.result ≡ stands c.args.fold user c.args.self.now value = cc (c.matches_whole.ensures.answer, c.deref.ensures.value, c.self.view_is) in
    stands_exact c.args.fold user c.args.self.now value c.matches_whole.result test
