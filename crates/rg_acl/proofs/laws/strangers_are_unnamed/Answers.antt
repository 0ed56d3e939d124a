use Rattle.std.proofs.Common.{◌∷◌}
use Rattle.rg_acl.specs.Named.{named}
use Rattle.rg_acl.specs.declared.named.Listing.TheVariants.{Users}
use Rattle.rg_acl.proofs.Strange.{begins_none, fewer_begin, is_stranger}
use Rattle.rg_acl.proofs.laws.strangers_are_unnamed.Goals as goal

pub returns-clause-unnamed : goal.returns-clause-unnamed
returns-clause-unnamed c = is_stranger

pub returns-clause-begins : goal.returns-clause-begins
returns-clause-begins c = λ facts owner text there begun. begins_none (owner ∷ named Users facts) text there begun

pub returns-clause-least : goal.returns-clause-least
returns-clause-least c = λ facts owner n some few. fewer_begin (owner ∷ named Users facts) n some few
