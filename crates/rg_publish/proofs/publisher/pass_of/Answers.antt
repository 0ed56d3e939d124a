use Rattle.std.proofs.Common.{rules}
use Rattle.rg_publish.specs.declared.shown.Shown.{Shown}
use Rattle.rg_publish.proofs.Readings.{admits, forks, merges}
use Rattle.rg_publish.proofs.publisher.pass_of.Goals as goal

pub reader-requires : goal.reader-requires
reader-requires c = admits (λ (s : Shown). s.known)

pub tell-requires : goal.tell-requires
tell-requires c = forks (λ (s : Shown). s.known) _ _

pub learn-requires : goal.learn-requires
learn-requires c = record { own = search rules; rule = merges (λ (s : Shown). s.known) _ _ _ _ }
