use Rattle.std.proofs.Common.{◌≡◌, ◌*◌, ◌&&◌, false}
use Rattle.std.specs.Str.{chars}
use Rattle.rg_roles.specs.Members.{names_asker, passes_at}
use Rattle.rg_roles.specs.Places.{any_below, has}
use Rattle.rg_roles.proofs.membership.asker_among.Given as goal

abbrev pub invariant-loop-at : goal.invariant-loop-at
invariant-loop-at l = any_below (λ k. has l.words k && passes_at (names_asker (chars l.user) l.groups) l.rows k) (64 * l.at) ≡ false
