use Rattle.std.proofs.Common.{◌≡◌, ◌+◌, ◌&&◌, nat_eq, false}
use Rattle.std.specs.Int.{bit_at}
use Rattle.std.specs.Str.{chars}
use Rattle.rg_roles.specs.Members.{names_asker, passes_at}
use Rattle.rg_roles.specs.Places.{any_below}
use Rattle.rg_roles.proofs.membership.asker_in_word.Given as goal

abbrev pub invariant-loop-bit : goal.invariant-loop-bit
invariant-loop-bit l = any_below (λ b. nat_eq (bit_at l.word b) 1 && passes_at (names_asker (chars l.user) l.groups) l.rows (l.begin + b)) l.bit ≡ false
