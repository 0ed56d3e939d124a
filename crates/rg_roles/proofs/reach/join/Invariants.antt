use Rattle.std.proofs.Common.{◌≡◌, length, take}
use Rattle.rg_roles.proofs.Reached.{AreGone}
use Rattle.rg_roles.proofs.reach.join.Given as goal

abbrev pub invariant-loop-to : goal.invariant-loop-to
invariant-loop-to l = (length l.words ≡ length l.initial.words) × AreGone l.chart (take l.to-index l.to-items) l.words
