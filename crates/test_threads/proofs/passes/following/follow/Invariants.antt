use Rattle.std.proofs.Common.{◌≡◌}
use Rattle.test_threads.proofs.passes.following.follow.Given as goal

abbrev pub invariant-loop-place : goal.invariant-loop-place
invariant-loop-place g l = record {
  service : l.service.book ≡ l.fn.service.book;
  pass : l.pass.book ≡ l.fn.pass.book;
}
