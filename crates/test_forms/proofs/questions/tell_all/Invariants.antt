use Rattle.std.proofs.Common.{◌≡◌, true}
use Rattle.test_forms.proofs.questions.tell_all.Given as goal

abbrev pub invariant-loop : goal.invariant-loop
invariant-loop l = l.client.live ≡ true
