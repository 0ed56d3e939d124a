use Rattle.std.proofs.Common.{◌≡◌, fold, max, take}
use Rattle.rg_acl.specs.Strangers.{marks}
use Rattle.rg_acl.proofs.stranger.most_marks.Given as goal

abbrev pub invariant-loop-name : goal.invariant-loop-name
invariant-loop-name l = l.most ≡ fold (λ most t. max most (marks t)) l.least (take l.name-index l.names)
