use Rattle.rg_serve.proofs.crew.finish_queue.Given as goal

abbrev pub decreases-loop : goal.decreases-loop
decreases-loop g l = l.left.share.amount
