use Rattle.std.proofs.Common.{◌≡◌, map}
use Rattle.std.specs.Vec.Iter.{into_iter_items}
use Rattle.rg_admin.specs.Puts.{IsPutting}
use Rattle.rg_admin.specs.Starting.{put_all, put_fault}
use Rattle.rg_admin.proofs.start.put_all.Given as goal

-- what is left leads from the present state to where all lead
abbrev pub invariant-loop-row : goal.invariant-loop-row
invariant-loop-row g l = record {
  putting : IsPutting l.putting;
  fault : put_fault l.initial.putting.state (map g.T.Configured.put_by l.fn.rows.items) ≡ put_fault l.putting.state (map g.T.Configured.put_by (into_iter_items l.row-iterator));
  led : put_all l.initial.putting.state (map g.T.Configured.put_by l.fn.rows.items) ≡ put_all l.putting.state (map g.T.Configured.put_by (into_iter_items l.row-iterator));
}
