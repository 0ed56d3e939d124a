use Rattle.std.proofs.Common.{◌≡◌, ◌≤◌, ◌-◌}
use Rattle.rg_record_store.specs.Keeping.{Nothing, Passes}
use Rattle.rg_keep.specs.Replay.{most_kept}
use Rattle.rg_keep.specs.Replaying.{IsPart}
use Rattle.rg_keep.proofs.reopen.take_all.Given as goal

-- so many entries were taken
abbrev pub invariant-entries : goal.invariant-entries
invariant-entries g l = record {
  within : l.place ≤ most_kept;
  part : IsPart (g.P.Keeper.kept l.fn.keeper) l.fn.admin l.place l.admin;
  same : g.P.Keeper.kept l.keeper ≡ g.P.Keeper.kept l.fn.keeper;
  moments : Passes (g.P.Keeper.moment l.fn.keeper) (g.P.Keeper.moment l.keeper) (g.P.Keeper.left_since l.fn.keeper) (g.P.Keeper.left_since l.keeper) Nothing;
  counted : g.P.Keeper.faults l.fn.keeper ≤ g.P.Keeper.faults l.keeper;
}

abbrev pub decreases-entries : goal.decreases-entries
decreases-entries g l = most_kept - l.place
