-- Trees may cross threads where their values may be sent and shared. No such fact is made of a type that holds itself through
-- an `Arc`: `both_send` and `both_sync` give it from what one fork holds.
use denote.RattleType.{RattleType}
use denote.Param.Send.{IsSend, IsSync, sendable}
use Rattle.std.proofs.Crossing.{Arc-send, Arc-sync, crosses}
use Rattle.rg_tree.proofs.tree.Placed.TheSendSync as placed
use Rattle.rg_tree.proofs.tree.Tree.TheLaws.TheKnot.{both_send-Tree, both_sync-Tree}
use Rattle.rg_tree.specs.contracts.tree.Tree as T

module _ (V : RattleType) (s : IsSend V) (y : IsSync V) where
  pub tree_send : IsSend (T.the_row V)
  tree_send =
      let whole = both_send-Tree V (search (crosses, sendable, placed.the_send V s) depth 20) (search (crosses, sendable, placed.the_sync V y) depth 20) Arc-send Arc-sync in
      search (sendable, whole) depth 20

  pub tree_sync : IsSync (T.the_row V)
  tree_sync =
      let whole = both_sync-Tree V (search (crosses, sendable, placed.the_send V s) depth 20) (search (crosses, sendable, placed.the_sync V y) depth 20) Arc-send Arc-sync in
      search (sendable, whole) depth 20
