-- Sets may cross threads. `search` alone stops at its bounds where an evaluator begins.
use denote.RattleType.{RattleType}
use denote.Param.Send.{IsSend, IsSync, sendable}
use denote.Param.SendFields.{declared_send, declared_sync}
use Rattle.std.proofs.Crossing.{crosses}
use Rattle.rg_resmatch.specs.contracts.matcher.Matcher as M
use Rattle.rg_evalr.specs.contracts.evaluator.Evaluator as E
use Rattle.rg_evalr.specs.contracts.evaluator.Evaluator.TheInside as I
use Rattle.rg_evalr.specs.contracts.evaluator.Parts as P
use Rattle.rg_policy_sets.specs.contracts.held.HeldPolicy as H
use Rattle.rg_policy_sets.specs.contracts.held.HeldPolicy.TheInside as HI
use Rattle.rg_policy_sets.specs.contracts.held.HeldRow as R
use Rattle.rg_policy_sets.specs.contracts.held.HeldRow.TheInside as RI
use Rattle.rg_policy_sets.specs.contracts.policies.PolicySet as S
use Rattle.rg_policy_sets.specs.contracts.policies.PolicySet.TheInside as SI
use Rattle.rg_policy_sets.specs.contracts.rows.RowSet as W
use Rattle.rg_policy_sets.specs.contracts.rows.RowSet.TheInside as WI
use Rattle.rg_policy_sets.specs.contracts.slots.Slot as T
use Rattle.rg_policy_sets.specs.contracts.slots.Slot.TheInside as TI
use Rattle.rg_policy_sets.specs.contracts.pages.Page as G
use Rattle.rg_policy_sets.specs.contracts.pages.Page.TheInside as GI
use Rattle.rg_policy_sets.specs.contracts.pages.Slots as L
use Rattle.rg_policy_sets.specs.contracts.pages.Slots.TheInside as LI
use Rattle.rg_policy_sets.specs.contracts.shelf.Shelf as F
use Rattle.rg_policy_sets.specs.contracts.shelf.Shelf.TheInside as FI
use Rattle.rg_policy_sets.specs.declared.held.Fileable.{Ghosts}
use Rattle.rg_index.proofs.Sent.{index_send, index_sync}
use Rattle.rg_base.proofs.seq.Seq.TheSendSync as seq
use Rattle.rg_cond.proofs.spans.Span.TheSendSync as span
use Rattle.rg_cond.proofs.conditions.Condition.TheSendSync as condition
use Rattle.rg_evalr.proofs.frame.Side.TheSendSync as side
use Rattle.rg_evalr.proofs.item.CompiledItem.TheSendSync as item
use Rattle.rg_policy_sets.proofs.marks.Mark.TheSendSync as mark
use Rattle.rg_defs.proofs.service_def.Level.TheSendSync as level
use Rattle.rg_policy.proofs.policy.Policy.TheSendSync as policy
use Rattle.rg_shared.proofs.shared.Shared.TheSendSync as shared
use Rattle.rg_tags.proofs.row.TagRow.TheSendSync as row

matcher_send : IsSend M.the_row
matcher_send = search (crosses, sendable) depth 60

matcher_sync : IsSync M.the_row
matcher_sync = search (crosses, sendable) depth 60

parts_send : IsSend P.the_row
parts_send = search (crosses, sendable, matcher_send, seq.the_send, span.the_send, condition.the_send, item.the_send) depth 60

parts_sync : IsSync P.the_row
parts_sync = search (crosses, sendable, matcher_sync, seq.the_sync, span.the_sync, condition.the_sync, item.the_sync) depth 60

evaluator_inside_send : IsSend I.the_row
evaluator_inside_send = declared_send I.the_type (search (crosses, sendable) depth 40, (search (crosses, sendable) depth 40, (search (sendable, side.the_send) depth 40, (search (sendable, parts_send) depth 40, tt))))

evaluator_inside_sync : IsSync I.the_row
evaluator_inside_sync = declared_sync I.the_type (search (crosses, sendable) depth 40, (search (crosses, sendable) depth 40, (search (sendable, side.the_sync) depth 40, (search (sendable, parts_sync) depth 40, tt))))

evaluator_send : IsSend E.the_row
evaluator_send = search (sendable, evaluator_inside_send) depth 20

evaluator_sync : IsSync E.the_row
evaluator_sync = search (sendable, evaluator_inside_sync) depth 20

policy_inside_send : IsSend HI.the_row
policy_inside_send = declared_send HI.the_type (search (sendable, mark.the_send) depth 20, (search (sendable, mark.the_send) depth 20, (search (sendable, shared.the_send, policy.the_send, policy.the_sync) depth 40, (search (sendable, evaluator_send) depth 40, tt))))

policy_inside_sync : IsSync HI.the_row
policy_inside_sync = declared_sync HI.the_type (search (sendable, mark.the_sync) depth 20, (search (sendable, mark.the_sync) depth 20, (search (sendable, shared.the_sync, policy.the_send, policy.the_sync) depth 40, (search (sendable, evaluator_sync) depth 40, tt))))

pub held_policy_send : IsSend H.the_row
held_policy_send = search (sendable, policy_inside_send) depth 20

pub held_policy_sync : IsSync H.the_row
held_policy_sync = search (sendable, policy_inside_sync) depth 20

row_inside_send : IsSend RI.the_row
row_inside_send = declared_send RI.the_type (search (sendable, row.the_send) depth 40, (search (sendable, matcher_send) depth 40, tt))

row_inside_sync : IsSync RI.the_row
row_inside_sync = declared_sync RI.the_type (search (sendable, row.the_sync) depth 40, (search (sendable, matcher_sync) depth 40, tt))

pub held_row_send : IsSend R.the_row
held_row_send = search (sendable, row_inside_send) depth 20

pub held_row_sync : IsSync R.the_row
held_row_sync = search (sendable, row_inside_sync) depth 20

module _ (H : RattleType) (g : Ghosts H.Denot) (s : IsSend H) (y : IsSync H) where
  slot_inside_send : IsSend (TI.the_row H g)
  slot_inside_send = declared_send (TI.the_type H g) (search (sendable) depth 20, (search (sendable) depth 20, (search (crosses, sendable, s, y) depth 40, tt)))

  slot_inside_sync : IsSync (TI.the_row H g)
  slot_inside_sync = declared_sync (TI.the_type H g) (search (sendable) depth 20, (search (sendable) depth 20, (search (crosses, sendable, s, y) depth 40, tt)))

  slot_send : IsSend (T.the_row H g)
  slot_send = search (sendable, slot_inside_send) depth 20

  slot_sync : IsSync (T.the_row H g)
  slot_sync = search (sendable, slot_inside_sync) depth 20

  page_inside_send : IsSend (GI.the_row H g)
  page_inside_send = declared_send (GI.the_type H g) (search (crosses, sendable, slot_send, slot_sync) depth 40, tt)

  page_inside_sync : IsSync (GI.the_row H g)
  page_inside_sync = declared_sync (GI.the_type H g) (search (crosses, sendable, slot_send, slot_sync) depth 40, tt)

  page_send : IsSend (G.the_row H g)
  page_send = search (sendable, page_inside_send) depth 20

  page_sync : IsSync (G.the_row H g)
  page_sync = search (sendable, page_inside_sync) depth 20

  slots_inside_send : IsSend (LI.the_row H g)
  slots_inside_send = declared_send (LI.the_type H g) (search (crosses, sendable, page_send) depth 40, tt)

  slots_inside_sync : IsSync (LI.the_row H g)
  slots_inside_sync = declared_sync (LI.the_type H g) (search (crosses, sendable, page_sync) depth 40, tt)

  slots_send : IsSend (L.the_row H g)
  slots_send = search (sendable, slots_inside_send) depth 20

  slots_sync : IsSync (L.the_row H g)
  slots_sync = search (sendable, slots_inside_sync) depth 20

  shelf_inside_send : IsSend (FI.the_row H g)
  shelf_inside_send = declared_send (FI.the_type H g) (search (sendable, slots_send) depth 20, (search (sendable, index_send) depth 20, tt))

  shelf_inside_sync : IsSync (FI.the_row H g)
  shelf_inside_sync = declared_sync (FI.the_type H g) (search (sendable, slots_sync) depth 20, (search (sendable, index_sync) depth 20, tt))

  shelf_send : IsSend (F.the_row H g)
  shelf_send = search (sendable, shelf_inside_send) depth 20

  shelf_sync : IsSync (F.the_row H g)
  shelf_sync = search (sendable, shelf_inside_sync) depth 20

policies_inside_send : IsSend SI.the_row
policies_inside_send = declared_send SI.the_type (search (crosses, sendable, shelf_send, held_policy_send, held_policy_sync) depth 60, (search (crosses, sendable, seq.the_send, seq.the_sync, level.the_send, level.the_sync) depth 40, (search (sendable, side.the_send) depth 40, (search (crosses, sendable) depth 40, tt))))

policies_inside_sync : IsSync SI.the_row
policies_inside_sync = declared_sync SI.the_type (search (crosses, sendable, shelf_sync, held_policy_send, held_policy_sync) depth 60, (search (crosses, sendable, seq.the_send, seq.the_sync, level.the_send, level.the_sync) depth 40, (search (sendable, side.the_sync) depth 40, (search (crosses, sendable) depth 40, tt))))

pub policies_send : IsSend S.the_row
policies_send = search (sendable, policies_inside_send) depth 20

pub policies_sync : IsSync S.the_row
policies_sync = search (sendable, policies_inside_sync) depth 20

rows_inside_send : IsSend WI.the_row
rows_inside_send = declared_send WI.the_type (search (crosses, sendable, shelf_send, held_row_send, held_row_sync) depth 60, tt)

rows_inside_sync : IsSync WI.the_row
rows_inside_sync = declared_sync WI.the_type (search (crosses, sendable, shelf_sync, held_row_send, held_row_sync) depth 60, tt)

pub rows_send : IsSend W.the_row
rows_send = search (sendable, rows_inside_send) depth 20

pub rows_sync : IsSync W.the_row
rows_sync = search (sendable, rows_inside_sync) depth 20
