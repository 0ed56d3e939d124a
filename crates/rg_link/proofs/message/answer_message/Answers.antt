use Rattle.std.proofs.Common.{refl, sym, ◌∙◌}
use Rattle.rg_link.proofs.Steps.{served_call, served_decision, served_itself, unserved_call, unserved_decision, unserved_itself, unserved_none}
use Rattle.rg_link.proofs.message.answer_message.Goals as goal

pub returns-in-Ok-clause-served : goal.returns-in-Ok-clause-served
returns-in-Ok-clause-served g c =
    let a = c.in-Ok-Admin in
    served_call _ _ _ _ c.now-now.result c.now-now.ensures a.command a.part _ _ refl refl refl (sym a.ensures.call ∙ a.field-0-is) c.in-Ok.ensures.served

pub returns-in-Err-answer_call-clause-unserved : goal.returns-in-Err-answer_call-clause-unserved
returns-in-Err-answer_call-clause-unserved g c =
    let a = c.in-Ok-Admin in
    unserved_call _ _ _ _ c.now-now.result c.now-now.ensures a.command a.part _ _ refl refl refl (sym a.ensures.call ∙ a.field-0-is) c.in-Err-answer_call.ensures.unserved

pub returns-in-Ok-answer_decision-clause-served : goal.returns-in-Ok-answer_decision-clause-served
returns-in-Ok-answer_decision-clause-served g c =
    let a = c.in-Ok-Decide in
    served_decision _ _ _ _ c.now-now.result c.now-now.ensures a.request _ _ refl (sym a.ensures.call ∙ a.field-0-is) c.in-Ok-answer_decision.ensures.served

pub returns-in-Err-answer_decision-clause-unserved : goal.returns-in-Err-answer_decision-clause-unserved
returns-in-Err-answer_decision-clause-unserved g c =
    let a = c.in-Ok-Decide in
    let x = c.in-Err-answer_decision.ensures.unserved in
    unserved_decision _ _ _ _ c.now-now.result c.now-now.ensures a.request _ _ refl (sym a.ensures.call ∙ a.field-0-is) x.0 x.1

pub send-requires-after_bounds : goal.send-requires-after_bounds
send-requires-after_bounds g c = λ κs h. rw c.in-Ok-Answer.field-0-is at c.in-Ok-Answer.ensures.status

pub returns-in-Ok-send-clause-served : goal.returns-in-Ok-send-clause-served
returns-in-Ok-send-clause-served g c =
    let a = c.in-Ok-Answer in
    served_itself _ _ _ _ c.now-now.result c.now-now.ensures a.response _ _ refl refl refl refl (sym a.ensures.call ∙ a.field-0-is) c.in-Ok-send.ensures.ok

pub returns-in-Err-send-clause-unserved : goal.returns-in-Err-send-clause-unserved
returns-in-Err-send-clause-unserved g c =
    let a = c.in-Ok-Answer in
    unserved_itself _ _ _ _ c.now-now.result c.now-now.ensures a.response _ _ refl refl refl refl (sym a.ensures.call ∙ a.field-0-is) c.in-Err-send.ensures.err

pub returns-in-Err-clause-unserved : goal.returns-in-Err-clause-unserved
returns-in-Err-clause-unserved g c = unserved_none _ _ _ _ c.now-now.result c.now-now.ensures _ refl refl refl refl
