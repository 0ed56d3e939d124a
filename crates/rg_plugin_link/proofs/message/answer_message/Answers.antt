use Rattle.std.proofs.Common.{refl}
use Rattle.rg_plugin_link.proofs.Steps.{served_decision, served_response, unserved_decision, unserved_none, unserved_response}
use Rattle.rg_plugin_link.proofs.message.answer_message.Goals as goal

pub send-requires-after_bounds : goal.send-requires-after_bounds
send-requires-after_bounds g c = λ κs h. (rw c.in-Ok-Response.field-0-is at c.in-Ok-Response.ensures).0

pub returns-in-Ok-clause-served : goal.returns-in-Ok-clause-served
returns-in-Ok-clause-served g c =
    let a = rw c.in-Ok-Response.field-0-is at c.in-Ok-Response.ensures in
    served_response _ _ _ _ c.now-now.result c.now-now.ensures c.in-Ok-Response.response _ _ refl refl refl a.1 c.in-Ok.ensures.ok

pub returns-in-Err-send-clause-unserved : goal.returns-in-Err-send-clause-unserved
returns-in-Err-send-clause-unserved g c =
    let a = rw c.in-Ok-Response.field-0-is at c.in-Ok-Response.ensures in
    unserved_response _ _ _ _ c.now-now.result c.now-now.ensures c.in-Ok-Response.response _ _ refl refl refl a.1 c.in-Err-send.ensures.err

pub returns-in-Ok-answer_decision-clause-served : goal.returns-in-Ok-answer_decision-clause-served
returns-in-Ok-answer_decision-clause-served g c =
    let a = rw c.in-Ok-Decision.field-0-is at c.in-Ok-Decision.ensures in
    served_decision _ _ _ _ c.now-now.result c.now-now.ensures c.in-Ok-Decision.request _ _ a.0 a.1 c.in-Ok-answer_decision.ensures.served

pub returns-in-Err-answer_decision-clause-unserved : goal.returns-in-Err-answer_decision-clause-unserved
returns-in-Err-answer_decision-clause-unserved g c =
    let a = rw c.in-Ok-Decision.field-0-is at c.in-Ok-Decision.ensures in
    let x = c.in-Err-answer_decision.ensures.unserved in
    unserved_decision _ _ _ _ c.now-now.result c.now-now.ensures c.in-Ok-Decision.request _ _ a.0 a.1 x.0 x.1

pub returns-in-Err-clause-unserved : goal.returns-in-Err-clause-unserved
returns-in-Err-clause-unserved g c = unserved_none _ _ _ _ c.now-now.result c.now-now.ensures _ refl refl refl
