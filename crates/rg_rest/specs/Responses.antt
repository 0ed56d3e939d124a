-- What is answered to a call that was worked.
use Rattle.std.specs.Prelude.{ℕ, Bool, true, false, [], codes, if◌then◌else◌}
use Rattle.http.specs.StatusCode.{IsStatusCode}
use Rattle.rg_http.specs.declared.message.Response.{Response}
use Rattle.rg_facts.specs.declared.decision.Decision.{Decision}
use Rattle.rg_cmd.specs.declared.ask.AdminCommand.{AdminCommand}
use Rattle.rg_cmd.specs.declared.ask.AdminCommand.TheVariants as command
use Rattle.rg_cmd.specs.declared.ask.AdminReply.{AdminReply}
use Rattle.rg_cmd.specs.declared.ask.AdminReply.TheVariants.{Done, Kept, Found, Listed, Downloaded, Refused}
use Rattle.rg_cmd.specs.declared.download.Download.{Download}
use Rattle.rg_cmd.specs.declared.download.Part.{Part}
use Rattle.rg_cmd.specs.declared.download.Part.TheVariants.{Policies, Tags, Roles}
use Rattle.rg_cmd.specs.declared.download.PolicyPart.{PolicyPart}
use Rattle.rg_cmd.specs.declared.download.PolicyPart.TheVariants as policies
use Rattle.rg_cmd.specs.declared.download.RolePart.{RolePart}
use Rattle.rg_cmd.specs.declared.download.RolePart.TheVariants as roles
use Rattle.rg_cmd.specs.declared.download.TagPart.{TagPart}
use Rattle.rg_cmd.specs.declared.download.TagPart.TheVariants as tags
use Rattle.rg_cmd.specs.declared.rule.Rule.{Rule}
use Rattle.rg_cmd.specs.declared.rule.Rule.TheVariants as rule
use Rattle.rg_wire.specs.Printing.{decision_text, policy_text}
use Rattle.rg_cmd_wire.specs.PrintedParts.{policy_part_text, role_part_text, tag_part_text}
use Rattle.rg_cmd_wire.specs.PrintedReplies.{kept_text, policies_text, refusal_text}
use Rattle.rg_rest.specs.declared.call.Call.{Call}
use Rattle.rg_rest.specs.declared.call.Call.TheVariants.{Admin, Decide, Answer}
use Rattle.rg_rest.specs.declared.response.AnswerForm.{AnswerForm}
use Rattle.rg_rest.specs.Bodies.{answer}

-- ---- the call

-- the call is a command
abbrev pub is_command : Call → Bool
is_command (Admin c part) = true
is_command (Decide q) = false
is_command (Answer r) = false

-- an answer has a status that can be printed
abbrev pub HasStatus : Call → Type 0
HasStatus (Admin c part) = Unit {0}
HasStatus (Decide q) = Unit {0}
HasStatus (Answer r) = IsStatusCode r.status

-- the command deletes something: its route has the method DELETE
unfoldable pub deletes : AdminCommand → Bool
deletes (command.DeleteService name) = true
deletes (command.DeletePolicy id) = true
deletes (command.DeleteRole name) = true
deletes (command.DeleteZone name) = true
deletes (command.DeleteTags id) = true
deletes (command.DeleteUser name) = true
deletes _ = false

-- ---- the reply

-- a count of entries at its end is 503, what isn't there 404, what the actor may not do 403, and any other rule 400
unfoldable pub refusal_status : Rule → ℕ
refusal_status rule.L1 = 503
refusal_status rule.E1 = 404
refusal_status rule.E2 = 404
refusal_status rule.E3 = 404
refusal_status rule.E4 = 404
refusal_status rule.E5 = 404
refusal_status rule.E6 = 404
refusal_status rule.E7 = 404
refusal_status rule.A1 = 403
refusal_status rule.A2 = 403
refusal_status rule.A3 = 403
refusal_status rule.A4 = 403
refusal_status rule.A5 = 403
refusal_status _ = 400

abbrev pub done : Bool → Bool → Response
done deletes close = if deletes then answer 204 [] close else answer 200 (codes "{\"done\":true}") close

-- a part that is as the sender knows it has no body
abbrev pub policies_answer : PolicyPart → Bool → Response
policies_answer policies.Unchanged close = answer 304 [] close
policies_answer (policies.Delta delta) close = answer 200 (policy_part_text (policies.Delta delta)) close
policies_answer (policies.Whole whole) close = answer 200 (policy_part_text (policies.Whole whole)) close

abbrev pub tags_answer : TagPart → Bool → Response
tags_answer tags.Unchanged close = answer 304 [] close
tags_answer (tags.Delta delta) close = answer 200 (tag_part_text (tags.Delta delta)) close
tags_answer (tags.Whole whole) close = answer 200 (tag_part_text (tags.Whole whole)) close

abbrev pub roles_answer : RolePart → Bool → Response
roles_answer roles.Unchanged close = answer 304 [] close
roles_answer (roles.Whole whole) close = answer 200 (role_part_text (roles.Whole whole)) close

-- the part that is asked, and no other
abbrev pub part_answer : Part → Download → Bool → Response
part_answer Policies download close = policies_answer download.policies close
part_answer Tags download close = tags_answer download.tags close
part_answer Roles download close = roles_answer download.roles close

-- what the answer to a command follows from beside its reply: whether it deletes, and the part that its route answers
abbrev pub answer_form : AdminCommand → Part → AnswerForm
answer_form c part = record { deletes = deletes c; part = part }

-- what is answered in this form
abbrev pub reply_answer : AnswerForm → AdminReply → Bool → Response
reply_answer form Done close = done form.deletes close
reply_answer form (Kept id version) close = answer 200 (kept_text id version) close
reply_answer form (Found policy) close = answer 200 (policy_text policy) close
reply_answer form (Listed ps) close = answer 200 (policies_text ps) close
reply_answer form (Downloaded download) close = part_answer form.part download close
reply_answer form (Refused rule) close = answer (refusal_status rule) (refusal_text rule) close

-- what answers itself is answered so, and no reply is made to a decision
unfoldable pub response_of : Call → AdminReply → Bool → Response
response_of (Admin c part) reply close = reply_answer (answer_form c part) reply close
response_of (Decide q) reply close = answer 200 [] close
response_of (Answer r) reply close = r

-- a decision is answered by its line, without the LF
unfoldable pub decision_response : Decision → Bool → Response
decision_response decision close = answer 200 (decision_text decision) close
