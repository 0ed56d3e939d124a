-- The statuses of all answers can be printed.
use Rattle.std.proofs.Common.{◌≡◌, ℕ, List, Bool, true, false, Option, Some, None, Result, Ok, Err, cond, subst, sym, arith}
use Rattle.http.specs.StatusCode.{IsStatusCode}
use Rattle.rg_base.specs.declared.numbers.Moment.{Moment}
use Rattle.rg_policy.specs.declared.policy.Policy.{Policy}
use Rattle.rg_defs.specs.declared.service_def.ServiceDef.{ServiceDef}
use Rattle.rg_roles.specs.declared.row.RoleRow.{RoleRow}
use Rattle.rg_tags.specs.declared.row.TagRow.{TagRow}
use Rattle.rg_zone_rules.specs.declared.row.ZoneRow.{ZoneRow}
use Rattle.rg_cmd.specs.declared.state.ServiceRow.{ServiceRow}
use Rattle.rg_http.specs.declared.message.Message.{Message}
use Rattle.rg_http.specs.declared.message.Response.{Response}
use Rattle.rg_cmd.specs.declared.ask.AdminCommand.{AdminCommand}
use Rattle.rg_cmd.specs.declared.ask.AdminCommand.TheVariants as command
use Rattle.rg_cmd.specs.declared.ask.AdminReply.{AdminReply}
use Rattle.rg_cmd.specs.declared.ask.AdminReply.TheVariants.{Done, Kept, Found, Listed, Downloaded, Refused}
use Rattle.rg_cmd.specs.declared.download.Download.{Download}
use Rattle.rg_cmd.specs.declared.download.Part.{Part}
use Rattle.rg_cmd.specs.declared.download.Part.TheVariants.{Policies, Tags, Roles}
use Rattle.rg_cmd.specs.declared.download.PolicyPart.{PolicyPart}
use Rattle.rg_cmd.specs.declared.download.PolicyPart.TheVariants as policies
use Rattle.rg_cmd.specs.declared.download.RolePart.{RolePart}
use Rattle.rg_cmd.specs.declared.download.RolePart.TheVariants as roles
use Rattle.rg_cmd.specs.declared.download.TagPart.{TagPart}
use Rattle.rg_cmd.specs.declared.download.TagPart.TheVariants as tags
use Rattle.rg_cmd.specs.declared.rule.Rule.{Rule}
use Rattle.rg_cmd.specs.declared.rule.Rule.TheVariants as rule
use Rattle.rg_json.specs.declared.fault.Fault.{Fault}
use Rattle.rg_rest.specs.declared.call.Call.{Call}
use Rattle.rg_rest.specs.declared.call.Call.TheVariants.{Decide}
use Rattle.rg_rest.specs.declared.response.AnswerForm.{AnswerForm}
use Rattle.rg_rest.specs.declared.route.Route.{Route}
use Rattle.rg_rest.specs.declared.route.Route.TheVariants as the
use Rattle.rg_json.specs.Reading.{reading}
use Rattle.rg_wire.specs.Records.{policy_of, request_of, role_of, service_def_of, tag_row_of, zone_of}
use Rattle.rg_wire.specs.Shapes.{policy_shape, request_shape, role_shape, service_shape, service_def_shape, tag_row_shape, user_shape, zone_shape}
use Rattle.rg_cmd_wire.specs.Rows.{service_of, user_of}
use Rattle.rg_rest.specs.Asks.{asks, call_from, download, id_of, plain, policy_id, put_user, update_policy, update_service}
use Rattle.rg_rest.specs.Paths.{end_of, is_known}
use Rattle.rg_rest.specs.Responses.{HasStatus, deletes, done, part_answer, policies_answer, refusal_status, reply_answer, roles_answer, tags_answer}
use Rattle.rg_rest.specs.Routes.{asked, call_of, has_user, path_of, query_of, taken}

-- ---- of a reply

pub refusal_known : (r : Rule) → IsStatusCode (refusal_status r)
unfolding refusal_status
refusal_known rule.L1 = omega arith
refusal_known rule.E1 = omega arith
refusal_known rule.E2 = omega arith
refusal_known rule.E3 = omega arith
refusal_known rule.E4 = omega arith
refusal_known rule.E5 = omega arith
refusal_known rule.E6 = omega arith
refusal_known rule.E7 = omega arith
refusal_known rule.A1 = omega arith
refusal_known rule.A2 = omega arith
refusal_known rule.A3 = omega arith
refusal_known rule.A4 = omega arith
refusal_known rule.A5 = omega arith
refusal_known _ = omega arith

done_known : (d : Bool) (close : Bool) → IsStatusCode (done d close).status
done_known true close = omega arith
done_known false close = omega arith

policies_known : (p : PolicyPart) (close : Bool) → IsStatusCode (policies_answer p close).status
policies_known policies.Unchanged close = omega arith
policies_known (policies.Delta d) close = omega arith
policies_known (policies.Whole w) close = omega arith

tags_known : (p : TagPart) (close : Bool) → IsStatusCode (tags_answer p close).status
tags_known tags.Unchanged close = omega arith
tags_known (tags.Delta d) close = omega arith
tags_known (tags.Whole w) close = omega arith

roles_known : (p : RolePart) (close : Bool) → IsStatusCode (roles_answer p close).status
roles_known roles.Unchanged close = omega arith
roles_known (roles.Whole w) close = omega arith

part_known : (part : Part) (d : Download) (close : Bool) → IsStatusCode (part_answer part d close).status
part_known Policies d close = policies_known d.policies close
part_known Tags d close = tags_known d.tags close
part_known Roles d close = roles_known d.roles close

reply_known : (form : AnswerForm) (reply : AdminReply) (close : Bool) → IsStatusCode (reply_answer form reply close).status
reply_known form Done close = done_known form.deletes close
reply_known form (Kept id version) close = omega arith
reply_known form (Found policy) close = omega arith
reply_known form (Listed ps) close = omega arith
reply_known form (Downloaded d) close = part_known form.part d close
reply_known form (Refused r) close = refusal_known r

pub reply_status : (form : AnswerForm) (reply : AdminReply) (close : Bool) (r : Response) → r ≡ reply_answer form reply close → IsStatusCode r.status
reply_status form reply close r e = subst (λ (x : Response). IsStatusCode x.status) (sym e) (reply_known form reply close)

-- ---- of what answers itself

-- no route asks an answer
abbrev AsksNone : Result Call Fault → Type 0
AsksNone (Ok call) = HasStatus call
AsksNone (Err fault) = Unit {0}

made_none : {X : Type 0} (make : X → Call) → ((x : X) → HasStatus (make x)) → (read : Result X Fault) → AsksNone (call_from make read)
made_none make h (Ok x) = h x
made_none make h (Err fault) = tt

download_none : (part : Part) (end query : List ℕ) → HasStatus (download part end query)
unfolding download
download_none Policies end query = tt
download_none Tags end query = tt
download_none Roles end query = tt

asks_none : (r : Route) (end query body : List ℕ) (now : Moment) → AsksNone (asks r end query body now)
unfolding asks
asks_none the.PutDef end query body now = made_none (λ (def : ServiceDef). plain (command.PutDef def)) (λ x. tt) (reading service_def_shape service_def_of body)
asks_none the.CreateService end query body now = made_none (λ (service : ServiceRow). plain (command.CreateService service)) (λ x. tt) (reading service_shape service_of body)
asks_none the.UpdateService end query body now = made_none (update_service end) (λ x. tt) (reading service_shape service_of body)
asks_none the.DeleteService end query body now = tt
asks_none the.CreatePolicy end query body now = made_none (λ (policy : Policy). plain (command.CreatePolicy policy)) (λ x. tt) (reading policy_shape policy_of body)
asks_none the.GetPolicy end query body now = tt
asks_none the.UpdatePolicy end query body now = made_none (update_policy (policy_id end)) (λ x. tt) (reading policy_shape policy_of body)
asks_none the.DeletePolicy end query body now = tt
asks_none the.ListPolicies end query body now = tt
asks_none the.PutRole end query body now = made_none (λ (role : RoleRow). plain (command.PutRole role)) (λ x. tt) (reading role_shape role_of body)
asks_none the.DeleteRole end query body now = tt
asks_none the.PutZone end query body now = made_none (λ (zone : ZoneRow). plain (command.PutZone zone)) (λ x. tt) (reading zone_shape zone_of body)
asks_none the.DeleteZone end query body now = tt
asks_none the.PutTags end query body now = made_none (λ (row : TagRow). plain (command.PutTags (id_of end) row)) (λ x. tt) (reading tag_row_shape tag_row_of body)
asks_none the.DeleteTags end query body now = tt
asks_none the.PutUser end query body now = made_none (put_user end) (λ x. tt) (reading user_shape user_of body)
asks_none the.DeleteUser end query body now = tt
asks_none the.DownloadPolicies end query body now = download_none Policies end query
asks_none the.DownloadTags end query body now = download_none Tags end query
asks_none the.DownloadRoles end query body now = download_none Roles end query
asks_none the.Decide end query body now = made_none Decide (λ x. tt) (reading request_shape (request_of now) body)

asked_known : (close : Bool) (read : Result Call Fault) → AsksNone read → HasStatus (asked close read)
asked_known close (Ok call) h = h
asked_known close (Err fault) h = omega arith

named_known : (q : Bool) (x y : Call) → HasStatus x → HasStatus y → HasStatus (cond q x y)
named_known true x y h k = h
named_known false x y h k = k

taken_known : (m : Message) (now : Moment) (o : Option Route) → HasStatus (taken m now o)
taken_known m now None = omega arith
taken_known m now (Some r) = named_known (has_user m.user) _ _ (asked_known m.close _ (asks_none r (end_of r (path_of m)) (query_of m) m.body.items now)) (omega arith)

call_known : (plugin : List ℕ) (m : Message) (now : Moment) → HasStatus (call_of plugin m now)
unfolding call_of
call_known plugin m now = named_known (is_known plugin (path_of m)) _ _ (taken_known m now _) (omega arith)

pub call_status : (plugin : List ℕ) (m : Message) (now : Moment) (c : Call) → c ≡ call_of plugin m now → HasStatus c
call_status plugin m now c e = subst HasStatus (sym e) (call_known plugin m now)

pub ruleset statuses = (reply_status, refusal_known, call_status)
