-- What each route asks: a command with the part of a download that is answered, or a decision.
use Rattle.std.specs.Prelude.{ℕ, ℤ, pos, List, None, Result, Ok, Err}
use Rattle.std.specs.Str.{chars}
use Rattle.std.specs.Str.Parse.{digits_value}
use Rattle.rg_base.specs.declared.numbers.Moment.{Moment}
use Rattle.rg_base.specs.declared.numbers.PolicyId.{PolicyId}
use Rattle.rg_policy.specs.declared.policy.Policy.{Policy}
use Rattle.rg_cmd.specs.declared.ask.AdminCommand.{AdminCommand}
use Rattle.rg_cmd.specs.declared.ask.AdminCommand.TheVariants as command
use Rattle.rg_cmd.specs.declared.download.Part.{Part}
use Rattle.rg_cmd.specs.declared.download.Part.TheVariants as part
use Rattle.rg_cmd.specs.declared.state.ServiceRow.{ServiceRow}
use Rattle.rg_cmd.specs.declared.state.UserRow.{UserRow}
use Rattle.rg_json.specs.declared.fault.Fault.{Fault}
use Rattle.rg_json.specs.Reading.{reading}
use Rattle.rg_wire.specs.Records.{policy_of, request_of, role_of, service_def_of, tag_row_of, zone_of}
use Rattle.rg_wire.specs.Shapes.{policy_shape, request_shape, role_shape, service_shape, service_def_shape, tag_row_shape, user_shape, zone_shape}
use Rattle.rg_cmd_wire.specs.Rows.{service_of, user_of}
use Rattle.rg_rest.specs.declared.call.Call.{Call}
use Rattle.rg_rest.specs.declared.call.Call.TheVariants.{Admin, Decide}
use Rattle.rg_rest.specs.declared.route.Route.{Route}
use Rattle.rg_rest.specs.declared.route.Route.TheVariants as the
use Rattle.rg_rest.specs.Query.{known_version}

-- a command that is no download
abbrev pub plain : AdminCommand → Call
plain c = Admin c part.Policies

-- the number that an id's digits are
unfoldable pub id_of : List ℕ → ℤ
id_of digits = pos (digits_value 10 digits)

abbrev pub policy_id : List ℕ → PolicyId
policy_id digits = record { 0 = id_of digits }

-- the name or the id of the path counts

abbrev pub update_service : List ℕ → ServiceRow → Call
update_service name service = plain (command.UpdateService (record service { name = chars name }))

abbrev pub update_policy : PolicyId → Policy → Call
update_policy id policy = plain (command.UpdatePolicy (record policy { id = id }))

abbrev pub put_user : List ℕ → UserRow → Call
put_user name user = plain (command.PutUser (record user { name = chars name }))

-- what is asked of the part that is answered, from the version that the query says; of the others all is asked, and not answered
unfoldable pub download : Part → List ℕ → List ℕ → Call
download part.Policies end query = Admin (command.Download (chars end) (known_version query) None None) part.Policies
download part.Tags end query = Admin (command.Download (chars end) None (known_version query) None) part.Tags
download part.Roles end query = Admin (command.Download (chars end) None None (known_version query)) part.Roles

-- what is made of a body, or the body's first fault
abbrev pub call_from : {X : Type 0} → (X → Call) → Result X Fault → Result Call Fault
call_from make (Ok x) = Ok (make x)
call_from make (Err fault) = Err fault

-- what a route asks with the end of its path, the query and the body; a request without a time is made now
unfoldable pub asks : Route → List ℕ → List ℕ → List ℕ → Moment → Result Call Fault
asks the.PutDef end query body now = call_from (λ def. plain (command.PutDef def)) (reading service_def_shape service_def_of body)
asks the.CreateService end query body now = call_from (λ service. plain (command.CreateService service)) (reading service_shape service_of body)
asks the.UpdateService end query body now = call_from (update_service end) (reading service_shape service_of body)
asks the.DeleteService end query body now = Ok (plain (command.DeleteService (chars end)))
asks the.CreatePolicy end query body now = call_from (λ policy. plain (command.CreatePolicy policy)) (reading policy_shape policy_of body)
asks the.GetPolicy end query body now = Ok (plain (command.GetPolicy (policy_id end)))
asks the.UpdatePolicy end query body now = call_from (update_policy (policy_id end)) (reading policy_shape policy_of body)
asks the.DeletePolicy end query body now = Ok (plain (command.DeletePolicy (policy_id end)))
asks the.ListPolicies end query body now = Ok (plain (command.ListPolicies (chars end)))
asks the.PutRole end query body now = call_from (λ role. plain (command.PutRole role)) (reading role_shape role_of body)
asks the.DeleteRole end query body now = Ok (plain (command.DeleteRole (chars end)))
asks the.PutZone end query body now = call_from (λ zone. plain (command.PutZone zone)) (reading zone_shape zone_of body)
asks the.DeleteZone end query body now = Ok (plain (command.DeleteZone (chars end)))
asks the.PutTags end query body now = call_from (λ row. plain (command.PutTags (id_of end) row)) (reading tag_row_shape tag_row_of body)
asks the.DeleteTags end query body now = Ok (plain (command.DeleteTags (id_of end)))
asks the.PutUser end query body now = call_from (put_user end) (reading user_shape user_of body)
asks the.DeleteUser end query body now = Ok (plain (command.DeleteUser (chars end)))
asks the.DownloadPolicies end query body now = Ok (download part.Policies end query)
asks the.DownloadTags end query body now = Ok (download part.Tags end query)
asks the.DownloadRoles end query body now = Ok (download part.Roles end query)
asks the.Decide end query body now = call_from Decide (reading request_shape (request_of now) body)
