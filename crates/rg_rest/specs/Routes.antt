-- What a message asks: the order in which it is refused, and the route that takes it.
use Rattle.std.specs.Prelude.{ℕ, ◌==◌, ◌&&◌, Bool, false, List, Option, Some, None, Result, Ok, Err, if◌then◌else◌}
use Rattle.std.specs.List.{before_first, after_first}
use Rattle.std.specs.Str.{chars, encode_utf8_all, is_utf8}
use Rattle.rg_base.specs.Listed.{Listed}
use Rattle.rg_base.specs.Texts.{is_name}
use Rattle.rg_base.specs.declared.numbers.Moment.{Moment}
use Rattle.rg_http.specs.declared.message.Message.{Message}
use Rattle.rg_json.specs.declared.fault.Fault.{Fault}
use Rattle.rg_rest.specs.declared.call.Call.{Call}
use Rattle.rg_rest.specs.declared.call.Call.TheVariants.{Answer}
use Rattle.rg_rest.specs.declared.route.Route.{Route}
use Rattle.rg_rest.specs.Asks.{asks}
use Rattle.rg_rest.specs.Bodies.{no_path, no_method, no_user, no_record}
use Rattle.rg_rest.specs.Paths.{end_of, is_known, route_of}

-- ---- the target, in bytes; nothing in it is decoded

-- the path ends before the first `?`
abbrev pub path_of : Message → List ℕ
path_of m = before_first (λ b. b == 63) (encode_utf8_all m.target)

-- and the query stands behind it
abbrev pub query_of : Message → List ℕ
query_of m = after_first (λ b. b == 63) (encode_utf8_all m.target)

-- ---- who asks

-- the actor has 1 to 256 characters
abbrev pub is_actor : List ℕ → Bool
is_actor user = is_utf8 user && is_name (chars user)

abbrev pub has_user : Option (Listed ℕ) → Bool
has_user None = false
has_user (Some user) = is_actor user.items

-- ---- what is asked, or answered: first that the path is unknown, then the method, then the actor, then the body

abbrev pub asked : Bool → Result Call Fault → Call
asked close (Ok call) = call
asked close (Err fault) = Answer (no_record fault close)

abbrev pub taken : Message → Moment → Option Route → Call
taken m now None = Answer (no_method m.close)
taken m now (Some r) =
    if has_user m.user then asked m.close (asks r (end_of r (path_of m)) (query_of m) m.body.items now) else Answer (no_user m.close)

-- the plugin's name, the message, and when it came
unfoldable pub call_of : List ℕ → Message → Moment → Call
call_of plugin m now =
    if is_known plugin (path_of m) then taken m now (route_of plugin (path_of m) (encode_utf8_all m.method)) else Answer (no_path m.close)
