-- What is asked by a message, from what was found of it.
use Rattle.std.proofs.Common.{◌≡◌, ◌∙◌, ◌&&◌, ℕ, List, Bool, true, false, Some, None, Result, refl, ap, subst, sym}
use Rattle.std.specs.Str.{IsUtf8, chars, encode_utf8_all, is_utf8}
use Rattle.std.proofs.lemmas.Str.{IsUtf8-from_is_utf8, is_utf8-from_IsUtf8}
use Rattle.rg_base.specs.Texts.{is_name}
use Rattle.rg_base.specs.declared.numbers.Moment.{Moment}
use Rattle.rg_http.specs.declared.message.Message.{Message}
use Rattle.rg_json.specs.declared.fault.Fault.{Fault}
use Rattle.rg_rest.specs.declared.call.Call.{Call}
use Rattle.rg_rest.specs.declared.call.Call.TheVariants.{Answer}
use Rattle.rg_rest.specs.declared.route.Route.{Route}
use Rattle.rg_rest.specs.Asks.{asks}
use Rattle.rg_rest.specs.Bodies.{no_path, no_method, no_user}
use Rattle.rg_rest.specs.Paths.{end_of, is_known, route_of}
use Rattle.rg_rest.specs.Patterns.{IsRoute}
use Rattle.rg_rest.specs.Routes.{asked, call_of, has_user, is_actor, path_of, query_of, taken}

-- by the path
pub call_unknown : (plugin : List ℕ) (m : Message) (now : Moment) → is_known plugin (path_of m) ≡ false → call_of plugin m now ≡ Answer (no_path m.close)
unfolding call_of
call_unknown plugin m now e = rw e refl

known_call : (plugin : List ℕ) (m : Message) (now : Moment) → is_known plugin (path_of m) ≡ true
    → call_of plugin m now ≡ taken m now (route_of plugin (path_of m) (encode_utf8_all m.method))
unfolding call_of
known_call plugin m now e = rw e refl

-- by the method
pub call_refused : (plugin : List ℕ) (m : Message) (now : Moment) → is_known plugin (path_of m) ≡ true → route_of plugin (path_of m) (encode_utf8_all m.method) ≡ None
    → call_of plugin m now ≡ Answer (no_method m.close)
call_refused plugin m now e none = known_call plugin m now e ∙ ap (taken m now) none

-- by the actor
call_routed : (plugin : List ℕ) (m : Message) (now : Moment) (r : Route) → is_known plugin (path_of m) ≡ true → route_of plugin (path_of m) (encode_utf8_all m.method) ≡ Some r
    → call_of plugin m now ≡ taken m now (Some r)
call_routed plugin m now r e found = known_call plugin m now e ∙ ap (taken m now) found

pub call_unnamed : (plugin : List ℕ) (m : Message) (now : Moment) (r : Route) → is_known plugin (path_of m) ≡ true → route_of plugin (path_of m) (encode_utf8_all m.method) ≡ Some r
    → has_user m.user ≡ false → call_of plugin m now ≡ Answer (no_user m.close)
call_unnamed plugin m now r e found nobody = call_routed plugin m now r e found ∙ rw nobody refl

-- by what its route asks
pub call_asked : (plugin : List ℕ) (m : Message) (now : Moment) (path query method body : List ℕ) (r : Route) (end : List ℕ) (wanted : Result Call Fault) → path ≡ path_of m → query ≡ query_of m
    → method ≡ encode_utf8_all m.method → body ≡ m.body.items → IsRoute plugin path method r end → has_user m.user ≡ true → asks r end query body now ≡ wanted → asked m.close wanted ≡ call_of plugin m now
call_asked plugin m now path query method body r end wanted path_is query_is method_is body_is route named wants =
    let known : is_known plugin (path_of m) ≡ true = subst (λ (p : List ℕ). is_known plugin p ≡ true) path_is route.known in
    let found : route_of plugin (path_of m) (encode_utf8_all m.method) ≡ Some r = subst (λ (p : List ℕ). route_of plugin p (encode_utf8_all m.method) ≡ Some r) path_is
    (subst (λ (t : List ℕ). route_of plugin path t ≡ Some r) method_is route.route) in
    let end_is : end ≡ end_of r (path_of m) = subst (λ (p : List ℕ). end ≡ end_of r p) path_is route.end_is in
    let moved : asks r (end_of r (path_of m)) (query_of m) m.body.items now ≡ wanted = rw (sym end_is, sym query_is, sym body_is) wants in
    let last : taken m now (Some r) ≡ asked m.close wanted = rw named (ap (asked m.close) moved) in
    sym (call_routed plugin m now r known found ∙ last)

-- ---- who asks

pub actor_named : (bytes name : List ℕ) → name ≡ bytes → IsUtf8 bytes → is_name (chars name) ≡ is_actor bytes
actor_named bytes name e u = rw (e, is_utf8-from_IsUtf8 bytes u) refl

no_text : (bytes : List ℕ) (q : Bool) → is_utf8 bytes ≡ q → ¬ (IsUtf8 bytes) → false ≡ (q && is_name (chars bytes))
no_text bytes true e u = absurd (u (IsUtf8-from_is_utf8 bytes e))
no_text bytes false e u = refl

pub actor_unreadable : (bytes : List ℕ) → ¬ (IsUtf8 bytes) → false ≡ is_actor bytes
actor_unreadable bytes u = no_text bytes (is_utf8 bytes) refl u

pub ruleset calls = (call_unknown, call_refused, call_unnamed)

pub ruleset actors = (actor_named, actor_unreadable)
