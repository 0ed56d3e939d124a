use Rattle.std.proofs.Common.{◌≡◌, ◌==◌, ◌∙◌, Ok, Err, ap, sym}
use Rattle.std.specs.Str.{chars}
use Rattle.std.specs.List.{after_first, before_first}
use Rattle.rg_rest.specs.declared.call.Call.TheVariants.{Answer}
use Rattle.rg_rest.specs.Routes.{path_of, query_of}
use Rattle.rg_rest.proofs.Calls.{call_asked}
use Rattle.rg_rest.proofs.Statuses.{call_status}
use Rattle.rg_rest.proofs.router.Router.read_call.Goals as goal

pub returns-in-Ok-asks-clause-call : goal.returns-in-Ok-asks-clause-call
returns-in-Ok-asks-clause-call c =
    let path : c.split_around.result.0.now ≡ path_of c.args.message.now = c.split_around.ensures.front ∙ ap (before_first (λ b. b == 63)) c.as_str.ensures.spelled in
    let query : c.split_around.result.1.now ≡ query_of c.args.message.now = c.split_around.ensures.back ∙ ap (after_first (λ b. b == 63)) c.as_str.ensures.spelled in
    call_asked _ c.args.message.now c.args.now _ _ _ _ c.in-Ok.found.0 _ (Ok c.in-Ok-asks.call) path query c.as_str-2.ensures.spelled c.as_slice.ensures c.in-Ok.ensures
    (sym c.has_user.ensures ∙ c.if-not-has_user.false) c.in-Ok-asks.ensures

pub returns-in_ok-no_record-in-Err-Bad-clause-call : goal.returns-in_ok-no_record-in-Err-Bad-clause-call
returns-in_ok-no_record-in-Err-Bad-clause-call c =
    let path : c.split_around.result.0.now ≡ path_of c.args.message.now = c.split_around.ensures.front ∙ ap (before_first (λ b. b == 63)) c.as_str.ensures.spelled in
    let query : c.split_around.result.1.now ≡ query_of c.args.message.now = c.split_around.ensures.back ∙ ap (after_first (λ b. b == 63)) c.as_str.ensures.spelled in
    ap Answer c.in_ok-no_record-in-Err-Bad.ensures
    ∙ call_asked _ c.args.message.now c.args.now _ _ _ _ c.in-Ok.found.0 _ (Err (record { path = c.in-Err-Bad.path; kind = c.in-Err-Bad.kind })) path query c.as_str-2.ensures.spelled c.as_slice.ensures
    c.in-Ok.ensures (sym c.has_user.ensures ∙ c.if-not-has_user.false) (rw c.in-Err-Bad.field-0-is at c.in-Err-Bad.ensures)

pub returns-in-Ok-asks-clause-status : goal.returns-in-Ok-asks-clause-status
returns-in-Ok-asks-clause-status c = call_status (chars c.args.plugin.now) c.args.message.now c.args.now c.in-Ok-asks.call (returns-in-Ok-asks-clause-call c)
