-- Why a round failed, as it is told.
use Rattle.std.specs.Prelude.{Bool, true, false}
use Rattle.rg_client.specs.declared.fault.ClientFault.{ClientFault}
use Rattle.rg_client.specs.declared.fault.ClientFault.TheVariants as client
use Rattle.rg_follow.specs.declared.fault.FollowFault.{FollowFault}
use Rattle.rg_follow.specs.declared.fault.FollowFault.TheVariants as follow
use Rattle.rg_health.specs.declared.cause.Cause.{Cause}
use Rattle.rg_health.specs.declared.cause.Cause.TheVariants as cause
use Rattle.rg_json.specs.declared.fault.WireFault.{WireFault}
use Rattle.rg_json.specs.declared.fault.WireFault.TheVariants as wire
use Rattle.rg_remote.specs.declared.fault.AskFault.{AskFault}
use Rattle.rg_remote.specs.declared.fault.AskFault.TheVariants as ask

abbrev pub reply_cause : ClientFault → Cause
reply_cause client.Failed = cause.Reply
reply_cause client.Ended = cause.Reply
reply_cause client.Unreadable = cause.Reply
reply_cause client.NoMemory = cause.Memory

abbrev pub body_cause : WireFault → Cause
body_cause wire.NoMemory = cause.Memory
body_cause (wire.Bad path kind) = cause.Body

abbrev pub question_cause : AskFault → Cause
question_cause (ask.Client fault) = reply_cause fault
question_cause (ask.Status status) = cause.Status
question_cause (ask.Body fault) = body_cause fault
question_cause ask.NoMemory = cause.Memory

abbrev pub cause_of : FollowFault → Cause
cause_of (follow.Ask fault) = question_cause fault
cause_of follow.Misfit = cause.Delta
cause_of follow.Unsettled = cause.Restless
cause_of follow.NoMemory = cause.Memory

abbrev pub is_delta : Cause → Bool
is_delta cause.Delta = true
is_delta _ = false
