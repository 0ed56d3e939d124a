-- For proofs alone: how an answered ask is put together.
use Rattle.std.proofs.Common.{◌≡◌, List, Option, Some, None, Result, Ok, Err, IfOk, OnOk, OnErr, ap, sym, ◌∙◌, subst}
use Rattle.rg_cmd.specs.declared.ask.AdminCommand.{AdminCommand}
use Rattle.rg_cmd.specs.declared.ask.AdminReply.{AdminReply}
use Rattle.rg_cmd.specs.declared.ask.AdminReply.TheVariants.{Refused}
use Rattle.rg_cmd.specs.declared.ask.Ask.{Ask}
use Rattle.rg_cmd.specs.declared.changes.Log.{Log}
use Rattle.rg_cmd.specs.declared.rule.Rule.{Rule}
use Rattle.rg_cmd.specs.declared.state.State.{State}
use Rattle.rg_admin_laws.specs.Changes.{after_command}
use Rattle.rg_admin_laws.specs.Logs.{Administration, logs_after}
use Rattle.rg_admin_laws.specs.Steps.{accepted, counted, fault, refused, reply_to, step, step_by}
use Rattle.rg_admin.specs.Due.{done}
use Rattle.rg_admin.specs.Held.{Planned, logs_of}
use Rattle.rg_admin.specs.declared.planning.Due.{Due}
use Rattle.rg_admin.specs.Stepped.{IsAccepted, IsMade, IsStep}

abbrev of : State → List Log → Administration
of s logs = record { state = s; logs = logs }

pub made : (s t : State) (before after : List Log) (c : AdminCommand) → t ≡ counted (after_command s c) → after ≡ logs_after s c before → IsMade (of s before) c (of t after)
unfolding IsMade
made s t before after c state logs = λ i. record { state = state i; logs = logs i }

-- the same with the logs as they are held, of a command that was given
pub made_by : (s t : State) (ps qs : List Planned) (due : Due) (before : List Log) (given c : AdminCommand) → given ≡ c
    → t ≡ counted (after_command s given) → qs ≡ done due ps → logs_of (done due ps) ≡ logs_after s c before → IsMade (of s before) c (of t (logs_of qs))
made_by s t ps qs due before given c same state logs is =
    made s t before (logs_of qs) c (state ∙ ap (λ (k : AdminCommand). counted (after_command s k)) same) (ap logs_of logs ∙ is)

pub unmade_by : (s t : State) (ps qs : List Planned) (before : List Log) → t ≡ s → qs ≡ ps → logs_of ps ≡ before → of t (logs_of qs) ≡ of s before
unmade_by s t ps qs before state logs is = λ i. of (state i) ((ap logs_of logs ∙ is) i)

-- what holds after the change of an accepted ask holds of what was made
pub held_made : (holds : Administration → Type 0) (before after : Administration) (c : AdminCommand) → IsMade before c after → holds (accepted before c) → holds after
unfolding IsMade
held_made holds before after c made held = subst holds (sym made) held

-- and where nothing was made
pub held_same : (holds : Administration → Type 0) (before after : Administration) → after ≡ before → holds before → holds after
held_same holds before after same held = subst holds (sym same) held

pub answered : (before after : Administration) (ask : Ask) (reply : AdminReply) → IsMade before ask.command after → reply ≡ reply_to before ask.actor ask.command → IsAccepted before ask after reply
unfolding IsAccepted IsMade
answered before after ask reply made is = λ i. (made i, is i)

pub stepped : (before after : Administration) (ask : Ask) (reply : AdminReply) → None ≡ fault before.state ask → IsAccepted before ask after reply → IsStep before ask after reply
unfolding IsAccepted IsStep
stepped before after ask reply none accepts = accepts ∙ ap (λ (r : Option Rule). step_by r before ask) none

pub stepped_on : {E : Type 0} (r : Result AdminReply E) (before after : Administration) (ask : Ask) → None ≡ fault before.state ask
    → IfOk r (IsAccepted before ask after) → IfOk r (IsStep before ask after)
stepped_on (Ok reply) before after ask none accepts = stepped before after ask reply none accepts
stepped_on (Err e) before after ask none accepts = tt

pub refused_step : (s t : State) (logs : List Log) (ask : Ask) (rule : Rule) → Some rule ≡ fault s ask → t ≡ counted s → IsStep (of s logs) ask (of t logs) (Refused rule)
unfolding IsStep
refused_step s t logs ask rule some count = (λ i. (of (count i) logs, Refused rule)) ∙ ap (λ (r : Option Rule). step_by r (of s logs) ask) some

-- the step of the administration as its callers see it
pub opened : {E : Type 0} (r : Result AdminReply E) (before : Administration) {seen : Administration} → before ≡ seen → (ask : Ask) (after : Administration)
    → IfOk r (IsStep before ask after) → IfOk r (λ reply. (after, reply) ≡ step seen ask)
unfolding IsStep
opened (Ok reply) before same ask after steps = steps ∙ ap (λ (a : Administration). step a ask) same
opened (Err e) before same ask after steps = tt

-- and where memory is refused
pub stays : {E : Type 0} (r : Result AdminReply E) (before after : Administration) {seen : Administration} → before ≡ seen → OnErr r (after ≡ before) → OnErr r (after ≡ seen)
stays (Ok reply) before after same is = tt
stays (Err e) before after same is = is ∙ same
