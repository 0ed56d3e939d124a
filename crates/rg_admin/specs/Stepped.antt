-- An answered ask. The words are opaque to proofs but where they are opened, since a step of an unknown command is a large term.
use Rattle.std.specs.Prelude.{◌≡◌, None}
use Rattle.rg_cmd.specs.declared.ask.AdminCommand.{AdminCommand}
use Rattle.rg_cmd.specs.declared.ask.AdminReply.{AdminReply}
use Rattle.rg_cmd.specs.declared.ask.Ask.{Ask}
use Rattle.rg_admin_laws.specs.Logs.{Administration}
use Rattle.rg_admin_laws.specs.Steps.{accepted, step, step_by}
use Rattle.rg_admin.specs.Held.{administration_of}
use Rattle.rg_admin.specs.declared.admin.Held.{Held}

abbrev pub administration_in : Held → Administration
administration_in held = administration_of held.state held.logs.items

-- the step leads from the first administration to the second, with this reply
unfoldable pub IsStep : Administration → Ask → Administration → AdminReply → Type 0
IsStep before ask after reply = (after, reply) ≡ step before ask

-- so it does where the ask passes every rule
unfoldable pub IsAccepted : Administration → Ask → Administration → AdminReply → Type 0
IsAccepted before ask after reply = (after, reply) ≡ step_by None before ask

-- the change of the command is made, and counted
unfoldable pub IsMade : Administration → AdminCommand → Administration → Type 0
IsMade before command after = after ≡ accepted before command
