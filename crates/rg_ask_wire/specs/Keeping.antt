-- Which commands change the state where they are accepted.
use Rattle.std.specs.Prelude.{Bool, true, false}
use Rattle.rg_cmd.specs.declared.ask.AdminCommand.{AdminCommand}
use Rattle.rg_cmd.specs.declared.ask.AdminCommand.TheVariants.{GetPolicy, ListPolicies, Download}

-- all but those that only look
abbrev pub is_keeping : AdminCommand → Bool
is_keeping (GetPolicy id) = false
is_keeping (ListPolicies service) = false
is_keeping (Download service policies_from tags_from roles_from) = false
is_keeping command = true
