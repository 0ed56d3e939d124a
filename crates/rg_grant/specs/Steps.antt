-- The step of an administration with grants and revokes.
use Rattle.rg_cmd.specs.declared.ask.AdminReply.{AdminReply}
use Rattle.rg_admin_laws.specs.Logs.{Administration}
use Rattle.rg_admin_laws.specs.Steps.{step}
use Rattle.rg_grant.specs.Planning.{planned}
use Rattle.rg_grant.specs.declared.ask.GrantAsk.{GrantAsk}

-- the step of what is planned, by the same actor
unfoldable pub granted : Administration → GrantAsk → Administration × AdminReply
granted a ask = step a (planned a.state ask)
