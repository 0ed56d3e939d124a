-- What is true of each administration that the program holds.
use Rattle.std.specs.Prelude.{◌≡◌, List}
use Rattle.rg_turn.specs.History.{state_after}
use Rattle.rg_turn.specs.declared.rule.Entry.{Entry}
use Rattle.rg_cmd.specs.declared.ask.AdminReply.{AdminReply}
use Rattle.rg_cmd.specs.declared.ask.Ask.{Ask}
use Rattle.rg_cmd.specs.declared.state.State.{State}
use Rattle.rg_admin_laws.specs.Logs.{Administration}
use Rattle.rg_admin_laws.specs.Starts.{IsStart}
use Rattle.rg_admin_laws.specs.Steps.{step}

-- no list that a command changes has spare room
pub record IsPacked (s : State) : Type 0 where
  pub users : s.users.spare ≡ 0
  pub defs : s.defs.spare ≡ 0
  pub services : s.services.spare ≡ 0
  pub policies : s.policies.spare ≡ 0
  pub zones : s.zones.spare ≡ 0
  pub roles : s.roles.spare ≡ 0
  pub tag_rows : s.tag_rows.spare ≡ 0

-- a history from a start that led to it
pub record Origin (a : Administration) : Type 0 where
  pub start : Administration
  pub starts : IsStart start
  pub history : List (Entry Ask AdminReply)
  pub now : state_after step start history ≡ a
  pub packed : IsPacked a.state

-- some history led to it
unfoldable pub IsReached : Administration → Type 0
IsReached a = Origin a
