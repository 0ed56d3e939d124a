-- What a line of an administration with grants comes to.
use Rattle.std.proofs.Common.{◌≡◌, ◌∙◌, ◌++◌, ℕ, List, Some, ap}
use Rattle.rg_cmd.specs.declared.ask.AdminReply.{AdminReply}
use Rattle.rg_grant.specs.Logs.{Administration}
use Rattle.rg_grant.specs.Steps.{granted}
use Rattle.rg_grant.specs.declared.ask.GrantAsk.{GrantAsk}
use Rattle.rg_run_script.specs.Follow.{IsWorked}
use Rattle.rg_run_grants.specs.Grants.{ask_work}
use Rattle.rg_run_script.specs.Printed.{reply_line}

pub granted_work : (a later : Administration) (ask : GrantAsk) (reply : AdminReply) (text text' : List ℕ) → (later, reply) ≡ granted a ask → text' ≡ text ++ reply_line reply
    → IsWorked (ask_work (Some a) ask) (Some later) text text'
unfolding ask_work
granted_work a later ask reply text text' is printed =
    (ap (λ (r : Administration × AdminReply). Some r.0) is, printed ∙ ap (λ (r : Administration × AdminReply). text ++ reply_line r.1) is)
