-- What commands print of a reply and of a decision, each line with an LF.
use Rattle.std.specs.Prelude.{ℕ, ◌++◌, List, [], ◌∷◌}
use Rattle.rg_policy.specs.declared.request.AccessRequest.{AccessRequest}
use Rattle.rg_facts.specs.declared.decision.Decision.{Decision}
use Rattle.rg_cmd.specs.declared.ask.AdminReply.{AdminReply}
use Rattle.rg_wire.specs.Printing.{decision_text}
use Rattle.rg_script.specs.PrintedReplies.{reply_text}
use Rattle.rg_run_script.specs.Follow.{Work}

unfoldable pub decision_line : Decision → List ℕ
decision_line d = decision_text d ++ 10 ∷ []

unfoldable pub reply_line : AdminReply → List ℕ
reply_line reply = reply_text reply ++ 10 ∷ []

-- nothing is printed or decided
abbrev pub quiet : {S : Type 0} → S → Work S
quiet s = record { text = []; state = s; decided = [] }

-- a request to this service is decided as it was read
abbrev pub deciding : {S : Type 0} → S → List ℕ → AccessRequest → Decision → Work S
deciding s service q d = record {
  text = decision_line d;
  state = s;
  decided = record { service = service; asked = q; request = q; decision = d } ∷ [];
}
