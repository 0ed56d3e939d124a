-- The answers to the messages of one link. To be read first.
use Rattle.std.specs.Prelude.{◌≡◌, ℕ, List, [], ◌∷◌, ◌++◌, true, Option, Some, None, if◌then◌else◌}
use Rattle.std.specs.Str.{chars, is_utf8}
use Rattle.rg_base.specs.Listed.{Listed, listed}
use Rattle.rg_base.specs.declared.numbers.Moment.{Moment}
use Rattle.rg_http.specs.declared.message.Message.{Message}
use Rattle.rg_http.specs.declared.message.Response.{Response}
use Rattle.rg_http.specs.declared.message.End.{End}
use Rattle.rg_http.specs.declared.message.End.TheVariants.{Ended, Cut, Bad, Full}
use Rattle.rg_http.specs.Print.{response_text}
use Rattle.rg_cmd.specs.declared.ask.AdminCommand.{AdminCommand}
use Rattle.rg_cmd.specs.declared.ask.AdminReply.{AdminReply}
use Rattle.rg_cmd.specs.declared.ask.Ask.{Ask}
use Rattle.rg_turn.specs.declared.rule.Entry.{Entry}
use Rattle.rg_publish.specs.declared.history.Publication.{Publication}
use Rattle.rg_rest.specs.declared.call.Call.{Call}
use Rattle.rg_rest.specs.declared.call.Call.TheVariants.{Admin, Decide, Answer}
use Rattle.rg_rest.specs.Responses.{decision_response, response_of}
use Rattle.rg_rest.specs.Routes.{call_of}
use Rattle.rg_link.specs.Audits.{Decided, IsDecided}

-- the characters of the field `x-user`; none where there is no such field, or it isn't UTF-8
abbrev pub actor_of : Option (Listed ℕ) → List ℕ
actor_of None = []
actor_of (Some user) = if is_utf8 user.items then chars user.items else []

-- what the message's user asks of the administration
abbrev pub ask_of : Message → AdminCommand → Ask
ask_of m command = record { actor = actor_of m.user; command = command }

-- What one message takes of the entries and the decisions, and its response: a call of the administration takes one entry, a decision
-- one decision, and any other message is answered by itself. More is asked of those that are left.
abbrev pub Takes : List Publication → Message → Call → (List (Entry Ask AdminReply) → List Decided → Type 0) → List (Entry Ask AdminReply) → List Decided → Response → Type 0
Takes pubs m (Answer response) More own decided r = (r ≡ response) × More own decided
Takes pubs m (Admin command part) More [] decided r = ⊥
Takes pubs m (Admin command part) More (e ∷ own) decided r =
    (e.ask ≡ ask_of m command) × (r ≡ response_of (Admin command part) e.reply m.close) × More own decided
Takes pubs m (Decide request) More own [] r = ⊥
Takes pubs m (Decide request) More own (d ∷ decided) r =
    (d.asked ≡ request) × IsDecided pubs d × (r ≡ decision_response d.decision m.close) × More own decided

abbrev pub NothingLeft : List (Entry Ask AdminReply) → List Decided → Type 0
NothingLeft own decided = (own ≡ []) × (decided ≡ [])

-- The responses to the messages in order. Each message has its moment; nothing is left of the moments, the entries and the decisions.
abbrev pub Answers : List ℕ → List Publication → List Message → List Moment → List (Entry Ask AdminReply) → List Decided → List Response → Type 0
Answers plugin pubs [] [] own decided [] = NothingLeft own decided
Answers plugin pubs [] [] own decided (r ∷ rs) = ⊥
Answers plugin pubs [] (t ∷ ts) own decided rs = ⊥
Answers plugin pubs (m ∷ ms) [] own decided rs = ⊥
Answers plugin pubs (m ∷ ms) (t ∷ ts) own decided [] = ⊥
Answers plugin pubs (m ∷ ms) (t ∷ ts) own decided (r ∷ rs) =
    Takes pubs m (call_of plugin m t) (λ own decided. Answers plugin pubs ms ts own decided rs) own decided r

-- the bytes of responses
abbrev pub texts : List Response → List ℕ
texts [] = []
texts (r ∷ rs) = response_text r ++ texts rs

-- the answer to a bad place
abbrev pub refusal : ℕ → Response
refusal status = record { status = status; body = listed []; close = true }

-- what is answered to an end
abbrev pub end_text : End → List ℕ
end_text Ended = []
end_text Cut = []
end_text (Bad status) = response_text (refusal status)
end_text Full = []
