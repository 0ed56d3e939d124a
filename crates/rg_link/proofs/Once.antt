-- `Answers` is a function: messages, moments, entries and decisions decide the responses.
use Rattle.std.proofs.Common.{◌≡◌, ℕ, List, [], ◌∷◌, refl, sym, ap, ◌∙◌}
use Rattle.rg_base.specs.declared.numbers.Moment.{Moment}
use Rattle.rg_http.specs.declared.message.Message.{Message}
use Rattle.rg_http.specs.declared.message.Response.{Response}
use Rattle.rg_cmd.specs.declared.ask.AdminReply.{AdminReply}
use Rattle.rg_cmd.specs.declared.ask.Ask.{Ask}
use Rattle.rg_turn.specs.declared.rule.Entry.{Entry}
use Rattle.rg_publish.specs.declared.history.Publication.{Publication}
use Rattle.rg_rest.specs.declared.call.Call.{Call}
use Rattle.rg_rest.specs.declared.call.Call.TheVariants.{Admin, Decide, Answer}
use Rattle.rg_rest.specs.Routes.{call_of}
use Rattle.rg_link.specs.Answers.{Answers, Takes}
use Rattle.rg_link.specs.Audits.{Decided}

takes_once : (pubs : List Publication) (m : Message) (call : Call) (P Q : List (Entry Ask AdminReply) → List Decided → Type 0) (C : Type 0) (own : List (Entry Ask AdminReply)) (ds : List Decided) (r q : Response)
    → ((o : List (Entry Ask AdminReply)) (d : List Decided) → P o d → Q o d → C) → Takes pubs m call P own ds r → Takes pubs m call Q own ds q → (r ≡ q) × C
takes_once pubs m (Answer response) P Q C own ds r q f x y = (x.0 ∙ sym y.0, f own ds x.1 y.1)
takes_once pubs m (Admin command part) P Q C [] ds r q f x y = absurd x
takes_once pubs m (Admin command part) P Q C (e ∷ own) ds r q f x y = (x.1 ∙ sym y.1, f own ds x.2 y.2)
takes_once pubs m (Decide request) P Q C own [] r q f x y = absurd x
takes_once pubs m (Decide request) P Q C own (d ∷ ds) r q f x y = (x.2 ∙ sym y.2, f own ds x.3 y.3)

module _ (plugin : List ℕ) where
  pub answers_once : (pubs : List Publication) (ms : List Message) (ts : List Moment) (own : List (Entry Ask AdminReply)) (ds : List Decided) (rs qs : List Response) → Answers plugin pubs ms ts own ds rs → Answers plugin pubs ms ts own ds qs → rs ≡ qs
  answers_once pubs [] [] own ds [] [] x y = refl
  answers_once pubs [] [] own ds (r ∷ rs) qs x y = absurd x
  answers_once pubs [] [] own ds [] (q ∷ qs) x y = absurd y
  answers_once pubs [] (t ∷ ts) own ds rs qs x y = absurd x
  answers_once pubs (m ∷ ms) [] own ds rs qs x y = absurd x
  answers_once pubs (m ∷ ms) (t ∷ ts) own ds [] qs x y = absurd x
  answers_once pubs (m ∷ ms) (t ∷ ts) own ds (r ∷ rs) [] x y = absurd y
  answers_once pubs (m ∷ ms) (t ∷ ts) own ds (r ∷ rs) (q ∷ qs) x y =
      let z = takes_once pubs m (call_of plugin m t) (λ o d. Answers plugin pubs ms ts o d rs) (λ o d. Answers plugin pubs ms ts o d qs) (rs ≡ qs) own ds r q (λ o d a b. answers_once pubs ms ts o d rs qs a b) x y in
      ap (λ k. k ∷ rs) z.0 ∙ ap (λ k. q ∷ k) z.1
