-- What one message leads to.
use Rattle.std.proofs.Common.{◌≡◌, ◌⊎◌, ℕ, List, [], ◌∷◌, Option, Bool, true, false, refl, sym, ap, subst, arith, inl, inr}
use Rattle.std.specs.Prelude.{MatchBool}
use mathlib.Core.List.{IsPrefix}
use Rattle.rg_base.specs.declared.numbers.Moment.{Moment}
use Rattle.rg_policy.specs.declared.request.AccessRequest.{AccessRequest}
use Rattle.rg_ports.specs.Moments.{Told}
use Rattle.rg_http.specs.declared.message.Message.{Message}
use Rattle.rg_http.specs.declared.message.Response.{Response}
use Rattle.rg_http.specs.Answers.{Wrote}
use Rattle.rg_http.specs.Print.{response_text}
use Rattle.rg_http.proofs.Written.{wrote_none}
use Rattle.rg_publish.specs.declared.history.Publication.{Publication}
use Rattle.rg_publish.specs.Passes.{Seeing}
use Rattle.rg_rest.specs.declared.call.Call.{Call}
use Rattle.rg_rest.specs.declared.call.Call.TheVariants.{Decide}
use Rattle.rg_rest.specs.Bodies.{answer}
use Rattle.rg_rest.specs.Responses.{decision_response}
use Rattle.rg_rest.specs.Routes.{call_of}
use Rattle.rg_health.specs.declared.health.Health.{Health}
use Rattle.rg_health.specs.Health.{health_text}
use Rattle.rg_link.specs.Audits.{AreAudited, Decided}
use Rattle.rg_link.specs.Loop.{IsJudged, IsUnjudged}
use Rattle.rg_link.proofs.Steps.{audited_none, begins_refl, prefix_length, told_one}
use Rattle.rg_plugin_link.specs.Asks.{asks_health}
use Rattle.rg_plugin_link.specs.Exchanges.{Decider, Exchange, IsAnswer, IsHealth, IsRight, Leads}
use Rattle.rg_plugin_link.specs.Loop.{IsExchanged, IsServed, Unserved, undecided}

-- ---- what is right

this_way : (b : Bool) (P Q : Type 0) → b ≡ true → P → MatchBool b P Q
this_way true P Q e p = p
this_way false P Q e p = absurd (cc)

other_way : (b : Bool) (P Q : Type 0) → b ≡ false → Q → MatchBool b P Q
other_way true P Q e q = absurd (cc)
other_way false P Q e q = q

module _ (plugin : List ℕ) (pubs : List Publication) (x : Exchange) where
  pub right_health : (h : Health) → asks_health x.message ≡ true → x.response ≡ answer 200 (health_text h) x.message.close → x.decided ≡ [] → IsRight plugin pubs x
  right_health h e r d = this_way (asks_health x.message) (IsHealth x) (IsAnswer pubs x (call_of plugin x.message x.moment)) e (h, r, d)

  pub right_answer : (call : Call) → asks_health x.message ≡ false → call_of plugin x.message x.moment ≡ call → IsAnswer pubs x call → IsRight plugin pubs x
  right_answer call e c a = other_way (asks_health x.message) (IsHealth x) (IsAnswer pubs x (call_of plugin x.message x.moment)) e (subst (IsAnswer pubs x) (sym c) a)

-- ---- one message

abbrev judged : Message → Moment → Decided → Exchange
judged m t d = record { message = m; moment = t; response = decision_response d.decision m.close; decided = d ∷ [] }

module _ (plugin : List ℕ) (a b : Decider) (m : Message) (t : Moment) (told : Told a.given b.given t) where
  -- no decision was made
  leads_idle : b.pass.book ≡ a.pass.book → IsPrefix a.pass.list b.pass.list → b.pass.answered ≡ a.pass.answered → Leads a b (t ∷ []) []
  leads_idle book list answered = record {
    told = told_one a.given b.given t told;
    publisher = book;
    list = list;
    rises = prefix_length a.pass.list b.pass.list list;
    answered = answered;
  }

  leads_same : b.pass ≡ a.pass → Leads a b (t ∷ []) []
  leads_same pass =
      leads_idle (ap (λ (p : Seeing). p.book) pass) (subst (λ (p : Seeing). IsPrefix a.pass.list p.list) (sym pass) (begins_refl a.pass.list)) (ap (λ (p : Seeing). p.answered) pass)

  exchanged_response : (r : Response) → b.pass ≡ a.pass → b.enrichers ≡ a.enrichers → ((pubs : List Publication) → IsRight plugin pubs (undecided m t r)) → IsExchanged plugin a b m (undecided m t r)
  exchanged_response r pass same right = record { message = refl; right = right b.pass.list; leads = leads_same pass; enriched = same }

  exchanged_decision : (request : AccessRequest) (d : Decided) → asks_health m ≡ false → call_of plugin m t ≡ Decide request → IsJudged a.pass b.pass a.enrichers b.enrichers request d → IsExchanged plugin a b m (judged m t d)
  exchanged_decision request d e c x = record {
    message = refl;
    right = right_answer plugin b.pass.list (judged m t d) (Decide request) e c (d, refl, x.same, x.is, refl);
    leads = record {
      told = told_one a.given b.given t told;
      publisher = x.publisher;
      list = x.list;
      rises = let l = prefix_length a.pass.list b.pass.list x.list in (omega (arith, l, x.serial), omega (arith, x.serial));
      answered = x.answered;
    };
    enriched = x.enriched;
  }

  pub served_response : (r : Response) (before after : Option (List ℕ)) → b.pass ≡ a.pass → b.enrichers ≡ a.enrichers → b.sinks ≡ a.sinks → ((pubs : List Publication) → IsRight plugin pubs (undecided m t r)) → Wrote before after (response_text r) → IsServed plugin a b before after m
  served_response r before after pass same sinks right w = record {
    exchange = undecided m t r;
    exchanged = exchanged_response r pass same right;
    written = w;
    audited = audited_none plugin a.sinks b.sinks sinks;
  }

  pub unserved_response : (r : Response) (before after : Option (List ℕ)) → b.pass ≡ a.pass → b.enrichers ≡ a.enrichers → b.sinks ≡ a.sinks → ((pubs : List Publication) → IsRight plugin pubs (undecided m t r))
      → (part : List ℕ) × Wrote before after part × IsPrefix part (response_text r) → Unserved plugin a b before after m
  unserved_response r before after pass same sinks right x = (sinks, inr (undecided m t r, x.0, exchanged_response r pass same right, x.1, x.2))

  pub unserved_none : (before : Option (List ℕ)) → b.pass ≡ a.pass → b.enrichers ≡ a.enrichers → b.sinks ≡ a.sinks → Unserved plugin a b before before m
  unserved_none before pass same sinks = (sinks, inl (record { moment = t; leads = leads_same pass; run = inl same }, wrote_none before))

  pub served_decision : (request : AccessRequest) (before after : Option (List ℕ)) → asks_health m ≡ false → call_of plugin m t ≡ Decide request
      → (d : Decided) × IsJudged a.pass b.pass a.enrichers b.enrichers request d × Wrote before after (response_text (decision_response d.decision m.close)) × AreAudited plugin (d ∷ []) a.sinks b.sinks → IsServed plugin a b before after m
  served_decision request before after e c x = record {
    exchange = judged m t x.0;
    exchanged = exchanged_decision request x.0 e c x.1;
    written = x.2;
    audited = x.3;
  }

  pub unserved_decision : (request : AccessRequest) (before after : Option (List ℕ)) → asks_health m ≡ false → call_of plugin m t ≡ Decide request → b.sinks ≡ a.sinks
      → (IsUnjudged a.pass b.pass a.enrichers b.enrichers × Wrote before after []) ⊎ ((d : Decided) × (part : List ℕ) × IsJudged a.pass b.pass a.enrichers b.enrichers request d × Wrote before after part × IsPrefix part (response_text (decision_response d.decision m.close)))
      → Unserved plugin a b before after m
  unserved_decision request before after e c sinks (inl u) = (sinks, inl (record { moment = t; leads = leads_idle u.0.publisher u.0.list u.0.answered; run = u.0.run }, u.1))
  unserved_decision request before after e c sinks (inr u) = (sinks, inr (judged m t u.0, u.1, exchanged_decision request u.0 e c u.2, u.3, u.4))
