-- What the sessions of one worker come to.
use Rattle.std.proofs.Common.{◌≡◌, ◌∙◌, ℕ, zero, suc, ◌+◌, ◌-◌, ◌^◌, ◌≤◌, min, All, List, [], ◌∷◌, ◌++◌, length, None, ap, sym, subst, refl, inl, inr, arith, append-nil, length-append}
use mathlib.Core.List.{IsPrefix}
use Rattle.std.proofs.lemmas.List.Elements.{All-append, All-cons, All-nil}
use Rattle.rg_base.specs.declared.numbers.Moment.{Moment}
use Rattle.rg_http.specs.declared.message.Message.{Message}
use Rattle.rg_http.specs.declared.message.Response.{Response}
use Rattle.rg_cmd.specs.declared.ask.AdminReply.{AdminReply}
use Rattle.rg_cmd.specs.declared.ask.Ask.{Ask}
use Rattle.rg_turn.specs.Values.{TurnName, new_seat}
use Rattle.rg_turn.specs.declared.rule.Entry.{Entry}
use Rattle.rg_turn.proofs.Histories.{begins_trans}
use Rattle.rg_admin_laws.specs.Logs.{Administration}
use Rattle.rg_publish.specs.Passes.{Seeing, new_pass, risen}
use Rattle.rg_publish.specs.Publications.{Published}
use Rattle.rg_publish.specs.declared.history.Publication.{Publication}
use Rattle.rg_rest.specs.declared.call.Call.{Call}
use Rattle.rg_rest.specs.declared.call.Call.TheVariants.{Admin, Decide, Answer}
use Rattle.rg_rest.specs.Routes.{call_of}
use Rattle.rg_link.specs.Answers.{Answers, Takes}
use Rattle.rg_link.specs.Audits.{Decided, IsDecided}
use Rattle.rg_link.specs.Sessions.{Wire}
use Rattle.rg_link.specs.Workers.{Leads, Rises, Stand, Worker, counted, serials, worker_of}
use Rattle.rg_link.proofs.Steps.{answers_pubs, leads_refl, leads_trans}
use Rattle.rg_serve.specs.Trails.{Follow, IsOver, IsWork, Seated, Session, Work, decided_in, decided_of, decisions_of, entries_of, own_in, own_of}

abbrev H : Type 0
H = List (Entry Ask AdminReply)

-- ---- the decisions of answers

takes_decided : (pubs : List Publication) (m : Message) (call : Call) (More : H → List Decided → Type 0) (own : H) (ds : List Decided) (r : Response)
    → ((o : H) (d : List Decided) → More o d → All (IsDecided pubs) d) → Takes pubs m call More own ds r → All (IsDecided pubs) ds
takes_decided pubs m (Answer response) More own ds r more x = more own ds x.1
takes_decided pubs m (Admin command part) More [] ds r more x = absurd x
takes_decided pubs m (Admin command part) More (e ∷ own) ds r more x = more own ds x.2
takes_decided pubs m (Decide request) More own [] r more x = absurd x
takes_decided pubs m (Decide request) More own (d ∷ ds) r more x = All-cons (IsDecided pubs) d ds x.1 (more own ds x.3)

answers_decided : (plugin : List ℕ) (pubs : List Publication) (ms : List Message) (ts : List Moment) (own : H) (ds : List Decided) (rs : List Response)
    → Answers plugin pubs ms ts own ds rs → All (IsDecided pubs) ds
answers_decided plugin pubs [] [] own ds [] x = subst (All (IsDecided pubs)) (sym x.1) (All-nil (IsDecided pubs))
answers_decided plugin pubs [] [] own ds (r ∷ rs) x = absurd x
answers_decided plugin pubs [] (t ∷ ts) own ds rs x = absurd x
answers_decided plugin pubs (m ∷ ms) [] own ds rs x = absurd x
answers_decided plugin pubs (m ∷ ms) (t ∷ ts) own ds [] x = absurd x
answers_decided plugin pubs (m ∷ ms) (t ∷ ts) own ds (r ∷ rs) x =
    takes_decided pubs m (call_of plugin m t) (λ o d. Answers plugin pubs ms ts o d rs) own ds r (λ o d y. answers_decided plugin pubs ms ts o d rs y) x

-- ---- counts

counted_is : (k n : ℕ) → n ≤ 2 ^ 64 - 1 → counted k n ≡ min (n + k) (2 ^ 64 - 1)
counted_is zero n fits = omega (arith, fits)
counted_is (suc k) n fits = counted_is k (risen n) (omega arith) ∙ omega arith

-- ---- one session

module _ (plugin : List ℕ) (a b : Worker) (met left : Wire) (before after : ℕ) where
  leads_in : (e : IsOver plugin a b met left before after) → (ts : List Moment) × Leads a b ts (own_in plugin a b met left before after e) (decided_in plugin a b met left before after e)
  leads_in (inl served) = (served.2.moments, served.2.leads)
  leads_in (inr broken) = (broken.0.moments ++ broken.0.unused, broken.0.leads)

  decides_in : (list : List Publication) → IsPrefix b.pass.list list → (e : IsOver plugin a b met left before after) → All (IsDecided list) (decided_in plugin a b met left before after e)
  decides_in list begins (inl served) =
      let s = served.2 in
      answers_decided plugin list s.messages s.moments s.own s.decided s.responses (answers_pubs plugin b.pass.list list s.messages s.moments s.own s.decided s.responses begins s.answers)
  decides_in list begins (inr broken) =
      let s = broken.0 in
      let rs = s.whole ++ s.last in
      answers_decided plugin list s.messages s.moments s.own s.decided rs (answers_pubs plugin b.pass.list list s.messages s.moments s.own s.decided rs begins s.answers)

-- a worker of which its seat and its pass alone are seen
abbrev bare : Seated → Seeing → Worker
bare seat pass = worker_of seat pass None [] []

bare_leads : (a b : Worker) (ts : List Moment) (own : H) (ds : List Decided) → Leads a b ts own ds → Leads (bare a.seat a.pass) (bare b.seat b.pass) ts own ds
bare_leads a b ts own ds l = record {
  turn = l.turn;
  told = λ before e. absurd (cc e);
  made = l.made;
  history = l.history;
  publisher = l.publisher;
  list = l.list;
  rises = l.rises;
  answered = l.answered;
}

one_leads : (plugin : List ℕ) (s : Session plugin) (seat : Seated) (pass : Seeing) → s.before.seat ≡ seat → s.before.pass ≡ pass
    → (ts : List Moment) × Leads (bare seat pass) (bare s.after.seat s.after.pass) ts (own_of s) (decided_of s)
one_leads plugin s seat pass seat_is pass_is =
    let one = leads_in plugin s.before s.after s.met s.left s.faults s.more_faults s.over in (
      one.0,
      subst (λ (p : Seeing). Leads (bare seat p) (bare s.after.seat s.after.pass) one.0 (own_of s) (decided_of s)) pass_is
          (subst (λ (z : Seated). Leads (bare z s.before.pass) (bare s.after.seat s.after.pass) one.0 (own_of s) (decided_of s)) seat_is
          (bare_leads s.before s.after one.0 (own_of s) (decided_of s) one.1)),
    )

-- ---- the sessions of one worker

module _ (plugin : List ℕ) (last_seat : Seated) (last_pass : Seeing) where
  leads_all : (seat : Seated) (pass : Seeing) (ss : List (Session plugin)) → Follow plugin seat pass ss last_seat last_pass
      → (ts : List Moment) × Leads (bare seat pass) (bare last_seat last_pass) ts (entries_of ss) (decisions_of ss)
  leads_all seat pass [] f = (
    [],
    subst (λ (p : Seeing). Leads (bare seat pass) (bare last_seat p) [] [] []) (sym f.1)
        (subst (λ (z : Seated). Leads (bare seat pass) (bare z pass) [] [] []) (sym f.0) (leads_refl (bare seat pass))),
  )
  leads_all seat pass (s ∷ rest) f =
      let one = one_leads plugin s seat pass f.0 f.1 in
      let more = leads_all s.after.seat s.after.pass rest f.2 in (
        one.0 ++ more.0,
        leads_trans (bare seat pass) (bare s.after.seat s.after.pass) (bare last_seat last_pass) one.0 more.0 (own_of s) (entries_of rest) (decided_of s) (decisions_of rest) one.1 more.1,
      )

  decided_all : (list : List Publication) → IsPrefix last_pass.list list → (seat : Seated) (pass : Seeing) (ss : List (Session plugin)) → Follow plugin seat pass ss last_seat last_pass
      → All (IsDecided list) (decisions_of ss)
  decided_all list known seat pass [] f = All-nil (IsDecided list)
  decided_all list known seat pass (s ∷ rest) f =
      let later = leads_all s.after.seat s.after.pass rest f.2 in
      let begins = begins_trans s.after.pass.list last_pass.list list later.1.list known in
      All-append (IsDecided list) (decided_of s) (decisions_of rest)
      (decides_in plugin s.before s.after s.met s.left s.faults s.more_faults list begins s.over)
      (decided_all list known s.after.seat s.after.pass rest f.2)

-- ---- one worker, with the whole past and the whole list

module _ (turn : TurnName Administration) (opening : Published) (plugin : List ℕ) (w : Work plugin) (is : IsWork turn opening plugin w) where
  abbrev first : Worker
  first = bare (new_seat turn) (new_pass opening)

  abbrev last : Worker
  last = bare w.seat w.pass

  all_its : (ts : List Moment) × Leads first last ts (entries_of w.sessions) (decisions_of w.sessions)
  all_its = leads_all plugin w.seat w.pass (new_seat turn) (new_pass opening) w.sessions is

  pub its_answers : w.pass.answered ≡ min (length (decisions_of w.sessions)) (2 ^ 64 - 1)
  its_answers = omega (arith, all_its.1.answered, counted_is (length (decisions_of w.sessions)) 0 (omega arith))

  pub its_decisions : (list : List Publication) → IsPrefix w.pass.list list → All (IsDecided list) (decisions_of w.sessions)
  its_decisions list known = decided_all plugin w.seat w.pass list known (new_seat turn) (new_pass opening) w.sessions is

  module _ (past : H) (list : List Publication) (begins : IsPrefix w.seat.history past) (known : IsPrefix w.pass.list list) where
    abbrev closing : Worker
    closing = bare (record w.seat { history = past }) (record w.pass { list = list })

    closes : Leads last closing [] [] []
    closes = record {
      turn = refl;
      told = λ before e. absurd (cc e);
      made = ([], sym (append-nil w.seat.calls), refl);
      history = begins;
      publisher = refl;
      list = known;
      rises = omega (arith, ap length known.1, length-append w.pass.list known.0);
      answered = refl;
    }

    whole : Leads first closing (all_its.0 ++ []) (entries_of w.sessions ++ []) (decisions_of w.sessions ++ [])
    whole = leads_trans first last closing all_its.0 [] (entries_of w.sessions) [] (decisions_of w.sessions) [] all_its.1 closes

    pub its_stand : Stand past w.seat.calls (entries_of w.sessions)
    its_stand = subst (λ (l : H). Stand past w.seat.calls l) (append-nil (entries_of w.sessions)) (subst (λ l. Stand past l (entries_of w.sessions ++ [])) (sym whole.made.1) whole.made.2)

    pub its_serials : Rises (length opening.list) (serials (decisions_of w.sessions)) (length list)
    its_serials = subst (λ (l : List Decided). Rises (length opening.list) (serials l) (length list)) (append-nil (decisions_of w.sessions)) whole.rises
