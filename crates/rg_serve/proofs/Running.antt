-- An end of a service is that of a run of the world.
use Rattle.std.proofs.Common.{◌≡◌, ◌∙◌, ℕ, zero, suc, ◌-◌, ◌≤◌, List, [], ◌∷◌, length, map, Option, Some, None, option_map, slice_get, take, refl, ap, sym, subst, arith}
use mathlib.Core.List.{IsPrefix, reverse}
use Rattle.std.proofs.lemmas.List.{length-map}
use Rattle.std.proofs.lemmas.List.Elements.{All-get_or}
use Rattle.std.proofs.lemmas.Option.{get_or_from_slice_get, none-some, same_Some, slice_get-map, slice_get_within}
use Rattle.rg_facts.specs.Flow.{eval}
use Rattle.rg_facts.specs.declared.decision.Verdict.{Verdict}
use Rattle.rg_cmd.specs.declared.ask.AdminReply.{AdminReply}
use Rattle.rg_cmd.specs.declared.ask.AdminReply.TheVariants.{Downloaded}
use Rattle.rg_cmd.specs.declared.ask.Ask.{Ask}
use Rattle.rg_turn.specs.History.{IsLegal, state_at}
use Rattle.rg_turn.specs.declared.rule.Entry.{Entry}
use Rattle.rg_turn.proofs.Histories.{begins_length}
use Rattle.rg_admin_laws.specs.Logs.{Administration}
use Rattle.rg_admin_laws.specs.Machine.{administration}
use Rattle.rg_admin_laws.specs.Steps.{step}
use Rattle.rg_admin_laws.specs.Views.{view}
use Rattle.rg_admin_laws.specs.World.{Answer, Parts}
use Rattle.rg_admin_laws.specs.World as world
use Rattle.rg_publish.specs.declared.history.Publication.{Publication}
use Rattle.rg_session.specs.Right.{AreDownloadedFor, AreRightFor, in_world}
use Rattle.rg_link.specs.Audits.{Decided}
use Rattle.rg_link.specs.Workers.{Rises, serials}
use Rattle.rg_serve.specs.Opened.{Opened}
use Rattle.rg_serve.specs.Runs.{IsRun, answers_by, decided_by, given_answer}
use Rattle.rg_serve.specs.Served.{HasServed}
use Rattle.rg_serve.specs.Trails.{Work, decisions_of}
use Rattle.rg_serve.proofs.Downloading.{same_self}
use Rattle.rg_serve.proofs.Passing.{Decision, answer_by, answers_are, asked_by, serials_of}
use Rattle.rg_serve.proofs.Reaching.{AreMade, IsMade, reached}

abbrev H : Type 0
H = List (Entry Ask AdminReply)

-- ---- lists of which each item was made of another

of_map : {A B : Type 0} (f : A → B) (xs : List A) (k : ℕ) (y : B) → slice_get (map f xs) k ≡ Some y → (x : A) × (slice_get xs k ≡ Some x) × (f x ≡ y)
of_map f [] k y at = absurd (none-some y at)
of_map f (x ∷ xs) zero y at = (x, refl, same_Some (f x) y at)
of_map f (x ∷ xs) (suc k) y at = of_map f xs k y at

map_twice : {A B C : Type 0} (f : B → C) (g : A → B) (xs : List A) → map f (map g xs) ≡ map (λ x. f (g x)) xs
map_twice f g [] = refl
map_twice f g (x ∷ xs) = ap (λ l. f (g x) ∷ l) (map_twice f g xs)

option_twice : {A B C : Type 0} (f : B → C) (g : A → B) (o : Option A) → option_map f (option_map g o) ≡ option_map (λ x. f (g x)) o
option_twice f g None = refl
option_twice f g (Some x) = refl

first_length : {A : Type 0} (xs : List A) → 1 ≤ length xs → length (take 1 xs) ≡ 1
first_length [] some = absurd (omega (arith, some))
first_length (x ∷ xs) some = refl

-- ---- what the world is to know

module _ (start : Administration) where
  abbrev P : Parts
  P = administration start.state.plugin

  abbrev shown : Publication → world.Publication P
  shown p = in_world start.state.plugin p

  all_made : (past : H) (list : List Publication) → AreDownloadedFor start past list → AreMade P past (map shown list)
  unfolding AreDownloadedFor
  all_made past list made i p q at after =
      let a = of_map shown list i p at in
      let b = of_map shown list (suc i) q after in
      let m = made i a.0 b.0 a.1 b.1 in
      subst (λ (y : world.Publication P). IsMade P past p y) b.2
      (subst (λ (y : world.Publication P). IsMade P past y (shown b.0)) a.2 (Downloaded m.document, m.document, m.stands, refl, m.changed, m.seq, m.leads))

  -- ---- decisions

  abbrev decision : Decided → Decision P
  decision d = (d.serial, d.request)

  answer_is : (list : List Publication) (pass : ℕ) (d : Decided) → answer_by P (map shown list) pass (decision d) ≡ given_answer start.state.plugin list pass d
  answer_is list pass d =
      ap (λ (v : Option Verdict). record { pass = pass; request = d.request; seen = d.serial; verdict = v })
      (ap (option_map (λ (p : world.Publication P). eval p.facts d.request)) (slice_get-map shown list (d.serial - 1))
      ∙ option_twice (λ (p : world.Publication P). eval p.facts d.request) shown (slice_get list (d.serial - 1)))

  answers_all : (list : List Publication) (pass : ℕ) (ds : List Decided) → map (answer_by P (map shown list) pass) (map decision ds) ≡ map (given_answer start.state.plugin list pass) ds
  answers_all list pass [] = refl
  answers_all list pass (d ∷ ds) =
      ap (λ (a : Answer P). a ∷ map (answer_by P (map shown list) pass) (map decision ds)) (answer_is list pass d)
      ∙ ap (λ (l : List (Answer P)). given_answer start.state.plugin list pass d ∷ l) (answers_all list pass ds)

  module _ (past : H) (p : Publication) (qs : List Publication) (legal : IsLegal step start past) (right : AreRightFor start past (p ∷ qs)) (made : AreDownloadedFor start past (p ∷ qs))
      (passes : List (List Decided)) (rises : (pass : ℕ) (ds : List Decided) → slice_get passes pass ≡ Some ds → Rises 1 (serials ds) (length (p ∷ qs))) where
    abbrev list : List Publication
    list = p ∷ qs

    abbrev decisions : List (List (Decision P))
    decisions = map (λ (ds : List Decided). map decision ds) passes

    -- the serials of a pass
    its_rise : (pass : ℕ) (ds : List Decided) → slice_get passes pass ≡ Some ds → Rises 1 (serials_of P (map decision ds)) (length (map shown list))
    its_rise pass ds at =
        subst (λ ns. Rises 1 ns (length (map shown list))) (sym (map_twice (λ (d : Decision P). d.0) decision ds))
        (subst (λ n. Rises 1 (serials ds) n) (sym (length-map list shown)) (rises pass ds at))

    its_answers : (pass : ℕ) (ds : List Decided) → slice_get passes pass ≡ Some ds → slice_get decisions pass ≡ Some (map decision ds)
    its_answers pass ds at = slice_get-map (λ (ds : List Decided). map decision ds) passes pass ∙ ap (option_map (λ (ds : List Decided). map decision ds)) at

    pub is_run : IsRun start past list passes
    unfolding AreRightFor
    is_run =
        let r = reached P start past (map shown list) (asked_by P 0 decisions) legal right (all_made past list made) same_self (shown p) (map shown qs) refl in
        record {
          facts = p.facts;
          viewed = subst (λ n. view (state_at step start past n) start.state.plugin ≡ Some p.facts) (right.first (shown p) refl) (right.viewed 0 (shown p) refl);
          events = r.0;
          past_is = r.1;
          list_is = r.2;
          answers = λ pass ds at.
              ap (answers_by start.state.plugin pass) r.3
              ∙ (answers_are P decisions pass (map shown list) right.numbered (map decision ds) (its_answers pass ds at) (its_rise pass ds at)
              ∙ ap reverse (answers_all list pass ds));
        }

-- ---- what `serve` says

pub end_is_run : (o : Opened) (links : ℕ) (past : H) (list : List Publication) (decisions : ℕ) → IsLegal step o.start past → 1 ≤ length o.published → IsPrefix o.published list
    → AreRightFor o.start past list → AreDownloadedFor o.start past list → (served : HasServed o links past list decisions) → IsRun o.start past list (decided_by served.served.works)
end_is_run o links past [] decisions legal some more right made served = absurd (omega (arith, some, begins_length o.published [] more))
end_is_run o links past (p ∷ qs) decisions legal some more right made served =
    let plugin = o.start.state.plugin in
    let works = served.served.works in
    let all : Work plugin → Type 0 = λ w. Rises (length (take 1 o.published)) (serials (decisions_of w.sessions)) (length (p ∷ qs)) in
    let each : (k : ℕ) (ds : List Decided) → slice_get (decided_by works) k ≡ Some ds → Rises 1 (serials ds) (length (p ∷ qs)) =
    λ k ds at.
    let w = of_map (λ (w : Work plugin). decisions_of w.sessions) works k ds at in
    let its : all w.0 = subst all (get_or_from_slice_get works k w.0 w.0 w.1) (All-get_or all works k w.0 (slice_get_within works k w.0 w.1) served.served.rises) in
    subst (λ n. Rises n (serials ds) (length (p ∷ qs))) (first_length o.published some)
    (subst (λ (l : List Decided). Rises (length (take 1 o.published)) (serials l) (length (p ∷ qs))) w.2 its)
    in
    is_run o.start past p qs legal right made (decided_by works) each
