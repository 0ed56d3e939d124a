-- One worker more, and all of them with what the closing call tells.
use Rattle.std.proofs.Common.{◌≡◌, ◌∙◌, ℕ, ◌+◌, ◌-◌, ◌^◌, min, sum_by, All, List, [], ◌∷◌, ◌++◌, length, map, ap, sym, subst, refl, arith}
use mathlib.Core.List.{IsPrefix}
use Rattle.std.proofs.lemmas.List.{length-map, map-append}
use Rattle.std.proofs.lemmas.List.Elements.{All-cons, All-head, All-nil, All-tail}
use Rattle.std.proofs.lemmas.List.Sums.{sum_by-cons, sum_by_push}
use Rattle.rg_cmd.specs.declared.ask.AdminReply.{AdminReply}
use Rattle.rg_cmd.specs.declared.ask.Ask.{Ask}
use Rattle.rg_turn.specs.Counting.{once_below, times}
use Rattle.rg_turn.specs.Values.{TurnName, calls_at}
use Rattle.rg_turn.specs.declared.rule.Entry.{Entry}
use Rattle.rg_turn.proofs.Histories.{total_snoc}
use Rattle.rg_admin_laws.specs.Logs.{Administration}
use Rattle.rg_publish.specs.Passes.{Seeing}
use Rattle.rg_publish.specs.Publications.{Published}
use Rattle.rg_publish.specs.declared.history.Publication.{Publication}
use Rattle.rg_session.specs.Closing.{IsKnown, answers_of}
use Rattle.rg_link.specs.Audits.{IsDecided}
use Rattle.rg_link.specs.Workers.{Rises, Stand, serials}
use Rattle.rg_serve.specs.Held.{AreWorked, Trail}
use Rattle.rg_serve.specs.Trails.{AreServed, Downloads, IsWork, Seated, Work, decisions_in, decisions_of, entries_of, pass_of, seat_of, sessions_in}
use Rattle.rg_serve.proofs.Alls.{all_more}
use Rattle.rg_serve.proofs.Composing.{its_answers, its_decisions, its_serials, its_stand}
use Rattle.rg_serve.proofs.Counting.{entries_are}

abbrev H : Type 0
H = List (Entry Ask AdminReply)

module _ (turn : TurnName Administration) (opening : Published) (plugin : List ℕ) where
  pub none_worked : AreWorked turn opening plugin [] [] 0
  none_worked = record {
    works = [];
    are = All-nil (IsWork turn opening plugin);
    seats_are = refl;
    passes_are = refl;
    each_link = refl;
    seated = All-nil (λ (s : Seated). s.turn ≡ turn);
    reads = All-nil (λ (p : Seeing). p.book ≡ opening.book);
  }

  pub one_worked : (seats : List Seated) (passes : List Seeing) (n : ℕ) → AreWorked turn opening plugin seats passes n
      → (seat : Seated) (pass : Seeing) (amount : ℕ) → seat.turn ≡ turn → pass.book ≡ opening.book → Trail turn opening plugin seat pass amount
      → AreWorked turn opening plugin (seats ++ seat ∷ []) (passes ++ pass ∷ []) (n + amount)
  one_worked seats passes n all seat pass amount seated reads trail =
      let w : Work plugin = record { sessions = trail.0; seat = seat; pass = pass } in
      record {
        works = all.works ++ w ∷ [];
        are = all_more (IsWork turn opening plugin) all.works w all.are trail.1;
        seats_are = map-append seat_of all.works (w ∷ []) ∙ ap (λ l. l ++ seat ∷ []) all.seats_are;
        passes_are = map-append pass_of all.works (w ∷ []) ∙ ap (λ l. l ++ pass ∷ []) all.passes_are;
        each_link = omega (arith, sum_by_push sessions_in all.works w, all.each_link, trail.2);
        seated = all_more (λ (s : Seated). s.turn ≡ turn) seats seat all.seated seated;
        reads = all_more (λ (p : Seeing). p.book ≡ opening.book) passes pass all.reads reads;
      }

  sum_each : (ws : List (Work plugin)) → All (IsWork turn opening plugin) ws → answers_of (map pass_of ws) ≡ min (sum_by decisions_in ws) (2 ^ 64 - 1)
  sum_each [] are = refl
  sum_each (w ∷ ws) are =
      let one = its_answers turn opening plugin w (All-head (IsWork turn opening plugin) w ws are) in
      let more = sum_each ws (All-tail (IsWork turn opening plugin) w ws are) in
      omega (arith, one, more, sum_by-cons (λ (p : Seeing). p.answered) w.pass (map pass_of ws), sum_by-cons decisions_in w ws)

  -- ---- what the past and the publications tell of each

  module _ (past : H) (list : List Publication) where
    abbrev Within : Work plugin → Type 0
    Within w = IsWork turn opening plugin w × IsPrefix w.seat.history past × IsPrefix w.pass.list list

    within_each : (ws : List (Work plugin)) → All (IsWork turn opening plugin) ws → All (λ (s : Seated). IsPrefix s.history past) (map seat_of ws) → All (λ (p : Seeing). IsPrefix p.list list) (map pass_of ws)
        → All Within ws
    within_each [] are begin known = All-nil Within
    within_each (w ∷ ws) are begin known =
        let B : Seated → Type 0 = λ s. IsPrefix s.history past in
        let K : Seeing → Type 0 = λ p. IsPrefix p.list list in
        All-cons Within w ws
        (All-head (IsWork turn opening plugin) w ws are, All-head B w.seat (map seat_of ws) begin, All-head K w.pass (map pass_of ws) known)
        (within_each ws (All-tail (IsWork turn opening plugin) w ws are) (All-tail B w.seat (map seat_of ws) begin) (All-tail K w.pass (map pass_of ws) known))

    stands : (w : Work plugin) → Within w → Stand past w.seat.calls (entries_of w.sessions)
    stands w i = its_stand turn opening plugin w i.0 past list i.1 i.2

    decides : (w : Work plugin) → Within w → All (IsDecided list) (decisions_of w.sessions)
    decides w i = its_decisions turn opening plugin w i.0 list i.2

    rises : (w : Work plugin) → Within w → Rises (length opening.list) (serials (decisions_of w.sessions)) (length list)
    rises w i = its_serials turn opening plugin w i.0 past list i.1 i.2

    each_of : (Q : Work plugin → Type 0) → ((w : Work plugin) → Within w → Q w) → (ws : List (Work plugin)) → All Within ws → All Q ws
    each_of Q says [] all = All-nil Q
    each_of Q says (w ∷ ws) all = All-cons Q w ws (says w (All-head Within w ws all)) (each_of Q says ws (All-tail Within w ws all))

  pub all_served : (seats : List Seated) (passes : List Seeing) (links : ℕ) → AreWorked turn opening plugin seats passes links
      → (before seat : Seated) (past : H) (publisher : Published) (decisions : ℕ)
      → Downloads past plugin before seat
      → All (λ (s : Seated). IsPrefix s.history past) seats
      → ((p : ℕ) → calls_at p (seats ++ seat ∷ []) ≡ once_below p (length past))
      → All (IsKnown publisher) passes → decisions ≡ answers_of passes
      → AreServed turn opening plugin before (length seats) links past publisher.list decisions
  all_served seats passes links all before seat past publisher decisions downloads begin once known sum =
      let ws = all.works in
      let list = publisher.list in
      let K : Seeing → Type 0 = λ p. IsPrefix p.list list in
      let B : Seated → Type 0 = λ s. IsPrefix s.history past in
      let each : (p : ℕ) → calls_at p (map seat_of ws) + times p seat.calls ≡ once_below p (length past) =
      λ p. omega (arith, once p, total_snoc (λ (s : Seated). times p s.calls) seats seat, ap (calls_at p) all.seats_are)
      in
      let within = within_each past list ws all.are (subst (All B) (sym all.seats_are) begin) (subst (All K) (sym all.passes_are) known) in
      let stand = each_of past list (λ (w : Work plugin). Stand past w.seat.calls (entries_of w.sessions)) (stands past list) ws within in
      record {
        works = ws;
        number = sym (length-map ws seat_of) ∙ ap length all.seats_are;
        are = all.are;
        each_link = all.each_link;
        refresher = seat;
        downloads = downloads;
        each_entry = each;
        entries = entries_are plugin past ws stand seat.calls (length past) each;
        stand = stand;
        decided = each_of past list (λ (w : Work plugin). All (IsDecided list) (decisions_of w.sessions)) (decides past list) ws within;
        rises = each_of past list (λ (w : Work plugin). Rises (length opening.list) (serials (decisions_of w.sessions)) (length list)) (rises past list) ws within;
        sum = sum ∙ (ap answers_of (sym all.passes_are) ∙ sum_each ws all.are);
      }
