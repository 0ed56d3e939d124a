-- The steps on the words keep the rule: draw, look and pass on.
use Rattle.std.proofs.Common.{◌≡◌, ◌≢◌, ◌⊎◌, inl, inr, ⊎_elim, ℕ, suc, ◌+◌, ◌%◌, ◌<◌, ◌≤◌, ◌^◌, eqb, Bool, true, false, true≢false, List, [], ◌∷◌, ◌++◌, length, set, get_or, Option, Some, None, refl, ap, sym, ◌∙◌, subst, arith, lt_of_not-le}
use mathlib.Core.Logic.{dite}
use native.Mathlib.Decide.{ℕ_discrete, dec_le}
use mathlib.Core.Option.{some, none, some-injective}
use mathlib.Core.Option as maybe
use mathlib.Core.List.{IsPrefix}
use lib.ListN.{get_elem?}
use prog.Atomic.{either}
use Rattle.atomic_table.specs.Table.{State, Me, step, Act, keeps, takes, gives, stepped, Valid, carried_after, Allows}
use Rattle.atomic_table.proofs.Lists.{at_set, set_else, set_again, exchanged}
use Rattle.rg_turn.specs.declared.rule.Entry.{Entry}
use Rattle.rg_turn.specs.declared.rule.SeatView.{SeatView}
use Rattle.rg_turn.specs.declared.rule.Slot.{Slot}
use Rattle.rg_turn.specs.Counting.{times, once_below}
use Rattle.rg_turn.specs.History.{state_after, IsLegal}
use Rattle.rg_turn.specs.View.{entry, with_ticket, served, passed}
use Rattle.rg_turn.specs.Rule.{TicketStands, SomeServed, NoneServed, ViewHolds, IsAfter, RuleHolds}
use Rattle.rg_turn.specs.Steps.{IsAnswered, IsReturned, Drawn, Looked, PassedOn}
use Rattle.rg_turn.proofs.Histories.{begins_self, begins_trans, begins_whole, begins_length, length_snoc, total_set, state_after_snoc, legal_snoc, set_at, total_only, once_below_some, own_snoc, count_snoc}

pub not_both : {b : Bool} → b ≡ true → b ≡ false → ⊥
not_both t f = true≢false (sym t ∙ f)

pub not_true : (b : Bool) → (b ≡ true → ⊥) → b ≡ false
not_true true n = absurd (n refl)
not_true false n = refl

module _ {M A R X : Type 0} (state : M → X) (transition : X → A → X × R) (start : X) (seats : ℕ) where
  abbrev V : Type 0
  V = SeatView A R X

  abbrev D : Type 0
  D = Slot M

  abbrev E : Type 0
  E = Entry A R

  abbrev St : Type 0
  St = State D V

  abbrev Rule : St → Type 0
  Rule = RuleHolds state transition start seats

  -- the slot has the machine, or a seat has it
  abbrev pub MachineStands : List E → maybe.Option D → List V → Type 0
  MachineStands history slot views = ((d : D) × (slot ≡ some d) × IsAfter state transition start history d × NoneServed views) ⊎ ((slot ≡ none) × SomeServed views)

  -- the seat's view becomes w, and the words, the slot and the history change
  moved : (s : St) (r : Rule s) (id : ℕ) (v w : V) → get_elem? s.views id ≡ some v → (ticket serving : ℕ) (history : List E) (slot : maybe.Option D)
      → serving ≤ ticket → ticket ≤ 2 ^ 62 → length history ≤ serving → IsLegal transition start history
      → ViewHolds start seats history serving ticket w
      → ((j : ℕ) (u : V) → j ≢ id → get_elem? s.views j ≡ some u → ViewHolds start seats history serving ticket u)
      → ((t : ℕ) → serving ≤ t → t < ticket → TicketStands (set s.views id w) t)
      → (w.has_ticket ≡ true → (j : ℕ) (u : V) → j ≢ id → get_elem? s.views j ≡ some u → u.has_ticket ≡ true → w.ticket ≢ u.ticket)
      → MachineStands history slot (set s.views id w)
      → w.weight ≡ v.weight
      → ((p : ℕ) → times p w.calls + once_below p (length r.history) ≡ times p v.calls + once_below p (length history))
      → Rule record { words = ticket ∷ serving ∷ []; homes = slot ∷ []; views = set s.views id w }
  moved s r id v w at ticket serving history slot order bound short legal mine others stands apart machine weight calls = record {
    history = history;
    ticket = ticket;
    serving = serving;
    slot = slot;
    words_are = refl;
    slots_are = refl;
    serving_at_most_ticket = order;
    ticket_at_most_bound = bound;
    entries_at_most_serving = short;
    legal = legal;
    each_view = λ j u e. ⊎_elim (λ (t : (j ≡ id) × (w ≡ u)). subst (ViewHolds start seats history serving ticket) t.1 mine) (λ (t : (j ≢ id) × (get_elem? s.views j ≡ some u)). others j u t.0 t.1) (at_set s.views id j w u e);
    ticket_stands = stands;
    ticket_once = λ i j u x e f a b same.
        ⊎_elim
        (λ (t : (i ≡ id) × (w ≡ u)).
        ⊎_elim
        (λ (z : (j ≡ id) × (w ≡ x)). t.0 ∙ sym z.0)
        (λ (z : (j ≢ id) × (get_elem? s.views j ≡ some x)). absurd (apart (ap (λ (y : V). y.has_ticket) t.1 ∙ a) j x z.0 z.1 b (ap (λ (y : V). y.ticket) t.1 ∙ same)))
        (at_set s.views id j w x f))
        (λ (t : (i ≢ id) × (get_elem? s.views i ≡ some u)).
        ⊎_elim
        (λ (z : (j ≡ id) × (w ≡ x)). absurd (apart (ap (λ (y : V). y.has_ticket) z.1 ∙ b) i u t.0 t.1 a (ap (λ (y : V). y.ticket) z.1 ∙ sym same)))
        (λ (z : (j ≢ id) × (get_elem? s.views j ≡ some x)). r.ticket_once i j u x t.1 z.1 a b same)
        (at_set s.views id j w x f))
        (at_set s.views id i w u e);
    machine = machine;
    weights_sum = let t = total_set (λ (y : V). y.weight) s.views id v w at in let o = r.weights_sum in omega arith;
    entry_once = λ p. let t = total_set (λ (y : V). times p y.calls) s.views id v w at in let o = r.entry_once p in let c = calls p in omega arith;
  }

  -- an equation of the words and slots carries the rule over
  carried : (s : St) (words words' : List ℕ) (homes homes' : List (maybe.Option D)) (views : List V) → words' ≡ words → homes' ≡ homes → Rule record { words = words; homes = homes; views = views } → Rule record { words = words'; homes = homes'; views = views }
  carried s words words' homes homes' views e f r = subst (λ (z : List ℕ × List (maybe.Option D)). Rule record { words = z.0; homes = z.1; views = views }) (λ i. (sym e i, sym f i)) r

  -- a step that changes nothing
  unmoved : (s : St) (r : Rule s) (i id : ℕ) (v : V) (c : List (ℕ × D)) → get_elem? s.views id ≡ some v → (n : ℕ) → set s.words i n ≡ s.words → Rule (stepped s i n id c v keeps)
  unmoved s r i id v c at n same = subst (λ (z : List ℕ × List V). Rule record { words = z.0; homes = s.homes; views = z.1 }) (λ k. (sym same k, sym (set_again s.views id v at) k)) r

  set0 : (ws : List ℕ) (a b n : ℕ) → ws ≡ a ∷ b ∷ [] → set ws 0 n ≡ n ∷ b ∷ []
  set0 ws a b n e = ap (λ l. set l 0 n) e

  set1 : (ws : List ℕ) (a b n : ℕ) → ws ≡ a ∷ b ∷ [] → set ws 1 n ≡ a ∷ n ∷ []
  set1 ws a b n e = ap (λ l. set l 1 n) e

  words_back : (s : St) (r : Rule s) → set s.words 0 (get_or s.words 0 0) ≡ s.words
  words_back s r = ap (λ l. set l 0 (get_or l 0 0)) r.words_are ∙ sym r.words_are

  words_back1 : (s : St) (r : Rule s) → set s.words 1 (get_or s.words 1 0) ≡ s.words
  words_back1 s r = ap (λ l. set l 1 (get_or l 1 0)) r.words_are ∙ sym r.words_are

  -- what is true of the view at id isn't of one where it fails
  elsewhere : (s : St) (id : ℕ) (v : V) → get_elem? s.views id ≡ some v → (f : V → Bool) → f v ≡ false → (j : ℕ) (u : V) → get_elem? s.views j ≡ some u → f u ≡ true → j ≢ id
  elsewhere s id v at f off j u e on is = not_both on (ap f (some-injective u v (sym e ∙ (ap (get_elem? s.views) is ∙ at))) ∙ off)

  -- a ticket of another view stays, and so does one that the view itself keeps
  stands_still : (s : St) (id : ℕ) (v w : V) → get_elem? s.views id ≡ some v → (t : ℕ) → (v.has_ticket ≡ true → v.ticket ≡ t → (w.has_ticket ≡ true) × (w.ticket ≡ t)) → TicketStands s.views t → TicketStands (set s.views id w) t
  stands_still s id v w at t keeps_it x = dite (ℕ_discrete x.0 id)
      (λ is. let same : x.1 ≡ v = some-injective x.1 v (sym x.2 ∙ (ap (get_elem? s.views) is ∙ at)) in let k = keeps_it (ap (λ (y : V). y.has_ticket) (sym same) ∙ x.3) (ap (λ (y : V). y.ticket) (sym same) ∙ x.4) in (id, w, set_at s.views id v w at, k.0, k.1))
      (λ other. (x.0, x.1, set_else s.views id x.0 w other ∙ x.2, x.3, x.4))

  -- no view is served where the changed one isn't and no other is
  none_served : (s : St) (id : ℕ) (w : V) → w.is_served ≡ false → ((j : ℕ) (u : V) → j ≢ id → get_elem? s.views j ≡ some u → u.is_served ≡ false) → NoneServed (set s.views id w)
  none_served s id w off others j u e = ⊎_elim (λ (t : (j ≡ id) × (w ≡ u)). ap (λ (y : V). y.is_served) (sym t.1) ∙ off) (λ (t : (j ≢ id) × (get_elem? s.views j ≡ some u)). others j u t.0 t.1) (at_set s.views id j w u e)

  -- the machine stays where it is when a view changes that isn't served before or after
  machine_stays : (s : St) (id : ℕ) (v w : V) (history : List E) (slot : maybe.Option D) → get_elem? s.views id ≡ some v → v.is_served ≡ false → w.is_served ≡ false → MachineStands history slot s.views → MachineStands history slot (set s.views id w)
  machine_stays s id v w history slot at off off' = ⊎_elim
      (λ (x : (d : D) × (slot ≡ some d) × IsAfter state transition start history d × NoneServed s.views). inl (x.0, x.1, x.2, none_served s id w off' (λ j u _ e. x.3 j u e)))
      (λ (x : (slot ≡ none) × SomeServed s.views). let y = x.1 in inr (x.0, (y.0, y.1, set_else s.views id y.0 w (elsewhere s id v at (λ (u : V). u.is_served) off y.0 y.1 y.2 y.3) ∙ y.2, y.3)))

  pub draws : (slots id : ℕ) (me : Me D V) (t : ℕ) → me.0.has_ticket ≡ false → me.0.is_served ≡ false → 0 < me.0.weight → t < 2 ^ 62
      → Allows Rule slots id me 0 (λ n. either (eqb n t) (t + 1) n) (Drawn (step slots 0 t (t + 1) none) me)
  draws slots id me t free idle live small s r _ at _ =
      let now : get_or s.words 0 0 ≡ r.ticket = ap (λ l. get_or l 0 0) r.words_are in
      exchanged (get_or s.words 0 0) t (t + 1)
      (λ n. (w : V) × (a : Act D) × Valid s.homes me.1 a × Rule (stepped s 0 n id me.1 w a) × Drawn (step slots 0 t (t + 1) none) me (get_or s.words 0 0) (w, carried_after me.1 a))
      (λ hit. let w : V = with_ticket t me.0 in let f = r.each_view id me.0 at in let up : t ≡ r.ticket = sym hit ∙ now in let order = r.serving_at_most_ticket in let bound = r.ticket_at_most_bound in (
        w,
        keeps,
        tt,
        carried s ((t + 1) ∷ r.serving ∷ []) (set s.words 0 (t + 1)) (r.slot ∷ []) s.homes (set s.views id w) (set0 s.words r.ticket r.serving (t + 1) r.words_are) r.slots_are
            (moved s r id me.0 w at (t + 1) r.serving r.history r.slot (omega arith) (omega arith) r.entries_at_most_serving r.legal
            record { names_opening = f.names_opening; spent = λ z. absurd (omega arith); history_begins = f.history_begins; olds_begin = f.olds_begin; calls_within = f.calls_within; ticket_within = λ _. (omega arith, omega arith); served = λ e. absurd (not_both e idle) }
            (λ j u other e. let g = r.each_view j u e in record { names_opening = g.names_opening; spent = g.spent; history_begins = g.history_begins; olds_begin = g.olds_begin; calls_within = g.calls_within; ticket_within = λ h. let k = g.ticket_within h in (k.0, (let b = k.1 in omega arith)); served = g.served })
            (λ n low high. dite (ℕ_discrete n t)
            (λ is. (id, w, set_at s.views id me.0 w at, refl, sym is))
            (λ isn't. stands_still s id me.0 w at n (λ h _. absurd (not_both h free)) (r.ticket_stands n low (omega arith))))
            (λ _ j u other e h same. let k = (r.each_view j u e).ticket_within h in let b = k.1 in omega arith)
            (machine_stays s id me.0 w r.history r.slot at idle idle r.machine)
            refl
            (λ p. refl)),
        ((λ (hit' : get_or s.words 0 0 ≡ t). ap (λ (z : ℕ). (with_ticket z me.0, me.1)) (sym hit')), λ miss. absurd (miss hit)),
      ))
      (λ miss. (me.0, keeps, tt, unmoved s r 0 id me.0 me.1 at (get_or s.words 0 0) (words_back s r), ((λ hit. absurd (miss hit)), λ _. refl)))

  -- a view that has all the weight knows the whole history
  pub whole : (s : St) (r : Rule s) (id : ℕ) (v : V) → get_elem? s.views id ≡ some v → v.weight ≡ seats → r.history ≡ v.history
  whole s r id v at all =
      let f = r.each_view id v at in
      let only = λ (p : ℕ). total_only (λ (u : V). u.weight) (λ (u : V). times p u.calls) s.views id v at (r.weights_sum ∙ sym all) (λ j u e none_left. ap (times p) ((r.each_view j u e).spent none_left).1) in
      let long : length r.history ≤ length v.history = dite (dec_le (length r.history) (length v.history)) (λ h. h) (λ over. let short : length v.history < length r.history = lt_of_not-le over in let p : ℕ = length v.history in let one = once_below_some p (length r.history) short in let t = only p in let m = r.entry_once p in let mine = f.calls_within p (omega arith) in absurd (omega arith)) in
      sym (begins_whole v.history r.history f.history_begins long)

  pub looks : (slots id : ℕ) (me : Me D V) (opening : Option X) → opening ≡ Some start → me.1 ≡ [] → me.0.has_ticket ≡ true → me.0.is_served ≡ false → 0 < me.0.weight
      → Allows Rule slots id me 1 (λ n. n) (Looked state transition opening (step slots 1 0 0 none) me)
  looks slots id me opening is empty held idle live s r _ at _ =
      let v : V = me.0 in
      let f = r.each_view id v at in
      let now : get_or s.words 1 0 ≡ r.serving = ap (λ l. get_or l 1 0) r.words_are in
      dite (ℕ_discrete (get_or s.words 1 0) v.ticket)
      (λ hit.
      let w : V = served r.history v in
      let here : v.ticket ≡ r.serving = sym hit ∙ now in
      let named = f.names_opening live in
      let short = r.entries_at_most_serving in
      let wait = (f.ticket_within held).1 in
      let bound = r.ticket_at_most_bound in
      let alone : (j : ℕ) (u : V) → j ≢ id → get_elem? s.views j ≡ some u → u.has_ticket ≡ true → v.ticket ≢ u.ticket = λ j u other e h same. other (r.ticket_once j id u v e at h held (sym same)) in
      ⊎_elim
      (λ (x : (d : D) × (r.slot ≡ some d) × IsAfter state transition start r.history d × NoneServed s.views). (
        w,
        takes 0 x.0,
        ap (λ l. get_elem? l 0) (r.slots_are) ∙ ap some x.1,
        carried s (r.ticket ∷ r.serving ∷ []) (set s.words 1 (get_or s.words 1 0)) (maybe.none ∷ []) (set s.homes 0 maybe.none) (set s.views id w) (words_back1 s r ∙ r.words_are) (ap (λ l. set l 0 maybe.none) r.slots_are)
            (moved s r id v w at r.ticket r.serving r.history maybe.none r.serving_at_most_ticket r.ticket_at_most_bound r.entries_at_most_serving r.legal
            record { names_opening = f.names_opening; spent = λ z. absurd (omega arith); history_begins = begins_self r.history; olds_begin = f.olds_begin; calls_within = λ p there. let a = f.calls_within p there in let b = begins_length v.history r.history f.history_begins in omega arith; ticket_within = f.ticket_within; served = λ _. (held, here, refl) }
            (λ j u _ e. r.each_view j u e)
            (λ n low high. stands_still s id v w at n (λ h is. (h, is)) (r.ticket_stands n low high))
            (λ _. alone)
            (inr (refl, (id, w, set_at s.views id v w at, refl)))
            refl
            (λ p. refl)),
        ((λ not. absurd (not hit)), λ _. ((start, r.history, x.0, named.0, ap (λ (c : List (ℕ × D)). (w, (0, x.0) ∷ c)) empty, x.2, r.legal, f.history_begins, omega arith, (λ all. whole s r id v at (all ∙ named.1)), f.olds_begin), named.0 ∙ sym is)),
      ))
      (λ (x : (r.slot ≡ none) × SomeServed s.views). let y = x.1 in let g = (r.each_view y.0 y.1 y.2).served y.3 in
      let same : y.0 ≡ id = r.ticket_once y.0 id y.1 v y.2 at g.0 held (g.1 ∙ sym here) in
      absurd (elsewhere s id v at (λ (u : V). u.is_served) idle y.0 y.1 y.2 y.3 same))
      r.machine)
      (λ miss. (me.0, keeps, tt, unmoved s r 1 id me.0 me.1 at (get_or s.words 1 0) (words_back1 s r), ((λ _. refl), λ hit. absurd (miss hit))))

  -- the next ticket is served, and the history gets what the view gets
  served_next : (s : St) (r : Rule s) (id : ℕ) (v w : V) (d : D) (history : List E) → get_elem? s.views id ≡ some v → v.is_served ≡ true → 0 < v.weight
      → (w.has_ticket ≡ false) × (w.is_served ≡ false) × (w.weight ≡ v.weight) × (w.start ≡ v.start) × (w.seats ≡ v.seats) × (w.olds ≡ v.olds) × (w.history ≡ history)
      → IsPrefix r.history history → length history ≤ suc (length r.history) → IsLegal transition start history → IsAfter state transition start history d
      → ((p : ℕ) → 0 < times p w.calls → p < length history)
      → ((p : ℕ) → times p w.calls + once_below p (length r.history) ≡ times p v.calls + once_below p (length history))
      → Rule record { words = r.ticket ∷ (r.serving + 1) ∷ []; homes = some d ∷ []; views = set s.views id w }
  served_next s r id v w d history at turn live same longer short legal home own calls =
      let f = r.each_view id v at in
      let mine = f.served turn in
      let wait = f.ticket_within mine.0 in
      let a : r.serving ≤ v.ticket = wait.0 in
      let b : v.ticket < r.ticket = wait.1 in
      let here : v.ticket ≡ r.serving = mine.1 in
      let bound = r.ticket_at_most_bound in
      let long = r.entries_at_most_serving in
      let free = same.0 in
      let idle = same.1 in
      let alone : (j : ℕ) (u : V) → j ≢ id → get_elem? s.views j ≡ some u → u.is_served ≡ false = λ j u other e. not_true u.is_served (λ h. let k = (r.each_view j u e).served h in other (r.ticket_once j id u v e at k.0 mine.0 (k.1 ∙ sym here))) in
      moved s r id v w at r.ticket (r.serving + 1) history (some d) (omega arith) bound (omega arith) legal
      record {
        names_opening = λ l. let n = f.names_opening live in (same.3 ∙ n.0, same.4 ∙ n.1);
        spent = λ z. let e : w.weight ≡ v.weight = same.2 in absurd (omega arith);
        history_begins = subst (λ h. IsPrefix h history) (sym same.6) (begins_self history);
        olds_begin = λ k old e. begins_trans old r.history history (f.olds_begin k old (ap (λ l. get_elem? l k) (sym same.5) ∙ e)) longer;
        calls_within = λ p there. let o = own p there in subst (λ h. p < length h) (sym same.6) o;
        ticket_within = λ h. absurd (not_both h free);
        served = λ h. absurd (not_both h idle);
      }
      (λ j u other e. let g = r.each_view j u e in record {
        names_opening = g.names_opening;
        spent = g.spent;
        history_begins = begins_trans u.history r.history history g.history_begins longer;
        olds_begin = λ k old e'. begins_trans old r.history history (g.olds_begin k old e') longer;
        calls_within = g.calls_within;
        ticket_within = λ h. let k = g.ticket_within h in let c : r.serving ≤ u.ticket = k.0 in
            let not_served : u.ticket ≢ v.ticket = λ same_ticket. other (r.ticket_once j id u v e at h mine.0 same_ticket) in ((omega arith), k.1);
        served = λ h. absurd (not_both h (alone j u other e));
      })
      (λ n low high. stands_still s id v w at n (λ _ is. absurd (omega arith)) (r.ticket_stands n (omega arith) high))
      (λ h. absurd (not_both h free))
      (inl (d, refl, home, none_served s id w idle alone))
      same.2
      calls

  passes_by : (slots id : ℕ) (v : V) (d : D) (added : Option (A × R)) → v.is_served ≡ true → 0 < v.weight → (x : X) → v.start ≡ Some x
      → (m : M) → d.machine ≡ Some m → IsAnswered state transition (state_after transition x v.history) (length v.history) added (state m) d.entries
      → (s : St) (r : Rule s) → get_elem? s.views id ≡ some v
      → Rule record { words = r.ticket ∷ (r.serving + 1) ∷ []; homes = some d ∷ []; views = set s.views id (passed added v) }
  passes_by slots id v d None turn live x begun m holds answers s r at =
      let f = r.each_view id v at in
      let mine = f.served turn in
      let from : x ≡ start = cc (begun, (f.names_opening live).0) in
      served_next s r id v (passed None v) d r.history at turn live (refl, refl, refl, refl, refl, refl, mine.2) (begins_self r.history) (omega arith) r.legal
      (m, holds, answers.0 ∙ (λ i. state_after transition (from i) (mine.2 i)), answers.1 ∙ ap length mine.2)
      (λ p there. let o = f.calls_within p there in subst (λ h. p < length h) mine.2 o)
      (λ p. refl)
  passes_by slots id v d (Some e) turn live x begun m holds answers s r at =
      let f = r.each_view id v at in
      let mine = f.served turn in
      let from : x ≡ start = cc (begun, (f.names_opening live).0) in
      let call : E = entry e.0 e.1 in
      let history : List E = r.history ++ call ∷ [] in
      let ran : transition (state_after transition start r.history) call.ask ≡ (state m, call.reply) = subst (λ y. transition y call.ask ≡ (state m, call.reply)) (λ i. state_after transition (from i) (mine.2 i)) answers.0 in
      let long : length history ≡ suc (length r.history) = length_snoc r.history call in
      let old : length v.history ≡ length r.history = ap length mine.2 in
      served_next s r id v (passed (Some e) v) d history at turn live (refl, refl, refl, refl, refl, refl, ap (λ h. h ++ call ∷ []) mine.2) (call ∷ [], refl) (omega arith) (legal_snoc transition start r.history call r.legal (ap (λ t. t.1) ran))
      (m, holds, sym (ap (λ t. t.0) ran) ∙ sym (state_after_snoc transition start r.history call), (let n = answers.1 in omega (arith, n, old, long)))
      (λ p there. let o = own_snoc p (length v.history) v.calls (f.calls_within p) there in omega (arith, long, old))
      (λ p. count_snoc p v.calls (length v.history) (length r.history) (length history) old long)

  pub passes : (slots id : ℕ) (me : Me D V) (d : D) (added : Option (A × R)) → me.1 ≡ (0, d) ∷ [] → me.0.is_served ≡ true → 0 < me.0.weight → (x : X) → me.0.start ≡ Some x → IsReturned state transition x me.0.history added d
      → Allows Rule slots id me 1 (λ n. (n + 1) % 2 ^ 64) (PassedOn added (step slots 1 1 0 none) me)
  passes slots id me d added out turn live x begun h = subst (λ c. Allows Rule slots id (me.0, c) 1 (λ n. (n + 1) % 2 ^ 64) (PassedOn added (step slots 1 1 0 none) (me.0, c))) (sym out)
      (λ s r _ at _.
      let now : get_or s.words 1 0 ≡ r.serving = ap (λ l. get_or l 1 0) r.words_are in
      let order = r.serving_at_most_ticket in
      let bound = r.ticket_at_most_bound in
      let up : (get_or s.words 1 0 + 1) % 18446744073709551616 ≡ r.serving + 1 = omega arith in (
        passed added me.0,
        gives,
        tt,
        carried s (r.ticket ∷ (r.serving + 1) ∷ []) (set s.words 1 ((get_or s.words 1 0 + 1) % 18446744073709551616)) (some d ∷ []) (set s.homes 0 (some d)) (set s.views id (passed added me.0))
            (set1 s.words r.ticket r.serving _ r.words_are ∙ ap (λ n. r.ticket ∷ n ∷ []) up) (ap (λ l. set l 0 (some d)) r.slots_are)
            (passes_by slots id me.0 d added turn live x begun h.0 h.1 h.2 s r at),
        refl,
      ))
