-- Where a table opens and closes, and where seats are split and joined, the rule is kept.
use Rattle.std.proofs.Common.{◌≡◌, ◌≢◌, ◌⊎◌, inl, inr, ⊎_elim, ℕ, zero, suc, ◌+◌, ◌<◌, Bool, true, false, List, [], ◌∷◌, ◌++◌, length, set, Some, refl, ap, sym, ◌∙◌, subst, arith}
use mathlib.Core.Option.{some, none, some-injective, some-ne-none}
use mathlib.Core.List.{IsPrefix}
use lib.ListN.{get_elem?}
use Rattle.atomic_table.specs.Table.{State, opening, Splits, Joins, Seen}
use Rattle.atomic_table.proofs.Lists.{at_set, at_snoc, at_longer, set_else}
use Rattle.rg_turn.specs.declared.rule.Entry.{Entry}
use Rattle.rg_turn.specs.declared.rule.SeatView.{SeatView}
use Rattle.rg_turn.specs.declared.rule.Slot.{Slot}
use Rattle.rg_turn.specs.Counting.{times, once_below, total}
use Rattle.rg_turn.specs.History.{IsLegal}
use Rattle.rg_turn.specs.View.{opening_view, lightened, split_off, history_only, joined, spent_view}
use Rattle.rg_turn.specs.Rule.{AllBegin, SomeServed, NoneServed, ViewHolds, IsAfter, RuleHolds}
use Rattle.rg_turn.proofs.Histories.{legal_none, once_below_none, total_only, total_least, total_set, total_snoc, times_append, longer_prefix, longer_first, longer_second}
use Rattle.rg_turn.proofs.Moves.{not_both, not_true, whole}

module _ {M A R X : Type 0} (state : M → X) (transition : X → A → X × R) (start : X) (seats : ℕ) where
  abbrev V : Type 0
  V = SeatView A R X

  abbrev D : Type 0
  D = Slot M

  abbrev H : Type 0
  H = List (Entry A R)

  abbrev St : Type 0
  St = State D V

  abbrev Rule : St → Type 0
  Rule = RuleHolds state transition start seats

  off : {b : Bool} → b ≡ false → b ≡ true → ⊥
  off f t = not_both t f

  -- the views change but for those with a ticket, and nothing else changes
  regrouped : (s : St) (r : Rule s) (views : List V)
      → ((j : ℕ) (u : V) → get_elem? views j ≡ some u → ViewHolds start seats r.history r.serving r.ticket u)
      → ((j : ℕ) (u : V) → get_elem? views j ≡ some u → u.has_ticket ≡ true → get_elem? s.views j ≡ some u)
      → ((j : ℕ) (u : V) → get_elem? s.views j ≡ some u → u.has_ticket ≡ true → get_elem? views j ≡ some u)
      → total (λ (u : V). u.weight) views ≡ total (λ (u : V). u.weight) s.views
      → ((p : ℕ) → total (λ (u : V). times p u.calls) views ≡ total (λ (u : V). times p u.calls) s.views)
      → Rule record { words = s.words; homes = s.homes; views = views }
  regrouped s r views each back on weights calls = record {
    history = r.history;
    ticket = r.ticket;
    serving = r.serving;
    slot = r.slot;
    words_are = r.words_are;
    slots_are = r.slots_are;
    serving_at_most_ticket = r.serving_at_most_ticket;
    ticket_at_most_bound = r.ticket_at_most_bound;
    entries_at_most_serving = r.entries_at_most_serving;
    legal = r.legal;
    each_view = each;
    ticket_stands = λ t low high. let x = r.ticket_stands t low high in (x.0, x.1, on x.0 x.1 x.2 x.3, x.3, x.4);
    ticket_once = λ i j u x e f a b same. r.ticket_once i j u x (back i u e a) (back j x f b) a b same;
    machine = ⊎_elim
        (λ (x : (d : D) × (r.slot ≡ some d) × IsAfter state transition start r.history d × NoneServed s.views). inl (x.0, x.1, x.2, λ j u e. not_true u.is_served (λ h. not_both h (x.3 j u (back j u e ((each j u e).served h).0)))))
        (λ (x : (r.slot ≡ none) × SomeServed s.views). let y = x.1 in inr (x.0, (y.0, y.1, on y.0 y.1 y.2 ((r.each_view y.0 y.1 y.2).served y.3).0, y.3)))
        r.machine;
    weights_sum = weights ∙ r.weights_sum;
    entry_once = λ p. calls p ∙ r.entry_once p;
  }

  -- what the rule says of a view that has no ticket
  calm : (history : H) (serving ticket : ℕ) (v : V) → v.has_ticket ≡ false → v.is_served ≡ false → (0 < v.weight → (v.start ≡ Some start) × (v.seats ≡ seats)) → (v.weight ≡ 0 → v.calls ≡ [])
      → IsPrefix v.history history → AllBegin v.olds history → ((p : ℕ) → 0 < times p v.calls → p < length v.history) → ViewHolds start seats history serving ticket v
  calm history serving ticket v free idle named spent begins olds own = record {
    names_opening = named;
    spent = λ z. (free, spent z);
    history_begins = begins;
    olds_begin = olds;
    calls_within = own;
    ticket_within = λ h. absurd (off free h);
    served = λ h. absurd (off idle h);
  }

  -- a new seat with a view that has no ticket
  splits : (id : ℕ) (v l n : V) → v.has_ticket ≡ false → (l.has_ticket ≡ false) × (l.calls ≡ v.calls) → (n.has_ticket ≡ false) × (n.calls ≡ []) → l.weight + n.weight ≡ v.weight
      → ((s : St) (r : Rule s) → ViewHolds start seats r.history r.serving r.ticket v → ViewHolds start seats r.history r.serving r.ticket l × ViewHolds start seats r.history r.serving r.ticket n)
      → Splits Rule id v l n
  splits id v l n free left right weights fits s r at =
      let both = fits s r (r.each_view id v at) in
      let mid : List V = set s.views id l in
      regrouped s r (mid ++ n ∷ [])
      (λ j u e. ⊎_elim
      (λ (h : get_elem? mid j ≡ some u). ⊎_elim (λ (t : (j ≡ id) × (l ≡ u)). subst (ViewHolds start seats r.history r.serving r.ticket) t.1 both.0) (λ (t : (j ≢ id) × (get_elem? s.views j ≡ some u)). r.each_view j u t.1) (at_set s.views id j l u h))
      (λ (same : n ≡ u). subst (ViewHolds start seats r.history r.serving r.ticket) same both.1)
      (at_snoc mid n u j e))
      (λ j u e held. ⊎_elim
      (λ (h : get_elem? mid j ≡ some u). ⊎_elim (λ (t : (j ≡ id) × (l ≡ u)). absurd (off left.0 (ap (λ (y : V). y.has_ticket) t.1 ∙ held))) (λ (t : (j ≢ id) × (get_elem? s.views j ≡ some u)). t.1) (at_set s.views id j l u h))
      (λ (same : n ≡ u). absurd (off right.0 (ap (λ (y : V). y.has_ticket) same ∙ held)))
      (at_snoc mid n u j e))
      (λ j u e held. at_longer mid (n ∷ []) j u (set_else s.views id j l (λ is. not_both held (ap (λ (y : V). y.has_ticket) (some-injective u v (sym e ∙ (ap (get_elem? s.views) is ∙ at))) ∙ free)) ∙ e))
      (let t = total_set (λ (u : V). u.weight) s.views id v l at in let m = total_snoc (λ (u : V). u.weight) mid n in omega arith)
      (λ p. let t = total_set (λ (u : V). times p u.calls) s.views id v l at in let m = total_snoc (λ (u : V). times p u.calls) mid n in
      let a : times p l.calls ≡ times p v.calls = ap (times p) left.1 in let b : times p n.calls ≡ 0 = ap (times p) right.1 in omega arith)

  pub gives_weight : (id : ℕ) (v : V) → v.has_ticket ≡ false → v.is_served ≡ false → 1 < v.weight → Splits Rule id v (lightened v) (split_off v)
  gives_weight id v free idle heavy = splits id v (lightened v) (split_off v) free (free, refl) (refl, refl) (omega arith)
      (λ s r f. let named = f.names_opening (omega arith) in (
        calm r.history r.serving r.ticket (lightened v) free idle (λ _. named) (λ z. absurd (omega arith)) f.history_begins f.olds_begin f.calls_within,
        calm r.history r.serving r.ticket (split_off v) refl refl (λ _. named) (λ _. refl) f.history_begins (λ k old e. absurd (some-ne-none old (sym e))) (λ p l. absurd (omega arith)),
      ))

  pub keeps_history : (id : ℕ) (v : V) → v.has_ticket ≡ false → Splits Rule id v v (history_only v)
  keeps_history id v free = splits id v v (history_only v) free (free, refl) (refl, refl) (omega arith)
      (λ s r f. (f, calm r.history r.serving r.ticket (history_only v) refl refl (λ z. absurd (omega arith)) (λ _. refl) f.history_begins (λ k old e. absurd (some-ne-none old (sym e))) (λ p l. absurd (omega arith))))

  olds_append : (history : H) (xs ys : List H) → AllBegin xs history → AllBegin ys history → AllBegin (xs ++ ys) history
  olds_append history [] ys f g k old e = g k old e
  olds_append history (x ∷ xs) ys f g zero old e = f zero old e
  olds_append history (x ∷ xs) ys f g (suc k) old e = olds_append history xs ys (λ m. f (suc m)) g k old e

  olds_cons : (history x : H) (ys : List H) → IsPrefix x history → AllBegin ys history → AllBegin (x ∷ ys) history
  olds_cons history x ys p g zero old e = subst (λ h. IsPrefix h history) (some-injective x old e) p
  olds_cons history x ys p g (suc k) old e = g k old e

  pub takes_over : (id : ℕ) (v : V) (other : ℕ) (w : V) → v.has_ticket ≡ false → v.is_served ≡ false → 0 < v.weight → w.has_ticket ≡ false → Joins Rule id v other w (joined v w) spent_view
  takes_over id v other w free idle live free' s r at apart there =
      let b : V = joined v w in
      let mid : List V = set s.views id b in
      let theirs : get_elem? s.views other ≡ some w = ⊎_elim (λ (t : (other ≡ id) × (b ≡ w)). absurd (apart t.0)) (λ (t : (other ≢ id) × (get_elem? s.views other ≡ some w)). t.1) (at_set s.views id other b w there) in
      let f = r.each_view id v at in
      let g = r.each_view other w theirs in
      let mine : ViewHolds start seats r.history r.serving r.ticket b = calm r.history r.serving r.ticket b free idle (λ _. f.names_opening live) (λ z. absurd (omega arith)) (longer_prefix v.history w.history r.history f.history_begins g.history_begins)
      (olds_cons r.history v.history (w.history ∷ v.olds ++ w.olds) f.history_begins (olds_cons r.history w.history (v.olds ++ w.olds) g.history_begins (olds_append r.history v.olds w.olds f.olds_begin g.olds_begin)))
      (λ p l. let o = f.calls_within p in let o' = g.calls_within p in let a = longer_first v.history w.history in let c = longer_second v.history w.history in let t = times_append p v.calls w.calls in
      ⊎_elim (λ (x : 0 < times p v.calls). let y = o x in omega arith) (λ (x : 0 < times p w.calls). let y = o' x in omega arith) (some_of (times p v.calls) (times p w.calls) (omega arith))) in
      let spent : ViewHolds start seats r.history r.serving r.ticket spent_view = calm r.history r.serving r.ticket spent_view refl refl (λ z. absurd (omega arith)) (λ _. refl) (r.history, refl) (λ k old e. absurd (some-ne-none old (sym e))) (λ p l. absurd (omega arith)) in
      regrouped s r (set mid other spent_view)
      (λ j u e. ⊎_elim (λ (t : (j ≡ other) × (spent_view ≡ u)). subst (ViewHolds start seats r.history r.serving r.ticket) t.1 spent)
      (λ (t : (j ≢ other) × (get_elem? mid j ≡ some u)). ⊎_elim (λ (x : (j ≡ id) × (b ≡ u)). subst (ViewHolds start seats r.history r.serving r.ticket) x.1 mine) (λ (x : (j ≢ id) × (get_elem? s.views j ≡ some u)). r.each_view j u x.1) (at_set s.views id j b u t.1))
      (at_set mid other j spent_view u e))
      (λ j u e held. ⊎_elim (λ (t : (j ≡ other) × (spent_view ≡ u)). absurd (off refl (ap (λ (y : V). y.has_ticket) t.1 ∙ held)))
      (λ (t : (j ≢ other) × (get_elem? mid j ≡ some u)). ⊎_elim (λ (x : (j ≡ id) × (b ≡ u)). absurd (off free (ap (λ (y : V). y.has_ticket) x.1 ∙ held))) (λ (x : (j ≢ id) × (get_elem? s.views j ≡ some u)). x.1) (at_set s.views id j b u t.1))
      (at_set mid other j spent_view u e))
      (λ j u e held.
      let not_id : j ≢ id = λ is. not_both held (ap (λ (y : V). y.has_ticket) (some-injective u v (sym e ∙ (ap (get_elem? s.views) is ∙ at))) ∙ free) in
      let not_other : j ≢ other = λ is. not_both held (ap (λ (y : V). y.has_ticket) (some-injective u w (sym e ∙ (ap (get_elem? s.views) is ∙ theirs))) ∙ free') in
      set_else mid other j spent_view not_other ∙ (set_else s.views id j b not_id ∙ e))
      (let t = total_set (λ (u : V). u.weight) s.views id v b at in let m = total_set (λ (u : V). u.weight) mid other w spent_view there in omega arith)
      (λ p. let t = total_set (λ (u : V). times p u.calls) s.views id v b at in let m = total_set (λ (u : V). times p u.calls) mid other w spent_view there in let a = times_append p v.calls w.calls in omega arith)
    where
      some_of : (a b : ℕ) → 0 < a + b → (0 < a) ⊎ (0 < b)
      some_of zero b l = inr (omega arith)
      some_of (suc a) b l = inl (omega arith)

  pub opens : (d : D) (m : M) → d.machine ≡ Some m → state m ≡ start → d.entries ≡ 0 → 0 < seats → Rule (opening (0 ∷ 0 ∷ []) (d ∷ []) (opening_view start seats seats))
  opens d m holds is none_yet some_seat = record {
    history = [];
    ticket = 0;
    serving = 0;
    slot = some d;
    words_are = refl;
    slots_are = refl;
    serving_at_most_ticket = omega arith;
    ticket_at_most_bound = omega arith;
    entries_at_most_serving = omega arith;
    legal = legal_none transition start;
    each_view = one;
    ticket_stands = λ t low high. absurd (omega arith);
    ticket_once = λ i j v w e f a b same. absurd (off refl (ap (λ (y : V). y.has_ticket) (at_one i v e) ∙ a));
    machine = inl (d, refl, (m, holds, is, none_yet), λ j v e. ap (λ (y : V). y.is_served) (sym (at_one j v e)));
    weights_sum = omega arith;
    entry_once = λ p. sym (once_below_none p);
  }
    where
      at_one : (j : ℕ) (v : V) → get_elem? (opening_view start seats seats ∷ []) j ≡ some v → opening_view start seats seats ≡ v
      at_one zero v e = some-injective (opening_view start seats seats) v e
      at_one (suc j) v e = absurd (some-ne-none v (sym e))

      one : (j : ℕ) (v : V) → get_elem? (opening_view start seats seats ∷ []) j ≡ some v → ViewHolds start seats [] 0 0 v
      one j v e = subst (ViewHolds start seats [] 0 0) (at_one j v e) (calm [] 0 0 (opening_view start seats seats) refl refl (λ _. (refl, refl)) (λ z. absurd (omega arith)) ([], refl) (λ k old e'. absurd (some-ne-none old (sym e'))) (λ p l. absurd (omega arith)))

  -- at the end one view has all the weight: the machine is in its slot, and the view knows all
  pub closes : (s : St) (id : ℕ) (v : V) → Seen Rule id v s → v.has_ticket ≡ false → v.is_served ≡ false → 0 < v.weight → v.weight ≡ seats
      → (d : D) × (get_elem? s.homes 0 ≡ some (some d)) × IsAfter state transition start v.history d × IsLegal transition start v.history × (v.start ≡ Some start)
      × AllBegin v.olds v.history × ((p : ℕ) → times p v.calls ≡ once_below p (length v.history))
  closes s id v seen free idle live all =
      let r = seen.0 in
      let at = seen.1 in
      let f = r.each_view id v at in
      let same : r.history ≡ v.history = whole state transition start seats s r id v at all in
      let weighed : total (λ (u : V). u.weight) s.views ≡ v.weight = r.weights_sum ∙ sym all in
      let nobody's : total turns s.views ≡ 0 = total_only (λ (u : V). u.weight) turns s.views id v at weighed (λ j u e none_left. no_turn u (λ on. off ((r.each_view j u e).spent none_left).0 ((r.each_view j u e).served on).0)) ∙ no_turn v (off idle) in
      let home : (d : D) × (r.slot ≡ some d) × IsAfter state transition start r.history d = ⊎_elim
      (λ (x : (d : D) × (r.slot ≡ some d) × IsAfter state transition start r.history d × NoneServed s.views). (x.0, x.1, x.2))
      (λ (x : (r.slot ≡ none) × SomeServed s.views). let y = x.1 in let l = total_least turns s.views y.0 y.1 y.2 in let one : turns y.1 ≡ 1 = ap as_number y.3 in absurd (omega arith)) r.machine in (
        home.0,
        ap (λ h. get_elem? h 0) r.slots_are ∙ ap some home.1,
        subst (λ h. IsAfter state transition start h home.0) same home.2,
        subst (IsLegal transition start) same r.legal,
        (f.names_opening live).0,
        λ k old e. subst (IsPrefix old) same (f.olds_begin k old e),
        λ p. sym (total_only (λ (u : V). u.weight) (λ (u : V). times p u.calls) s.views id v at weighed (λ j u e none_left. ap (times p) ((r.each_view j u e).spent none_left).1)) ∙ (r.entry_once p ∙ ap (λ h. once_below p (length h)) same),
      )
    where
      as_number : Bool → ℕ
      as_number true = 1
      as_number false = 0

      turns : V → ℕ
      turns u = as_number u.is_served

      no_turn : (u : V) → (u.is_served ≡ true → ⊥) → turns u ≡ 0
      no_turn u not = by_turn u.is_served not
        where
          by_turn : (b : Bool) → (b ≡ true → ⊥) → as_number b ≡ 0
          by_turn true n = absurd (n refl)
          by_turn false n = refl
