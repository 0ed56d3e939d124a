-- What a seat knows after its call.
use Rattle.std.proofs.Common.{◌≡◌, ℕ, false, List, [], ◌∷◌, ◌++◌, ◌+◌, ◌<◌, ◌≤◌, ◌^◌, length, replicate, arith, Some, Result, Ok, Err, refl, sym, ap, ◌∙◌, subst}
use Rattle.std.specs.Prelude.{IfOk, MatchResult}
use mathlib.Core.List.{IsPrefix}
use Rattle.atomic_table.specs.Table.{Me}
use Rattle.atomic_table.specs.declared.shared.Seat.{Seat}
use Rattle.std.proofs.lemmas.List.{replicate-append-replicate}
use Rattle.rg_base.specs.declared.numbers.NoMemory.{NoMemory}
use Rattle.rg_turn.specs.declared.rule.Entry.{Entry}
use Rattle.rg_turn.specs.declared.rule.SeatView.{SeatView}
use Rattle.rg_turn.specs.declared.rule.Slot.{Slot}
use Rattle.rg_turn.specs.Counting.{times, once_below, positions}
use Rattle.rg_turn.specs.History.{state_after, IsLegal}
use Rattle.rg_turn.specs.View.{entry, with_ticket, passed_with, passed_without}
use Rattle.rg_turn.specs.Steps.{IsServed}
use Rattle.rg_turn.specs.Values.{EachOnce}
use Rattle.rg_turn.specs.Seats.{seat_value, IsAlone, IsCounted}
use Rattle.rg_turn.proofs.Histories.{begins_more, begins_length, length_snoc, legal_snoc, times_snoc, once_below_suc, once_below_grows}

module _ {M A R X : Type 0} (state : M → X) (transition : X → A → X × R) where
  abbrev V : Type 0
  V = SeatView A R X

  abbrev Mine : Type 0
  Mine = Me (Slot M) V

  -- the seat passed on, with an entry or without
  abbrev Passed : A → V → Mine → Result R NoMemory → Type 0
  Passed a v m result = MatchResult result (λ r. m ≡ (passed_with a r v, [])) (λ _. m ≡ (passed_without v, []))

  -- the reply is the machine's
  abbrev Replied : A → V → Result R NoMemory → Type 0
  Replied a v result = IfOk result (λ r. (x : X) × (v.start ≡ Some x) × ((transition (state_after transition x v.history) a).1 ≡ r))

  abbrev Legal : V → Type 0
  Legal v = (x : X) × (v.start ≡ Some x) × IsLegal transition x v.history

  pub stays_legal : (a : A) (v : V) (m : Mine) (result : Result R NoMemory) → Passed a v m result → Replied a v result → Legal v → Legal m.0
  stays_legal a v m (Ok r) e replied l =
      let same : replied.0 ≡ l.0 = cc (replied.1, l.1) in
      let reply : (transition (state_after transition l.0 v.history) a).1 ≡ r = subst (λ x. (transition (state_after transition x v.history) a).1 ≡ r) same replied.2 in
      subst (λ (z : Mine). Legal z.0) (sym e) (l.0, l.1, legal_snoc transition l.0 v.history (entry a r) l.2 reply)
  stays_legal a v m (Err _) e replied l = subst (λ (z : Mine). Legal z.0) (sym e) l

  pub legal_from : (v : V) (x : X) → Legal v → v.start ≡ Some x → IsLegal transition x v.history
  legal_from v x l is = let same : l.0 ≡ x = cc (l.1, is) in subst (λ y. IsLegal transition y v.history) same l.2

  pub start_stays : (a : A) (v : V) (m : Mine) (result : Result R NoMemory) → Passed a v m result → m.0.start ≡ v.start
  start_stays a v m (Ok r) e = ap {A = Mine} (λ z. z.0.start) e
  start_stays a v m (Err _) e = ap {A = Mine} (λ z. z.0.start) e

  pub goes_on : (h : List (Entry A R)) (a : A) (v : V) (m : Mine) (result : Result R NoMemory) → Passed a v m result → IsPrefix h v.history → IsPrefix h m.0.history
  goes_on h a v m (Ok r) e p = subst (λ (z : Mine). IsPrefix h z.0.history) (sym e) (begins_more h v.history (entry a r ∷ []) p)
  goes_on h a v m (Err _) e p = subst (λ (z : Mine). IsPrefix h z.0.history) (sym e) p

  pub served_legal : (m m' : Mine) → IsServed state transition m m' → Legal m'.0
  served_legal m m' t = subst (λ (z : Mine). Legal z.0) (sym t.4) (t.0, t.3, t.6)

  pub served_begins : (m m' : Mine) → IsServed state transition m m' → IsPrefix m.0.history m'.0.history
  served_begins m m' t = subst (λ (z : Mine). IsPrefix m.0.history z.0.history) (sym t.4) t.7

  -- what the steps of a call leave as it was
  abbrev Kept : V → Mine → Type 0
  Kept v m = (m.1 ≡ []) × (m.0.has_ticket ≡ false) × (m.0.is_served ≡ false) × (m.0.weight ≡ v.weight) × (m.0.olds ≡ v.olds)

  kept : (a : A) (v : V) (m : Mine) (result : Result R NoMemory) → Passed a v m result → Kept v m
  kept a v m (Ok r) e = subst (Kept v) (sym e) (refl, refl, refl, refl, refl)
  kept a v m (Err _) e = subst (Kept v) (sym e) (refl, refl, refl, refl, refl)

  -- the seat is served: its calls stand each once, and there is room for one more entry
  abbrev HasRoom : V → Type 0
  HasRoom v = EachOnce v.calls v.history × (length v.calls ≤ length v.history) × (length v.history < 2 ^ 62)

  served_room : (m m' : Mine) → IsServed state transition m m' → IsCounted m.0 → HasRoom m'.0
  served_room m m' t c = subst (λ (z : Mine). HasRoom z.0) (sym t.4)
      (let l = begins_length m.0.history t.1 t.7 in let few = c.1 in ((λ p. let o = c.0 p in let g = once_below_grows p (length m.0.history) (length t.1) l in omega arith), omega arith, t.8))

  once_more : (v : V) (e : Entry A R) → EachOnce v.calls v.history → EachOnce (v.calls ++ length v.history ∷ []) (v.history ++ e ∷ [])
  once_more v e c p = subst (λ n. times p (v.calls ++ length v.history ∷ []) ≤ once_below p n) (sym (length_snoc v.history e))
      (let t = times_snoc p v.calls (length v.history) in let o = c p in let u = once_below_suc p (length v.history) in omega arith)

  stays_counted : (a : A) (v : V) (m : Mine) (result : Result R NoMemory) → Passed a v m result → HasRoom v → IsCounted m.0
  stays_counted a v m (Ok r) e c = subst (λ (z : Mine). IsCounted z.0) (sym e)
      (let l = length_snoc v.calls (length v.history) in let h = length_snoc v.history (entry a r) in let few = c.1 in let room = c.2 in (once_more v (entry a r) c.0, omega (arith, l, h, few), omega (arith, h, room)))
  stays_counted a v m (Err _) e c = subst (λ (z : Mine). IsCounted z.0) (sym e) (let room = c.2 in (c.0, c.1, omega arith))

  alone_served : (m m' : Mine) → IsServed state transition m m' → m.0.weight ≡ 1 → IsAlone m.0 → IsAlone m'.0
  alone_served m m' t one a = subst (λ (z : Mine). IsAlone z.0) (sym t.4) (λ all. a all ∙ ap (λ h. positions (length h)) (sym (t.9 (one ∙ sym all))))

  stays_alone : (a : A) (v : V) (m : Mine) (result : Result R NoMemory) → Passed a v m result → IsAlone v → IsAlone m.0
  stays_alone a v m (Ok r) e k = subst (λ (z : Mine). IsAlone z.0) (sym e) (λ all. ap (λ l. l ++ length v.history ∷ []) (k all) ∙ ap positions (sym (length_snoc v.history (entry a r))))
  stays_alone a v m (Err _) e k = subst (λ (z : Mine). IsAlone z.0) (sym e) k

  -- what is true of a seat between its calls, but for the number that it keeps
  abbrev pub Sound : Mine → Type 0
  Sound m = ((m.1 ≡ []) × (m.0.has_ticket ≡ false) × (m.0.is_served ≡ false) × (m.0.weight ≡ 1) × (m.0.olds ≡ []) × Legal m.0) × IsCounted m.0 × IsAlone m.0

  pub stays_sound : (m0 m1 m2 m3 : Mine) (t : ℕ) (a : A) (result : Result R NoMemory) → m1 ≡ (with_ticket t m0.0, []) → IsServed state transition m1 m2 → Passed a m2.0 m3 result → Replied a m2.0 result
      → m0.0.weight ≡ 1 → m0.0.olds ≡ [] → IsCounted m0.0 → IsAlone m0.0 → Sound m3
  stays_sound m0 m1 m2 m3 t a result drew look pass replied one none_old counted alone =
      let k = kept a m2.0 m3 result pass in
      let one' : m1.0.weight ≡ 1 = ap {A = Mine} (λ m. m.0.weight) drew ∙ one in (
        (k.0, k.1, k.2, k.3 ∙ ap {A = Mine} (λ m. m.0.weight) look.4 ∙ one', k.4 ∙ ap {A = Mine} (λ m. m.0.olds) look.4 ∙ ap {A = Mine} (λ m. m.0.olds) drew ∙ none_old, stays_legal a m2.0 m3 result pass replied (served_legal m1 m2 look)),
        stays_counted a m2.0 m3 result pass (served_room m1 m2 look (subst {A = Mine} (λ m. IsCounted m.0) (sym drew) counted)),
        stays_alone a m2.0 m3 result pass (alone_served m1 m2 look one' (subst {A = Mine} (λ m. IsAlone m.0) (sym drew) alone)),
      )

  -- the calls that a seat had are those that it has until it passes on
  calls_stay : (m0 m1 m2 : Mine) (t : ℕ) → m1 ≡ (with_ticket t m0.0, []) → IsServed state transition m1 m2 → m2.0.calls ≡ m0.0.calls
  calls_stay m0 m1 m2 t drew look = ap {A = Mine} (λ m. m.0.calls) look.4 ∙ ap {A = Mine} (λ m. m.0.calls) drew

  pub counts_call : (m0 m1 m2 m3 : Mine) (t : ℕ) (a : A) (r : R) (n : ℕ) → m1 ≡ (with_ticket t m0.0, []) → IsServed state transition m1 m2 → m3 ≡ (passed_with a r m2.0, []) → n ≡ length m0.0.calls → n + 1 ≡ length m3.0.calls
  counts_call m0 m1 m2 m3 t a r n drew look pass is = let c = ap length (calls_stay m0 m1 m2 t drew look) in let l = length_snoc m2.0.calls (length m2.0.history) in let s = ap {A = Mine} (λ m. length m.0.calls) pass in omega (arith, c, l, s, is)

  pub counts_none : (m0 m1 m2 m3 : Mine) (t : ℕ) (n : ℕ) → m1 ≡ (with_ticket t m0.0, []) → IsServed state transition m1 m2 → m3 ≡ (passed_without m2.0, []) → n ≡ length m0.0.calls → n ≡ length m3.0.calls
  counts_none m0 m1 m2 m3 t n drew look pass is = is ∙ sym (ap length (calls_stay m0 m1 m2 t drew look)) ∙ sym (ap {A = Mine} (λ m. length m.0.calls) pass)

-- seats of one table that know the same look alike
pub alike : {M A R X : Type 0} (p q : Seat (Slot M) (SeatView A R X)) → p.table_id ≡ q.table_id → p.me.0.seats ≡ q.me.0.seats → p.me.0.start ≡ q.me.0.start → p.me.0.history ≡ q.me.0.history → p.me.0.calls ≡ q.me.0.calls → seat_value p ≡ seat_value q
alike p q t n x h c = λ i. record { turn = record { table = t i; seats = n i; start = x i }; history = h i; calls = c i }

pub one_more : {A : Type 0} (xs ys : List A) (n m : ℕ) (a b : A) → ys ≡ xs ++ b ∷ [] → xs ≡ replicate n a → b ≡ a → n + 1 ≡ m → ys ≡ replicate m a
one_more xs ys n m a b e is same up = e ∙ ((λ i. is i ++ same i ∷ []) ∙ (replicate-append-replicate n 1 a ∙ ap (λ k. replicate k a) up))
