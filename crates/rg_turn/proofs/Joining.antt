-- What a seat knows that has taken over others.
use Rattle.std.proofs.Common.{◌≡◌, inl, inr, ⊎_elim, ℕ, zero, suc, ◌+◌, false, List, [], ◌∷◌, ◌++◌, All, length, get_or, refl, ap, sym, ◌∙◌, subst, arith}
use mathlib.Core.List.{IsPrefix}
use mathlib.Core.Option.{some}
use lib.ListN.{get_elem?}
use Rattle.atomic_table.specs.Table.{Me}
use Rattle.atomic_table.specs.declared.shared.Seat.{Seat}
use Rattle.atomic_table.proofs.Lists.{at_longer}
use Rattle.std.proofs.lemmas.List.Elements.{All-append}
use Rattle.rg_turn.specs.declared.rule.Entry.{Entry}
use Rattle.rg_turn.specs.declared.rule.SeatView.{SeatView}
use Rattle.rg_turn.specs.declared.rule.Slot.{Slot}
use Rattle.rg_turn.specs.Counting.{times}
use Rattle.rg_turn.specs.View.{joined}
use Rattle.rg_turn.specs.Rule.{AllBegin}
use Rattle.rg_turn.specs.Values.{SeatValue, calls_at}
use Rattle.rg_turn.specs.Seats.{seat_value, IsKnown, HasJoined}
use Rattle.rg_turn.proofs.Histories.{times_append, total_snoc, begins_self}

-- what holds of all holds of one
pub all_at : {T : Type 0} (P : T → Type 0) (xs ys : List T) (x : T) → All P ((xs ++ x ∷ []) ++ ys) → P x
all_at P [] ys x h = h 0 x (omega arith)
all_at P (z ∷ xs) ys x h = all_at P xs ys x (λ k d l. h (suc k) d (omega arith))

module _ (M A R X : Type 0) where
  abbrev V : Type 0
  V = SeatView A R X

  abbrev S : Type 0
  S = Seat (Slot M) V

  abbrev Seen : Type 0
  Seen = SeatValue A R X

  known_on : (v w : V) (h : List (Entry A R)) → IsKnown v h → IsKnown (joined v w) h
  known_on v w h = ⊎_elim (λ (e : h ≡ v.history). inr (0, ap some (sym e))) (λ (x : (k : ℕ) × (get_elem? v.olds k ≡ some h)). inr (suc (suc x.0), at_longer v.olds w.olds x.0 h x.1))

  pub joined_none : (p : S) → p.me.1 ≡ [] → p.me.0.has_ticket ≡ false → p.me.0.is_served ≡ false → HasJoined p [] p
  joined_none p none_out free idle = (refl, none_out, free, idle, omega arith, inl refl, (λ k d l. absurd (omega arith)), (λ n. omega arith))

  pub joined_one : (p q q' other : S) (done : List Seen) (s : Seen) → HasJoined p done q → q'.table_id ≡ q.table_id → q'.me ≡ (joined q.me.0 other.me.0, q.me.1) → other.me.0.weight ≡ 1 → seat_value other ≡ s → HasJoined p (s ∷ done) q'
  joined_one p q q' other done s g t e one is =
      let v : V = q.me.0 in
      let w : V = other.me.0 in
      let weight = g.4 in
      subst (λ (m : Me (Slot M) V). (q'.table_id ≡ p.table_id) × (m.1 ≡ []) × (m.0.has_ticket ≡ false) × (m.0.is_served ≡ false) × (m.0.weight ≡ p.me.0.weight + length (s ∷ done))
      × IsKnown m.0 p.me.0.history × All (λ (x : Seen). IsKnown m.0 x.history) (s ∷ done) × ((n : ℕ) → times n m.0.calls ≡ times n p.me.0.calls + calls_at n (s ∷ done))) (sym e) (
        t ∙ g.0,
        g.1,
        g.2,
        g.3,
        omega arith,
        known_on v w p.me.0.history g.5,
        each v w g.6 (ap (λ (x : Seen). x.history) is),
        λ n. let a = times_append n v.calls w.calls in let b = g.7 n in let c : times n w.calls ≡ times n s.calls = ap (λ (x : Seen). times n x.calls) is in omega arith,
      )
    where
      each : (v w : V) → All (λ (x : Seen). IsKnown v x.history) done → w.history ≡ s.history → All (λ (x : Seen). IsKnown (joined v w) x.history) (s ∷ done)
      each v w h same zero d l = inr (1, ap some same)
      each v w h same (suc k) d l = known_on v w (get_or done k d).history (h k d (omega arith))

  known_begins : (v : V) (h : List (Entry A R)) → AllBegin v.olds v.history → IsKnown v h → IsPrefix h v.history
  known_begins v h olds = ⊎_elim (λ (e : h ≡ v.history). subst (λ x. IsPrefix x v.history) (sym e) (begins_self v.history)) (λ (x : (k : ℕ) × (get_elem? v.olds k ≡ some h)). olds x.0 h x.1)

  pub all_begin : (p q : S) (rest : List Seen) (s : Seen) → HasJoined p rest q → seat_value p ≡ s → AllBegin q.me.0.olds q.me.0.history → All (λ (x : Seen). IsPrefix x.history q.me.0.history) (rest ++ s ∷ [])
  all_begin p q rest s g is olds = All-append (λ (x : Seen). IsPrefix x.history q.me.0.history) rest (s ∷ []) (λ k d l. known_begins q.me.0 (get_or rest k d).history olds (g.6 k d l)) one
    where
      one : All (λ (x : Seen). IsPrefix x.history q.me.0.history) (s ∷ [])
      one zero d l = subst (λ h. IsPrefix h q.me.0.history) (ap (λ (x : Seen). x.history) is) (known_begins q.me.0 p.me.0.history olds g.5)
      one (suc k) d l = absurd (omega arith)

  pub all_once : (p q : S) (rest : List Seen) (s : Seen) → HasJoined p rest q → seat_value p ≡ s → (n : ℕ) → calls_at n (rest ++ s ∷ []) ≡ times n q.me.0.calls
  all_once p q rest s g is n = let t = total_snoc (λ (x : Seen). times n x.calls) rest s in let a = g.7 n in let b : times n p.me.0.calls ≡ times n s.calls = ap (λ (x : Seen). times n x.calls) is in omega arith
