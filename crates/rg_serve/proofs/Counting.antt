-- How many entries a past has of which each is one call.
use Rattle.std.proofs.Common.{◌≡◌, ◌∙◌, ℕ, zero, suc, ◌+◌, ◌<◌, sum_by, All, List, [], ◌∷◌, ◌++◌, length, length-append, map, ap, sym, refl, arith}
use mathlib.Core.Logic.{dite}
use native.Mathlib.Decide.{ℕ_discrete}
use Rattle.std.proofs.lemmas.Bool.Decides.{nat_tests}
use Rattle.std.proofs.lemmas.List.Elements.{All-head, All-tail}
use Rattle.std.proofs.lemmas.List.Sums.{sum_by-cons}
use Rattle.rg_cmd.specs.declared.ask.AdminReply.{AdminReply}
use Rattle.rg_cmd.specs.declared.ask.Ask.{Ask}
use Rattle.rg_turn.specs.Counting.{once_below, times}
use Rattle.rg_turn.specs.Values.{calls_at}
use Rattle.rg_turn.specs.declared.rule.Entry.{Entry}
use Rattle.rg_turn.proofs.Histories.{once_below_none, once_below_suc, times_append}
use Rattle.rg_link.specs.Workers.{Stand}
use Rattle.rg_serve.specs.Trails.{Work, entries_in, entries_of, seat_of}

times_head : (x : ℕ) (xs : List ℕ) → times x (x ∷ xs) ≡ 1 + times x xs
times_head x xs = grind (arith, nat_tests)

-- a list without one of its numbers
without : (n : ℕ) (xs : List ℕ) → 0 < times n xs → (ys : List ℕ) × (length xs ≡ length ys + 1) × ((p : ℕ) → times p xs ≡ times p (n ∷ ys))
without n [] some = absurd (omega (arith, some))
without n (x ∷ xs) some = dite (ℕ_discrete x n)
    (λ same. (xs, omega arith, λ p. ap (λ k. times p (k ∷ xs)) same))
    (λ other.
    let less : times n (x ∷ xs) ≡ times n xs = grind (arith, nat_tests, other) in
    let r = without n xs (omega (arith, some, less)) in (
      x ∷ r.0,
      omega (arith, r.1),
      λ p. omega (arith, r.2 p),
    ))

once_last : (n : ℕ) → once_below n (suc n) ≡ 1
once_last n = grind (arith, nat_tests)

once_length : (n : ℕ) (xs : List ℕ) → ((p : ℕ) → times p xs ≡ once_below p n) → length xs ≡ n
once_length zero [] once = refl
once_length zero (x ∷ xs) once = absurd (omega (arith, once x, once_below_none x, times_head x xs))
once_length (suc n) xs once =
    let r = without n xs (omega (arith, once n, once_last n)) in
    let rest = once_length n r.0 (λ p. omega (arith, once p, once_below_suc p n, r.2 p)) in
    omega (arith, r.1, rest)

stand_length : (h : List (Entry Ask AdminReply)) (places : List ℕ) (own : List (Entry Ask AdminReply)) → Stand h places own → length places ≡ length own
stand_length h [] own s = sym (ap length s)
stand_length h (k ∷ places) [] s = absurd s
stand_length h (k ∷ places) (e ∷ own) s = ap suc (stand_length h places own s.1)

module _ (plugin : List ℕ) (past : List (Entry Ask AdminReply)) where
  abbrev Stands : Work plugin → Type 0
  Stands w = Stand past w.seat.calls (entries_of w.sessions)

  all_calls : List (Work plugin) → List ℕ
  all_calls [] = []
  all_calls (w ∷ ws) = w.seat.calls ++ all_calls ws

  times_all : (p : ℕ) (ws : List (Work plugin)) → times p (all_calls ws) ≡ calls_at p (map seat_of ws)
  unfolding all_calls
  times_all p [] = refl
  times_all p (w ∷ ws) = omega (arith, times_append p w.seat.calls (all_calls ws), times_all p ws)

  length_all : (ws : List (Work plugin)) → All Stands ws → length (all_calls ws) ≡ sum_by entries_in ws
  unfolding all_calls
  length_all [] are = refl
  length_all (w ∷ ws) are =
      let one = stand_length past w.seat.calls (entries_of w.sessions) (All-head Stands w ws are) in
      omega (arith, length-append w.seat.calls (all_calls ws), one, length_all ws (All-tail Stands w ws are), sum_by-cons entries_in w ws)

  pub entries_are : (ws : List (Work plugin)) → All Stands ws → (calls : List ℕ) (n : ℕ) → ((p : ℕ) → calls_at p (map seat_of ws) + times p calls ≡ once_below p n)
      → n ≡ sum_by entries_in ws + length calls
  entries_are ws are calls n once =
      let all = once_length n (all_calls ws ++ calls) (λ p. times_append p (all_calls ws) calls ∙ (ap (λ k. k + times p calls) (times_all p ws) ∙ once p)) in
      omega (arith, all, length-append (all_calls ws) calls, length_all ws are)
