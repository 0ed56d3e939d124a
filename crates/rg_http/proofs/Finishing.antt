-- A head that came whole, and its body.
use Rattle.std.proofs.Common.{◌≡◌, ◌≢◌, ◌≤◌, ◌<◌, ◌+◌, ℕ, List, [], ◌++◌, length, take, drop, sym, ap, ◌∙◌, arith, inr}
use Rattle.std.proofs.lemmas.List.{take-take, take-append-drop, length-take, length-take-le, length-drop, drop-drop}
use Rattle.rg_base.specs.Listed.{listed}
use Rattle.httparse.specs.Grammar.{print_request}
use Rattle.rg_http.specs.declared.message.Message.{Message}
use Rattle.rg_http.specs.declared.rules.Ruling.TheVariants.{Body}
use Rattle.rg_http.specs.Framing.{head_limit, HasHead, HasMessage, IsUnfinished}
use Rattle.rg_http.specs.Places.{Begins}
use Rattle.rg_http.proofs.Standing.{head_some}

-- what was kept is a front of what is kept now, and so the head is
head_stays : (old new : List ℕ) (m : Message) (len n : ℕ) → (b : Begins old m len n) → take (length old) new ≡ old → take len new ≡ print_request b.head
head_stays old new m len n b e = sym (take-take len (length old) new b.kept_whole) ∙ (ap (take len) e ∙ b.front)

longer : (old new : List ℕ) → take (length old) new ≡ old → length old ≤ length new
longer old new e = let a = ap length e in let b = length-take (length old) new in grind arith

head_short : (old new : List ℕ) (m : Message) (len n : ℕ) → (b : Begins old m len n) → take (length old) new ≡ old → length (print_request b.head) ≤ head_limit
head_short old new m len n b e =
    let a = ap length (head_stays old new m len n b e) in
    let l = length-take-le len new (omega (arith, longer old new e, b.kept_whole)) in
    omega (arith, a, l, b.within)

-- the kept bytes are a head and what there is of the body
has_head : (old new : List ℕ) (m : Message) (len n : ℕ) → (b : Begins old m len n) → take (length old) new ≡ old → HasHead new b.head (drop len new)
has_head old new m len n b e =
    ((b.is_head, sym (take-append-drop len new) ∙ ap (λ xs. xs ++ drop len new) (head_stays old new m len n b e)), head_short old new m len n b e)

pub body_unfinished : (old new : List ℕ) (m : Message) (len n : ℕ) → Begins old m len n → take (length old) new ≡ old → length new < len + n → IsUnfinished new
body_unfinished old new m len n b e l =
    inr (b.head, drop len new, n, has_head old new m len n b e, b.body, omega (arith, length-drop len new, longer old new e, b.kept_whole, l))

pub body_cut : (old new : List ℕ) (m : Message) (len n : ℕ) → Begins old m len n → take (length old) new ≡ old → new ≢ []
body_cut old new m len n b e = head_some new b.head (drop len new) (has_head old new m len n b e)

abbrev pub with_body : Message → List ℕ → Message
with_body m body = record { method = m.method; target = m.target; user = m.user; body = listed body; close = m.close }

pub message_came : (old new : List ℕ) (m : Message) (len n : ℕ) → Begins old m len n → take (length old) new ≡ old → len + n ≤ length new
    → HasMessage new (with_body m (take n (drop len new))) (drop (len + n) new)
message_came old new m len n b e l =
    let body = take n (drop len new) in
    let size : length body ≡ n = length-take-le n (drop len new) (omega (arith, length-drop len new, l)) in
    let parts : drop len new ≡ body ++ drop (len + n) new = sym (take-append-drop n (drop len new)) ∙ ap (λ xs. body ++ xs) (drop-drop n len new) in
    let head = has_head old new m len n b e in (
      b.head,
      body,
      ((head.0.0, head.0.1 ∙ ap (λ xs. print_request b.head ++ xs) parts), head.1),
      b.body ∙ ap Body (sym size),
      ap (λ k. with_body k body) b.message,
    )
