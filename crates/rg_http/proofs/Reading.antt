-- Each stream has a reading.
use Rattle.std.proofs.Common.{◌≡◌, ◌≤◌, ◌<◌, ◌⊎◌, ℕ, zero, suc, Bool, true, false, List, [], ◌∷◌, ◌++◌, length, take, drop, refl, sym, ap, ◌∙◌, subst, arith, length-append, length-take, take-append-drop, inl, inr}
use Rattle.std.specs.Prelude.{MatchBool}
use Rattle.std.proofs.lemmas.Bool.{cases_Bool, cases_lt}
use Rattle.httparse.specs.Grammar.{RequestHead, print_request, ReadsRequest, MayBecomeRequest}
use Rattle.httparse.specs.Pieces.{Then, Section, RequestStart}
use Rattle.httparse.proofs.GrammarLemmas.{request_head, request_from_pieces}
use Rattle.httparse.proofs.HeadLemmas.{request_not_yet, request_never}
use Rattle.httparse.proofs.OpenLemmas.{request_may}
use Rattle.rg_http.specs.declared.message.Message.{Message}
use Rattle.rg_http.specs.declared.message.End.{End}
use Rattle.rg_http.specs.declared.message.End.TheVariants.{Ended, Cut, Bad, Full}
use Rattle.rg_http.specs.declared.rules.Ruling.{Ruling}
use Rattle.rg_http.specs.declared.rules.Ruling.TheVariants.{Refused, Body}
use Rattle.rg_http.specs.Framing.{window, head_limit, IsUnjudged, IsHopeless, IsOpen, HasHead, HasMessage, ruling_of, message_of}
use Rattle.rg_http.specs.Messages.{Stops, Messages}
use Rattle.rg_http.specs.Scan.{after_blank, is_in_line}
use Rattle.rg_http.proofs.Decided.{Decided, request_decided}
use Rattle.rg_http.proofs.Standing.{head_more, head_some, stands_hopeless, stands_full, open_unfinished}
use Rattle.rg_http.proofs.Waiting.{apart, unjudged_test, unjudged_no_head, target_waits}

-- ---- the front of a stream

abbrev Begun : List ℕ → Type 0
Begun s = (h : RequestHead) × (rest : List ℕ) × ReadsRequest s h rest

open_by : (s : List ℕ) → MayBecomeRequest s → ((more : List ℕ) × (h : RequestHead) × ReadsRequest (s ++ more) h []) ⊎ IsUnjudged s
open_by s (inl x) = inl x
open_by s (inr x) = inr (target_waits s x)

judged_front : (s : List ℕ) → ¬ (IsUnjudged s) → Decided (Then RequestStart Section) s → Begun s ⊎ (IsOpen s ⊎ IsHopeless s)
judged_front s judged (inl x) = inl (request_head x.0, x.1, request_from_pieces s x.0 x.1 x.2)
judged_front s judged (inr (inl x)) = inr (inl (request_not_yet x.0, open_by s (request_may x.1)))
judged_front s judged (inr (inr x)) = inr (inr (request_never x, judged))

front_decided : (s : List ℕ) → Begun s ⊎ (IsOpen s ⊎ IsHopeless s)
front_decided s = elim (cases_Bool (is_in_line false (after_blank s))) [
  | inl t ↦ (let waits = (unjudged_test s).0 t in inr (inl (unjudged_no_head s waits, inr waits)))
  | inr f ↦
      let judged : ¬ (IsUnjudged s) = λ u. apart (is_in_line false (after_blank s)) f ((unjudged_test s).1 u) in
      judged_front s judged (request_decided s (λ e. judged (target_waits s e)))
]

-- ---- what stands there

abbrev Found : List ℕ → Type 0
Found bytes = ((m : Message) × (rest : List ℕ) × HasMessage bytes m rest) ⊎ ((end : End) × Stops bytes end)

body_found : (bytes : List ℕ) (h : RequestHead) (rest : List ℕ) (n : ℕ) → HasHead bytes h rest → ruling_of h ≡ Body n → Found bytes
body_found bytes h rest n x e = elim (cases_lt (length rest) n) [
  | inl l ↦ inr (Cut, (head_some bytes h rest x, inr (h, rest, n, x, e, l)))
  | inr l ↦ inl (
    message_of h (take n rest),
    drop n rest,
    (
      h,
      take n rest,
      subst (HasHead bytes h) (sym (take-append-drop n rest)) x,
      e ∙ ap Body (omega (arith, length-take n rest, l)),
      refl,
    ),
  )
]

head_found : (bytes : List ℕ) (h : RequestHead) (rest : List ℕ) → HasHead bytes h rest → (r : Ruling) → ruling_of h ≡ r → Found bytes
head_found bytes h rest x (Refused status) e = inr (Bad status, inr (inr (h, rest, x, e)))
head_found bytes h rest x (Body n) e = body_found bytes h rest n x e

open_short : (bytes : List ℕ) → length bytes < head_limit → IsOpen (window bytes) → Found bytes
open_short [] l x = inr (Ended, refl)
open_short (b ∷ bytes) l x = inr (Cut, ((λ e. let k : suc (length bytes) ≡ 0 = ap length e in omega (arith, k)), open_unfinished (b ∷ bytes) l x))

found_by : (bytes : List ℕ) → Begun (window bytes) ⊎ (IsOpen (window bytes) ⊎ IsHopeless (window bytes)) → Found bytes
found_by bytes (inl x) =
    let size = ap length x.2.1 in
    let parts = length-append (print_request x.0) x.1 in
    let within : length (print_request x.0) ≤ head_limit = omega (arith, size, parts, length-take head_limit bytes) in
    head_found bytes x.0 (x.1 ++ drop head_limit bytes) (head_more bytes x.0 x.1 (x.2, within)) (ruling_of x.0) refl
found_by bytes (inr (inl x)) = elim (cases_lt (length bytes) head_limit) [
  | inl l ↦ open_short bytes l x
  | inr l ↦ inr (Bad 431, stands_full bytes l x)
]
found_by bytes (inr (inr x)) = inr (Bad 400, stands_hopeless bytes x)

-- ---- all of it

abbrev Reading : ℕ → List ℕ → Type 0
Reading most bytes = (ms : List Message) × (end : End) × Messages most bytes ms end

reading_after : (close : Bool) (most : ℕ) (rest : List ℕ) → Reading most rest
    → (ms : List Message) × (end : End) × MatchBool close ((ms ≡ []) × (end ≡ Ended)) (Messages most rest ms end)
reading_after true most rest x = ([], Ended, (refl, refl))
reading_after false most rest x = x

pub stream_reads : (most : ℕ) (bytes : List ℕ) → (ms : List Message) × (end : End) × Messages most bytes ms end
stream_reads zero bytes = ([], Full, (refl, refl))
stream_reads (suc most) bytes = elim (found_by bytes (front_decided (window bytes))) [
  | inl x ↦ (let later = reading_after x.0.close most x.1 (stream_reads most x.1) in (x.0 ∷ later.0, later.1, (x.1, x.2, later.2)))
  | inr x ↦ ([], x.0, x.1)
]
