-- The bytes alone decide what stands at their front, and so all messages and how they end.
use Rattle.std.proofs.Common.{◌≡◌, ◌<◌, ◌+◌, ◌-◌, ℕ, List, [], ◌∷◌, ◌++◌, length, take, drop, Bool, true, false, zero, suc, refl, sym, ap, ◌∙◌, subst, arith, append-nil, length-append, inl, inr}
use Rattle.std.specs.Prelude.{MatchBool, IsTrue}
use Rattle.std.proofs.Math.Seq.{take-append-add}
use Rattle.std.proofs.lemmas.List.{take_all, take_at, drop_at}
use Rattle.std.proofs.lemmas.List.Elements.{All-nil, All-cons}
use Rattle.httparse.proofs.GrammarLemmas.{request_unique}
use Rattle.httparse.specs.Grammar.{RequestHead, print_request, ReadsRequest, NeverHasRequest, is_token_byte, IsToken}
use Rattle.rg_http.specs.declared.message.Message.{Message}
use Rattle.rg_http.specs.declared.rules.Ruling.{Ruling}
use Rattle.rg_http.specs.declared.rules.Ruling.TheVariants.{Refused, Body}
use Rattle.rg_http.specs.Framing.{window, head_limit, IsHopeless, IsOpen, HasHead, HasMessage, HasBad, IsUnfinished, ruling_of, message_of}
use Rattle.rg_http.specs.declared.message.End.{End}
use Rattle.rg_http.specs.declared.message.End.TheVariants.{Ended, Cut, Bad, Full}
use Rattle.rg_http.specs.Messages.{Stops, Messages}
use Rattle.rg_http.proofs.Standing.{front_reads, head_some}

abbrev number : Ruling → ℕ
number (Refused status) = status
number (Body n) = n

abbrev is_body : Ruling → Bool
is_body (Refused status) = false
is_body (Body n) = true

refused_or_body : (r : Ruling) (status n : ℕ) → r ≡ Refused status → r ≡ Body n → ⊥
refused_or_body r status n e f = let x = ap is_body (sym e ∙ f) in absurd (cc)

same_size : (r : Ruling) (n k : ℕ) → r ≡ Body n → r ≡ Body k → n ≡ k
same_size r n k e f = ap number (sym e ∙ f)

same_status : (r : Ruling) (n k : ℕ) → r ≡ Refused n → r ≡ Refused k → n ≡ k
same_status r n k e f = ap number (sym e ∙ f)

in_window : (bytes : List ℕ) (h : RequestHead) (rest : List ℕ) → HasHead bytes h rest → (more : List ℕ) × ReadsRequest (window bytes) h more
in_window bytes h rest x =
    let n = head_limit - length (print_request h) in
    let e : head_limit ≡ length (print_request h) + n = omega (arith, x.1) in
    (take n rest, (x.0.0, ap window x.0.1 ∙ (ap (λ k. take k (print_request h ++ rest)) e ∙ take-append-add (print_request h) rest n)))

hopeless_no_head : (bytes : List ℕ) (h : RequestHead) (rest : List ℕ) → IsHopeless (window bytes) → HasHead bytes h rest → ⊥
hopeless_no_head bytes h rest x y = let w = in_window bytes h rest y in x.0 [] h w.0 (w.1.0, append-nil (window bytes) ∙ w.1.1)

open_no_head : (bytes : List ℕ) (h : RequestHead) (rest : List ℕ) → IsOpen (window bytes) → HasHead bytes h rest → ⊥
open_no_head bytes h rest x y = let w = in_window bytes h rest y in x.0 h w.0 w.1

hopeless_not_open : (bytes : List ℕ) → IsHopeless bytes → IsOpen bytes → ⊥
hopeless_not_open bytes x y = elim y.1 [ inl r ↦ x.0 r.0 r.1 [] r.2 | inr u ↦ x.1 u ]

open_window : (bytes : List ℕ) → length bytes < head_limit → IsOpen bytes → IsOpen (window bytes)
open_window bytes l x = subst IsOpen (sym (take_all head_limit bytes (omega (arith, l)))) x

one_head : (bytes : List ℕ) (h k : RequestHead) (r q : List ℕ) → HasHead bytes h r → HasHead bytes k q → (h ≡ k) × (r ≡ q)
one_head bytes h k r q x y = request_unique bytes h k r q x.0 y.0

same_front : (a b r q : List ℕ) → a ++ r ≡ b ++ q → length a ≡ length b → (a ≡ b) × (r ≡ q)
same_front a b r q e l = (
  sym (take_at a r (length a) refl) ∙ (ap (take (length a)) e ∙ take_at b q (length a) (sym l)),
  sym (drop_at a r (length a) refl) ∙ (ap (drop (length a)) e ∙ drop_at b q (length a) (sym l)),
)

pub message_once : (bytes : List ℕ) (m n : Message) (r q : List ℕ) → HasMessage bytes m r → HasMessage bytes n q → (m ≡ n) × (r ≡ q)
message_once bytes m n r q x y =
    let one = one_head bytes x.0 y.0 (x.1 ++ r) (y.1 ++ q) x.2 y.2 in
    let size = same_size (ruling_of y.0) (length x.1) (length y.1) (ap ruling_of (sym one.0) ∙ x.3) y.3 in
    let body = same_front x.1 y.1 r q one.1 size in
    (x.4 ∙ (ap (λ h. message_of h x.1) one.0 ∙ (ap (message_of y.0) body.0 ∙ sym y.4)), body.1)

message_not_bad : (bytes : List ℕ) (m : Message) (r : List ℕ) (status : ℕ) → HasMessage bytes m r → HasBad bytes status → ⊥
message_not_bad bytes m r status x (inl b) = hopeless_no_head bytes x.0 (x.1 ++ r) b.1 x.2
message_not_bad bytes m r status x (inr (inl b)) = open_no_head bytes x.0 (x.1 ++ r) b.2 x.2
message_not_bad bytes m r status x (inr (inr b)) =
    let one = one_head bytes x.0 b.0 (x.1 ++ r) b.1 x.2 b.2 in
    refused_or_body (ruling_of b.0) status (length x.1) b.3 (ap ruling_of (sym one.0) ∙ x.3)

message_not_cut : (bytes : List ℕ) (m : Message) (r : List ℕ) → HasMessage bytes m r → IsUnfinished bytes → ⊥
message_not_cut bytes m r x (inl c) = open_no_head bytes x.0 (x.1 ++ r) (open_window bytes c.0 c.1) x.2
message_not_cut bytes m r x (inr c) =
    let one = one_head bytes x.0 c.0 (x.1 ++ r) c.1 x.2 c.3 in
    let size = same_size (ruling_of c.0) (length x.1) c.2 (ap ruling_of (sym one.0) ∙ x.3) c.4 in
    let long = ap length one.1 in
    omega (arith, size, long, length-append x.1 r, c.5)

bad_once : (bytes : List ℕ) (s t : ℕ) → HasBad bytes s → HasBad bytes t → s ≡ t
bad_once bytes s t (inl a) (inl b) = a.0 ∙ sym b.0
bad_once bytes s t (inl a) (inr (inl b)) = absurd (hopeless_not_open (window bytes) a.1 b.2)
bad_once bytes s t (inl a) (inr (inr b)) = absurd (hopeless_no_head bytes b.0 b.1 a.1 b.2)
bad_once bytes s t (inr (inl a)) (inl b) = absurd (hopeless_not_open (window bytes) b.1 a.2)
bad_once bytes s t (inr (inl a)) (inr (inl b)) = a.0 ∙ sym b.0
bad_once bytes s t (inr (inl a)) (inr (inr b)) = absurd (open_no_head bytes b.0 b.1 a.2 b.2)
bad_once bytes s t (inr (inr a)) (inl b) = absurd (hopeless_no_head bytes a.0 a.1 b.1 a.2)
bad_once bytes s t (inr (inr a)) (inr (inl b)) = absurd (open_no_head bytes a.0 a.1 b.2 a.2)
bad_once bytes s t (inr (inr a)) (inr (inr b)) =
    same_status (ruling_of b.0) s t (ap ruling_of (sym (one_head bytes a.0 b.0 a.1 b.1 a.2 b.2).0) ∙ a.3) b.3

bad_not_cut : (bytes : List ℕ) (s : ℕ) → HasBad bytes s → IsUnfinished bytes → ⊥
bad_not_cut bytes s (inl a) (inl c) = hopeless_not_open (window bytes) a.1 (open_window bytes c.0 c.1)
bad_not_cut bytes s (inl a) (inr c) = hopeless_no_head bytes c.0 c.1 a.1 c.3
bad_not_cut bytes s (inr (inl a)) (inl c) = omega (arith, a.1, c.0)
bad_not_cut bytes s (inr (inl a)) (inr c) = open_no_head bytes c.0 c.1 a.2 c.3
bad_not_cut bytes s (inr (inr a)) (inl c) = open_no_head bytes a.0 a.1 (open_window bytes c.0 c.1) a.2
bad_not_cut bytes s (inr (inr a)) (inr c) =
    refused_or_body (ruling_of c.0) s c.2 (ap ruling_of (sym (one_head bytes a.0 c.0 a.1 c.1 a.2 c.3).0) ∙ a.3) c.4

some_method : IsToken (65 ∷ [])
unfolding is_token_byte
some_method = (omega arith, All-cons (λ b. IsTrue (is_token_byte b)) 65 [] refl (All-nil (λ b. IsTrue (is_token_byte b))))

nothing_not_hopeless : (bytes : List ℕ) → bytes ≡ [] → IsHopeless (window bytes) → ⊥
nothing_not_hopeless bytes e x = front_reads [] (65 ∷ []) [] (65 ∷ []) some_method refl (subst NeverHasRequest (ap window e) x.0)

message_some : (bytes : List ℕ) (m : Message) (r : List ℕ) → HasMessage bytes m r → bytes ≡ [] → ⊥
message_some bytes m r x e = head_some bytes x.0 (x.1 ++ r) x.2 e

bad_some : (bytes : List ℕ) (s : ℕ) → HasBad bytes s → bytes ≡ [] → ⊥
bad_some bytes s (inl a) e = nothing_not_hopeless bytes e a.1
bad_some bytes s (inr (inl a)) e = omega (arith, ap length e, a.1)
bad_some bytes s (inr (inr a)) e = head_some bytes a.0 a.1 a.2 e

stops_no_message : (bytes : List ℕ) (end : End) (m : Message) (r : List ℕ) → Stops bytes end → HasMessage bytes m r → ⊥
stops_no_message bytes Ended m r x y = message_some bytes m r y x
stops_no_message bytes Cut m r x y = message_not_cut bytes m r y x.1
stops_no_message bytes (Bad status) m r x y = message_not_bad bytes m r status y x
stops_no_message bytes Full m r x y = x

stops_once : (bytes : List ℕ) (e f : End) → Stops bytes e → Stops bytes f → e ≡ f
stops_once bytes Ended Ended x y = refl
stops_once bytes Ended Cut x y = absurd (y.0 x)
stops_once bytes Ended (Bad t) x y = absurd (bad_some bytes t y x)
stops_once bytes Cut Ended x y = absurd (x.0 y)
stops_once bytes Cut Cut x y = refl
stops_once bytes Cut (Bad t) x y = absurd (bad_not_cut bytes t y x.1)
stops_once bytes (Bad s) Ended x y = absurd (bad_some bytes s x y)
stops_once bytes (Bad s) Cut x y = absurd (bad_not_cut bytes s x y.1)
stops_once bytes (Bad s) (Bad t) x y = ap Bad (bad_once bytes s t x y)
stops_once bytes Full f x y = absurd x
stops_once bytes Ended Full x y = absurd y
stops_once bytes Cut Full x y = absurd y
stops_once bytes (Bad s) Full x y = absurd y

rest_once : (close : Bool) (most : ℕ) (bytes : List ℕ) (ms ns : List Message) (e f : End)
    → (Messages most bytes ms e → Messages most bytes ns f → (ms ≡ ns) × (e ≡ f))
    → MatchBool close ((ms ≡ []) × (e ≡ Ended)) (Messages most bytes ms e)
    → MatchBool close ((ns ≡ []) × (f ≡ Ended)) (Messages most bytes ns f) → (ms ≡ ns) × (e ≡ f)
rest_once true most bytes ms ns e f ih x y = (x.0 ∙ sym y.0, x.1 ∙ sym y.1)
rest_once false most bytes ms ns e f ih x y = ih x y

-- of a stream the messages and their end are one
pub messages_once : (most : ℕ) (bytes : List ℕ) (ms ns : List Message) (e f : End) → Messages most bytes ms e → Messages most bytes ns f → (ms ≡ ns) × (e ≡ f)
messages_once zero bytes ms ns e f x y = (x.0 ∙ sym y.0, x.1 ∙ sym y.1)
messages_once (suc most) bytes [] [] e f x y = (refl, stops_once bytes e f x y)
messages_once (suc most) bytes [] (n ∷ ns) e f x y = absurd (stops_no_message bytes e n y.0 x y.1)
messages_once (suc most) bytes (m ∷ ms) [] e f x y = absurd (stops_no_message bytes f m x.0 y x.1)
messages_once (suc most) bytes (m ∷ ms) (n ∷ ns) e f x y =
    let one = message_once bytes m n x.0 y.0 x.1 y.1 in
    let more = rest_once m.close most y.0 ms ns e f (messages_once most y.0 ms ns e f)
    (subst (λ r. MatchBool m.close ((ms ≡ []) × (e ≡ Ended)) (Messages most r ms e)) one.1 x.2)
    (subst (λ k. MatchBool k.close ((ns ≡ []) × (f ≡ Ended)) (Messages most y.0 ns f)) (sym one.0) y.2) in
    (ap (λ k. k ∷ ms) one.0 ∙ ap (λ xs. n ∷ xs) more.0, more.1)
