-- The bytes alone decide which reply stands at their front.
use Rattle.std.proofs.Common.{◌≡◌, ◌+◌, ◌-◌, ℕ, List, [], ◌++◌, length, take, drop, Option, Some, None, refl, sym, ap, ◌∙◌, arith, append-nil, length-append, inl, inr}
use Rattle.std.proofs.Math.Seq.{take-append-add}
use Rattle.std.proofs.lemmas.List.{take_at, drop_at}
use Rattle.httparse.proofs.GrammarLemmas.{response_unique}
use Rattle.httparse.specs.Grammar.{ResponseHead, ReadsResponse, print_response}
use Rattle.rg_http.specs.declared.message.Response.{Response}
use Rattle.rg_http.specs.Framing.{head_limit, window}
use Rattle.rg_client.specs.Replies.{HasHead, HasNone, HasReply, IsUnfinished, length_of, reply_of}

same_size : (n k : ℕ) → Some n ≡ Some k → n ≡ k
same_size n k e = cc

size_or_none : (size : Option ℕ) (n : ℕ) → size ≡ Some n → size ≡ None → ⊥
size_or_none size n e f = absurd (cc)

one_head : (bytes : List ℕ) (h k : ResponseHead) (rest more : List ℕ) → HasHead bytes h rest → HasHead bytes k more → (h ≡ k) × (rest ≡ more)
one_head bytes h k rest more x y = response_unique bytes h k rest more x.0 y.0

pub reply_once : (bytes : List ℕ) (r s : Response) (rest more : List ℕ) → HasReply bytes r rest → HasReply bytes s more → (r ≡ s) × (rest ≡ more)
reply_once bytes r s rest more x y =
    let one = one_head bytes x.0 y.0 (x.1 ++ rest) (y.1 ++ more) x.2 y.2 in
    let n = length x.1 in
    let size = same_size n (length y.1) (sym x.3 ∙ (ap length_of one.0 ∙ y.3)) in
    let body = sym (take_at x.1 rest n refl) ∙ (ap (take n) one.1 ∙ take_at y.1 more n (sym size)) in (
      x.4 ∙ (ap (λ h. reply_of h x.1) one.0 ∙ (ap (reply_of y.0) body ∙ sym y.4)),
      sym (drop_at x.1 rest n refl) ∙ (ap (drop n) one.1 ∙ drop_at y.1 more n (sym size)),
    )

-- a head within the limit stands in the window, too
in_window : (bytes : List ℕ) (h : ResponseHead) (rest : List ℕ) → HasHead bytes h rest → (more : List ℕ) × ReadsResponse (window bytes) h more
in_window bytes h rest x =
    let n = head_limit - length (print_response h) in
    let e : head_limit ≡ length (print_response h) + n = omega (arith, x.1) in
    (take n rest, (x.0.0, ap window x.0.1 ∙ (ap (λ k. take k (print_response h ++ rest)) e ∙ take-append-add (print_response h) rest n)))

pub reply_or_none : (bytes : List ℕ) (r : Response) (rest : List ℕ) → HasReply bytes r rest → HasNone bytes → ⊥
reply_or_none bytes r rest x (inl never) =
    let w = in_window bytes x.0 (x.1 ++ rest) x.2 in
    never [] x.0 w.0 (w.1.0, append-nil (window bytes) ∙ w.1.1)
reply_or_none bytes r rest x (inr (inl y)) = let w = in_window bytes x.0 (x.1 ++ rest) x.2 in y.1 x.0 w.0 w.1
reply_or_none bytes r rest x (inr (inr y)) =
    let one = one_head bytes x.0 y.0 (x.1 ++ rest) y.1 x.2 y.2 in
    size_or_none (length_of y.0) (length x.1) (ap length_of (sym one.0) ∙ x.3) y.3

pub reply_or_unfinished : (bytes : List ℕ) (r : Response) (rest : List ℕ) → HasReply bytes r rest → IsUnfinished bytes → ⊥
reply_or_unfinished bytes r rest x (inl y) = y.1 x.0 (x.1 ++ rest) x.2.0
reply_or_unfinished bytes r rest x (inr y) =
    let one = one_head bytes x.0 y.0 (x.1 ++ rest) y.1 x.2 y.3 in
    let size = same_size (length x.1) y.2 (sym x.3 ∙ (ap length_of one.0 ∙ y.4)) in
    let long = ap length one.1 in
    omega (arith, size, long, length-append x.1 rest, y.5)
