-- What the bytes that are kept say of all.
use Rattle.std.proofs.Common.{◌≡◌, ◌≢◌, ◌≤◌, ◌<◌, ◌+◌, ◌-◌, ◌⊎◌, ℕ, List, [], ◌∷◌, ◌++◌, length, take, drop, get_or, IsTrue, not, refl, sym, ap, ◌∙◌, subst, arith, append_assoc, append-nil, length-append, inl, inr}
use Rattle.std.proofs.Math.Seq.{take-append-add}
use Rattle.std.proofs.lemmas.Bool.{cases_lt}
use Rattle.std.proofs.lemmas.List.{take_all, take_at, take-take, take-append-le, take-append-drop, length-take}
use Rattle.std.proofs.lemmas.List.Elements.{All-nil, All-cons, All-take}
use Rattle.std.proofs.lemmas.Str.{IsUtf8-from_ascii}
use Rattle.std.proofs.lemmas.Str.Ascii.{IsAscii-cons, IsAscii-nil}
use Rattle.httparse.specs.declared.spans.HeaderSpan.{HeaderSpan}
use Rattle.httparse.specs.declared.spans.RequestSpans.{RequestSpans}
use Rattle.httparse.specs.Ascii.{space}
use Rattle.httparse.specs.Grammar.{AllPass, is_uri_byte, IsToken, LineEnd, lf, IsField, print_blank, RequestHead, IsRequestHead, print_request, NeverHasRequest}
use Rattle.httparse.specs.Spans.{IsRequestAt, IsRequestWithin}
use Rattle.rg_http.specs.declared.message.Message.{Message}
use Rattle.rg_http.specs.declared.rules.Ruling.TheVariants.{Refused, Body}
use Rattle.rg_http.specs.Rules.{body_limit}
use Rattle.rg_http.specs.Framing.{window, head_limit, IsHopeless, IsOpen, HasHead, HasMessage, HasBad, IsUnfinished, ruling_of, message_of, ends_target}
use Rattle.rg_http.specs.Places.{Begins, Judges}
use Rattle.rg_http.specs.declared.heads.Judged.{Judged}
use Rattle.rg_http.specs.declared.heads.Judged.TheVariants.{Open, Hopeless, Refused as RefusedHead, Head}
use Rattle.rg_http.proofs.Waiting.{print_parts, after_target}

append_split : (a b c d : List ℕ) → a ++ b ≡ c ++ d
    → ((q : List ℕ) × (a ++ q ≡ c)) ⊎ ((s : ℕ) × (q : List ℕ) × (a ≡ c ++ s ∷ q) × ((s ∷ q) ++ b ≡ d))
append_split [] b c d e = inl (c, refl)
append_split (x ∷ a) b [] d e = inr (x, a, refl, e)
append_split (x ∷ a) b (y ∷ c) d e =
    let first : x ≡ y = ap (λ xs. get_or xs 0 0) e in
    elim (append_split a b c d (ap (drop 1) e)) [
      | inl r ↦ inl (r.0, ap (λ z. z ∷ (a ++ r.0)) first ∙ ap (λ xs. y ∷ xs) r.1)
      | inr r ↦ inr (r.0, r.1, ap (λ z. z ∷ a) first ∙ ap (λ xs. y ∷ xs) r.2, r.3)
    ]

-- the shortest head with this method
abbrev head_with : List LineEnd → List ℕ → RequestHead
head_with blank method = record { blank = blank; method = method; target = 47 ∷ []; minor = 1; line_end = lf; fields = []; last = lf }

head_is : (blank : List LineEnd) (method : List ℕ) → IsToken method → IsRequestHead (head_with blank method)
head_is blank method t = record {
  method = t;
  target = (omega arith, All-cons (λ b. IsTrue (is_uri_byte b)) 47 [] refl (All-nil (λ b. IsTrue (is_uri_byte b))));
  target_text = IsUtf8-from_ascii (47 ∷ []) (IsAscii-cons 47 [] (omega arith) IsAscii-nil);
  minor = omega arith;
  fields = All-nil IsField;
}

-- a front of a method can become a head
pub front_reads : (bytes q : List ℕ) (blank : List LineEnd) (method : List ℕ) → IsToken method → bytes ++ q ≡ print_blank blank ++ method
    → NeverHasRequest bytes → ⊥
front_reads bytes q blank method t e never =
    let h = head_with blank method in
    let tail = 32 ∷ (47 ∷ 32 ∷ after_target h []) in
    never (q ++ tail) h [] (
      head_is blank method t,
      sym (append_assoc bytes q tail) ∙ (ap (λ xs. xs ++ tail) e ∙ (append_assoc (print_blank blank) method tail ∙ sym (print_parts h []))),
    )

abbrev Inner : ℕ → Type 0
Inner b = IsTrue (not (ends_target b))

hopeless_parts : (bytes more : List ℕ) → IsHopeless bytes → (blank : List LineEnd) (method target : List ℕ) → IsToken method
    → AllPass (λ b. not (ends_target b)) target → bytes ++ more ≡ (print_blank blank ++ method) ++ space ∷ target → ⊥
hopeless_parts bytes more x blank method target t w e =
    elim (append_split bytes more (print_blank blank ++ method) (space ∷ target) e) [
      | inl r ↦ front_reads bytes r.0 blank method t r.1 x.0
      | inr r ↦
          let first : r.0 ≡ space = ap (λ xs. get_or xs 0 0) r.3 in
          let rest : r.1 ++ more ≡ target = ap (drop 1) r.3 in
          x.1 (
            blank,
            method,
            r.1,
            t,
            subst (AllPass (λ b. not (ends_target b))) (take_at r.1 more (length r.1) refl) (subst (λ xs. AllPass (λ b. not (ends_target b)) (take (length r.1) xs)) (sym rest) (All-take Inner (length r.1) target w)),
            r.2 ∙ ap (λ s. (print_blank blank ++ method) ++ s ∷ r.1) first,
          )
    ]

hopeless_more : (bytes more : List ℕ) → IsHopeless bytes → IsHopeless (bytes ++ more)
hopeless_more bytes more x = (
  λ rest h r y. x.0 (more ++ rest) h r (y.0, sym (append_assoc bytes more rest) ∙ y.1),
  λ u. hopeless_parts bytes more x u.0 u.1 u.2 u.3 u.4 u.5,
)

window_more : (kept left : List ℕ) → (more : List ℕ) × (window (kept ++ left) ≡ window kept ++ more)
window_more kept left =
    elim (cases_lt head_limit (length kept)) [
      | inl l ↦ ([], take-append-le head_limit kept left (omega (arith, l)) ∙ sym (append-nil (window kept)))
      | inr l ↦
          let n = head_limit - length kept in
          let e : head_limit ≡ length kept + n = omega (arith, l) in
          (take n left, ap (λ k. take k (kept ++ left)) e ∙ (take-append-add kept left n ∙ ap (λ xs. xs ++ take n left) (sym (take_all head_limit kept l))))
    ]

-- a head and what follows it, with more behind
head_stays : (bytes more : List ℕ) (h : RequestHead) (rest : List ℕ) → HasHead bytes h rest → HasHead (bytes ++ more) h (rest ++ more)
head_stays bytes more h rest x =
    ((x.0.0, ap (λ xs. xs ++ more) x.0.1 ∙ append_assoc (print_request h) rest more), x.1)

pub message_stays : (bytes more : List ℕ) (m : Message) (rest : List ℕ) → HasMessage bytes m rest → HasMessage (bytes ++ more) m (rest ++ more)
message_stays bytes more m rest x = (
  x.0,
  x.1,
  subst (HasHead (bytes ++ more) x.0) (append_assoc x.1 rest more) (head_stays bytes more x.0 (x.1 ++ rest) x.2),
  x.3,
  x.4,
)

pub bad_stays : (bytes more : List ℕ) (status : ℕ) → HasBad bytes status → HasBad (bytes ++ more) status
bad_stays bytes more status (inl x) =
    let w = window_more bytes more in
    inl (x.0, subst IsHopeless (sym w.1) (hopeless_more (window bytes) w.0 x.1))
bad_stays bytes more status (inr (inl x)) =
    inr (inl (x.0, omega (arith, length-append bytes more, x.1), subst IsOpen (sym (take-append-le head_limit bytes more x.1)) x.2))
bad_stays bytes more status (inr (inr x)) = inr (inr (x.0, x.1 ++ more, head_stays bytes more x.0 x.1 x.2, x.3))

-- where a head stands there is a byte
pub head_some : (bytes : List ℕ) (h : RequestHead) (rest : List ℕ) → HasHead bytes h rest → bytes ≡ [] → ⊥
head_some bytes h rest x e =
    let parts = print_parts h rest in
    let size = ap length (sym e ∙ (x.0.1 ∙ parts)) in
    let a = length-append (print_blank h.blank) (h.method ++ space ∷ (h.target ++ space ∷ after_target h rest)) in
    let b = length-append h.method (space ∷ (h.target ++ space ∷ after_target h rest)) in
    omega (arith, size, a, b)

pub stands_hopeless : (kept : List ℕ) → IsHopeless (window kept) → HasBad kept 400
stands_hopeless kept x = inl (refl, x)

pub stands_full : (kept : List ℕ) → head_limit ≤ length kept → IsOpen (window kept) → HasBad kept 431
stands_full kept l x = inr (inl (refl, l, x))

pub head_more : (kept : List ℕ) (h : RequestHead) (rest : List ℕ) → HasHead (window kept) h rest → HasHead kept h (rest ++ drop head_limit kept)
head_more kept h rest x =
    subst (λ xs. HasHead xs h (rest ++ drop head_limit kept)) (take-append-drop head_limit kept) (head_stays (window kept) (drop head_limit kept) h rest x)

pub stands_refused : (kept : List ℕ) (status : ℕ) → (h : RequestHead) × (rest : List ℕ) × HasHead (window kept) h rest × (ruling_of h ≡ Refused status) → HasBad kept status
stands_refused kept status x = inr (inr (x.0, x.1 ++ drop head_limit kept, head_more kept x.0 x.1 x.2, x.3))

pub open_unfinished : (kept : List ℕ) → length kept < head_limit → IsOpen (window kept) → IsUnfinished kept
open_unfinished kept l o = inl (l, subst IsOpen (take_all head_limit kept (omega (arith, l))) o)

pub stands_cut : (kept : List ℕ) → 0 < length kept → IsUnfinished kept → (kept ≢ []) × IsUnfinished kept
stands_cut kept s u = ((λ e. let l = ap length e in omega (arith, l, s)), u)

pub stands_begun : (kept : List ℕ) (room : List HeaderSpan) (spans : RequestSpans) (m : Message) (n : ℕ) (h : RequestHead) → IsRequestWithin (window kept) room spans → IsRequestAt (window kept) room spans h → ruling_of h ≡ Body n
    → n ≤ body_limit → m ≡ message_of h [] → Begins kept m spans.len n
stands_begun kept room spans m n h w x b s e =
    let short = length-take head_limit kept in
    let fits = w.section.len_fits in
    let limit : spans.len ≤ head_limit = grind (arith) in
    let whole : spans.len ≤ length kept = grind (arith) in
    record {
      head = h;
      is_head = x.reads.0;
      front = sym (take-take spans.len head_limit kept limit) ∙ (ap (take spans.len) x.reads.1 ∙ take_at (print_request h) (drop spans.len (window kept)) spans.len (sym x.len));
      kept_whole = whole;
      within = limit;
      body = b;
      small = s;
      message = e;
    }

-- ---- the same from what was judged

module _ (kept bytes : List ℕ) (room : List HeaderSpan) (judged : Judged) (e : bytes ≡ window kept) where
  pub judged_hopeless : judged ≡ Hopeless → Judges bytes room judged → HasBad kept 400
  judged_hopeless is x = stands_hopeless kept (subst (λ w. Judges w room Hopeless) e (subst (λ j. Judges bytes room j) is x))

  pub judged_refused : (status : ℕ) → judged ≡ RefusedHead status → Judges bytes room judged → HasBad kept status
  judged_refused status is x = stands_refused kept status (subst (λ w. Judges w room (RefusedHead status)) e (subst (λ j. Judges bytes room j) is x))

  pub judged_open : judged ≡ Open → Judges bytes room judged → IsOpen (window kept)
  judged_open is x = subst (λ w. Judges w room Open) e (subst (λ j. Judges bytes room j) is x)

  pub judged_begun : (spans : RequestSpans) (n : ℕ) (m : Message) → judged ≡ Head spans n → Judges bytes room judged
      → ((h : RequestHead) → IsRequestAt bytes room spans h → m ≡ message_of h []) → Begins kept m spans.len n
  judged_begun spans n m is x message =
      let y : Judges bytes room (Head spans n) = subst (λ j. Judges bytes room j) is x in
      let z : Judges (window kept) room (Head spans n) = subst (λ w. Judges w room (Head spans n)) e y in
      stands_begun kept room spans m n z.1 z.0 z.2 z.3 z.4 (subst (λ w. (h : RequestHead) → IsRequestAt w room spans h → m ≡ message_of h []) e message z.1 z.2)
