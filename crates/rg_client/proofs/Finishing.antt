-- A head that came whole, and its body.
use Rattle.std.proofs.Common.{◌≡◌, ◌≤◌, ◌<◌, ◌+◌, ℕ, Bool, List, ◌++◌, length, take, drop, Some, ap₂, sym, ap, ◌∙◌, subst, arith, length-append, append_assoc, inl, inr}
use Rattle.std.proofs.lemmas.List.{take_all, take-append-le, take-append-drop, length-take-le, length-drop, drop-drop}
use Rattle.rg_base.specs.Listed.{listed}
use Rattle.httparse.specs.Grammar.{ResponseHead, print_response, HasNoResponse}
use Rattle.rg_http.specs.declared.message.Response.{Response}
use Rattle.rg_http.specs.Framing.{head_limit, window}
use Rattle.rg_client.specs.declared.heads.Begun.{Begun}
use Rattle.rg_client.specs.declared.heads.Judged.{Judged}
use Rattle.rg_client.specs.declared.heads.Judged.TheVariants.{Open, Unread, Head}
use Rattle.rg_client.specs.Replies.{HasHead, HasNone, HasReply, IsUnfinished}
use Rattle.rg_client.specs.Places.{Begins, Judges, Stands}

-- ---- more bytes behind

pub begins_more : (bytes more : List ℕ) (b : Begun) → Begins bytes b → Begins (bytes ++ more) b
begins_more bytes more b x =
    let size = length-append bytes more in
    let whole = x.whole in
    record {
      head = x.head;
      is_head = x.is_head;
      front = take-append-le b.len bytes more x.whole ∙ x.front;
      whole = omega (arith, size, whole);
      within = x.within;
      begun = x.begun;
    }

head_more : (bytes more : List ℕ) (h : ResponseHead) (rest : List ℕ) → HasHead bytes h rest → HasHead (bytes ++ more) h (rest ++ more)
head_more bytes more h rest x = ((x.0.0, ap (λ xs. xs ++ more) x.0.1 ∙ append_assoc (print_response h) rest more), x.1)

-- ---- from the window to all that is kept

module _ (kept : List ℕ) where
  both : window kept ++ drop head_limit kept ≡ kept
  both = take-append-drop head_limit kept

  pub stands : (window_is : List ℕ) (j : Judged) → window_is ≡ window kept → Judges window_is j → Stands kept j
  stands w Open e x = subst HasNoResponse e x
  stands w Unread e x = elim (subst (λ v. Judges v Unread) e x) [
    | inl never ↦ inl never
    | inr head ↦ inr (inr (
      head.0,
      head.1 ++ drop head_limit kept,
      subst (λ xs. HasHead xs head.0 (head.1 ++ drop head_limit kept)) both (head_more (window kept) (drop head_limit kept) head.0 head.1 head.2),
      head.3,
    ))
  ]
  stands w (Head b) e x = subst (λ xs. Begins xs b) both (begins_more (window kept) (drop head_limit kept) b (subst (λ v. Begins v b) e x))

  pub full : head_limit ≤ length kept → HasNoResponse (window kept) → HasNone kept
  full l x = inr (inl (l, x))

  pub unfinished : length kept < head_limit → HasNoResponse (window kept) → IsUnfinished kept
  unfinished l x = inl (l, subst HasNoResponse (take_all head_limit kept (omega (arith, l))) x)

-- what was judged of the same bytes
pub judged : (kept bytes : List ℕ) (j k : Judged) → bytes ≡ kept → j ≡ k → Stands bytes j → Stands kept k
judged kept bytes j k e f x = subst (λ xs. Stands xs k) e (subst (Stands bytes) f x)

-- ---- the body

abbrev with_body : ℕ → Bool → List ℕ → Response
with_body status close body = record { status = status; body = listed body; close = close }

module _ (bytes : List ℕ) (b : Begun) (x : Begins bytes b) where
  has_head : HasHead bytes x.head (drop b.len bytes)
  has_head =
      let len = x.begun.len in
      let within = x.within in
      ((x.is_head, sym (take-append-drop b.len bytes) ∙ ap (λ xs. xs ++ drop b.len bytes) x.front), omega (arith, len, within))

  pub body_unfinished : length bytes < b.len + b.body → IsUnfinished bytes
  body_unfinished l =
      let whole = x.whole in
      inr (x.head, drop b.len bytes, b.body, has_head, x.begun.body, omega (arith, length-drop b.len bytes, whole, l))

  pub reply_came : b.len + b.body ≤ length bytes
      → HasReply bytes (record { status = b.status; body = listed (take b.body (drop b.len bytes)); close = b.close }) (drop (b.len + b.body) bytes)
  reply_came l =
      let body = take b.body (drop b.len bytes) in
      let size : length body ≡ b.body = length-take-le b.body (drop b.len bytes) (omega (arith, length-drop b.len bytes, l)) in
      let parts : drop b.len bytes ≡ body ++ drop (b.len + b.body) bytes =
      sym (take-append-drop b.body (drop b.len bytes)) ∙ ap (λ xs. body ++ xs) (drop-drop b.body b.len bytes) in (
        x.head,
        body,
        subst (HasHead bytes x.head) parts has_head,
        x.begun.body ∙ ap Some (sym size),
        ap₂ (λ k l. with_body k l body) x.begun.status x.begun.close,
      )
