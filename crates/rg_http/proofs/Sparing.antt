-- No more is read than the answer takes, and no byte is lost.
use Rattle.std.proofs.Common.{◌≡◌, ◌≢◌, ◌≤◌, ◌<◌, ◌+◌, ℕ, List, [], ◌++◌, length, take, drop, Option, Some, None, Result, MatchResult, refl, sym, ap, ◌∙◌, subst, arith, append_assoc, append-nil, length-append, inl, inr}
use Rattle.std.proofs.lemmas.List.{take_at, take-append-drop}
use Rattle.rg_ports.specs.Bytes.{Gave}
use Rattle.rg_http.specs.declared.message.FrameFault.{FrameFault}
use Rattle.rg_http.specs.declared.message.FrameFault.TheVariants.{Failed, NoMemory}
use Rattle.rg_http.specs.declared.message.Message.{Message}
use Rattle.rg_http.specs.declared.message.Next.{Next}
use Rattle.rg_http.specs.declared.message.Next.TheVariants.{Message as Whole, Ended, Cut, Bad}
use Rattle.rg_http.specs.Framing.{HasBad, IsUnfinished}
use Rattle.rg_http.specs.Answers.{piece_limit, IsRead, IsSparing, Answers, Leaves}
use Rattle.rg_http.specs.Places.{Begins, Took, FillsTo, Fills, Grows, Breaks}
use Rattle.rg_http.proofs.Finishing.{body_unfinished, body_cut, message_came, with_body}

-- ---- what was read

pub read_none : (left : Option (List ℕ)) → IsRead left [] left
read_none None = refl
read_none (Some bytes) = (bytes, refl, refl)

pub read_more : (before middle after : Option (List ℕ)) (first second : List ℕ) → IsRead before first middle → IsRead middle second after
    → IsRead before (first ++ second) after
read_more None middle after first second x y = subst (λ m. IsRead m second after) x y
read_more (Some bytes) middle after first second x y =
    let z : IsRead (Some x.0) second after = subst (λ m. IsRead m second after) x.2 y in
    (z.0, x.1 ∙ (ap (λ xs. first ++ xs) z.1 ∙ sym (append_assoc first second z.0)), z.2)

read_gave : (before after : Option (List ℕ)) (n : ℕ) (room : List ℕ) → Gave before after n room → IsRead before (take n room) after
read_gave None after n room x = x
read_gave (Some bytes) after n room x = (drop n bytes, sym (take-append-drop n bytes) ∙ ap (λ xs. xs ++ drop n bytes) (sym x.1), x.2)

-- a read that put n bytes into the room for a piece, which were put behind the old ones
pub took_piece : (before after : Option (List ℕ)) (n : ℕ) (room old new : List ℕ) → Gave before after n room → length (take n room) ≤ piece_limit
    → new ≡ old ++ take n room → Took before after old new
took_piece before after n room old new x l e = (take n room, read_gave before after n room x, e, l)

pub took_none : (left : Option (List ℕ)) (old : List ℕ) → Took left left old old
took_none left old = ([], read_none left, sym (append-nil old), omega arith)

pub took_short : (before after : Option (List ℕ)) (old new : List ℕ) → Took before after old new → length new ≤ length old + piece_limit
took_short before after old new t = let e = ap length t.2 in omega (arith, e, length-append old t.0, t.3)

-- ---- in a loop

pub grows_none : (left : Option (List ℕ)) (old : List ℕ) → Grows left left old old
grows_none left old = ([], read_none left, sym (append-nil old), inl refl)

pub grows_more : (before middle after : Option (List ℕ)) (old held new : List ℕ) → Grows before middle old held → IsUnfinished held
    → Took middle after held new → Grows before after old new
grows_more before middle after old held new g u t = (
  g.0 ++ t.0,
  read_more before middle after g.0 t.0 g.1 t.1,
  t.2 ∙ (ap (λ xs. xs ++ t.0) g.2 ∙ append_assoc old g.0 t.0),
  inr (g.0, t.0, refl, t.3, subst IsUnfinished g.2 u),
)

pub fills_none : (need : ℕ) (left : Option (List ℕ)) (old : List ℕ) → Fills need left left old old
fills_none need left old = ([], read_none left, sym (append-nil old), inl refl)

pub fills_more : (need : ℕ) (before middle after : Option (List ℕ)) (old held new : List ℕ) → Fills need before middle old held → length held < need
    → Took middle after held new → Fills need before after old new
fills_more need before middle after old held new f s t = (
  f.0 ++ t.0,
  read_more before middle after f.0 t.0 f.1 t.1,
  t.2 ∙ (ap (λ xs. xs ++ t.0) f.2 ∙ append_assoc old f.0 t.0),
  inr (f.0, t.0, refl, t.3, subst (λ xs. length xs < need) f.2 s),
)

-- ---- answers by the place that was found

pub breaks : (kept : List ℕ) (fault : FrameFault) → IsUnfinished kept → Breaks kept fault
breaks kept Failed u = u
breaks kept NoMemory u = tt

abbrev pub Told : Option (List ℕ) → Option (List ℕ) → List ℕ → Result Next FrameFault → List ℕ → Type 0
Told before after old result new =
    (read : List ℕ) × IsRead before read after × IsSparing old read
    × MatchResult result (λ next. Answers (old ++ read) next new) (λ fault. Leaves (old ++ read) fault new)

abbrev pub Answered : Option (List ℕ) → Option (List ℕ) → List ℕ → Next → List ℕ → Type 0
Answered before after old next new = (read : List ℕ) × IsRead before read after × IsSparing old read × Answers (old ++ read) next new

abbrev pub Left : Option (List ℕ) → Option (List ℕ) → List ℕ → FrameFault → List ℕ → Type 0
Left before after old fault new = (read : List ℕ) × IsRead before read after × IsSparing old read × Leaves (old ++ read) fault new

pub placed_ended : (before after : Option (List ℕ)) (old held : List ℕ) → Grows before after old held → held ≡ [] → Answered before after old Ended held
placed_ended before after old held g x = (g.0, g.1, g.3, (sym g.2 ∙ x, x))

pub placed_cut : (before after : Option (List ℕ)) (old held : List ℕ) → Grows before after old held → (held ≢ []) × IsUnfinished held → Answered before after old Cut held
placed_cut before after old held g x = (g.0, g.1, g.3, (λ e. x.0 (g.2 ∙ e), subst IsUnfinished g.2 x.1, g.2))

pub placed_bad : (before after : Option (List ℕ)) (old held : List ℕ) (status : ℕ) → Grows before after old held → HasBad held status → Answered before after old (Bad status) held
placed_bad before after old held status g x = (g.0, g.1, g.3, (subst (λ xs. HasBad xs status) g.2 x, g.2))

pub placed_fault : (before after : Option (List ℕ)) (old held : List ℕ) (fault : FrameFault) → Grows before after old held → Breaks held fault → Left before after old fault held
placed_fault before after old held Failed g x = (g.0, g.1, g.3, (subst IsUnfinished g.2 x, g.2))
placed_fault before after old held NoMemory g x = (g.0, g.1, g.3, g.2)

both_sparing : (old held first second : List ℕ) → held ≡ old ++ first → IsSparing old first → IsSparing held second → IsSparing old (first ++ second)
both_sparing old held first second e s (inl x) = subst (IsSparing old) (sym (ap (λ xs. first ++ xs) x ∙ append-nil first)) s
both_sparing old held first second e s (inr x) = inr (
  first ++ x.0,
  x.1,
  ap (λ xs. first ++ xs) x.2 ∙ sym (append_assoc first x.0 x.1),
  x.3,
  subst IsUnfinished (ap (λ xs. xs ++ x.0) e ∙ append_assoc old first x.0) x.4,
)

-- one sparing stretch of reads after another
pub placed_begun : (before middle after : Option (List ℕ)) (old held new : List ℕ) (result : Result Next FrameFault) → Grows before middle old held
    → Told middle after held result new → Told before after old result new
placed_begun before middle after old held new result g y = (
  g.0 ++ y.0,
  read_more before middle after g.0 y.0 g.1 y.1,
  both_sparing old held g.0 y.0 g.2 g.3 y.2,
  subst (λ xs. MatchResult result (λ next. Answers xs next new) (λ fault. Leaves xs fault new)) (ap (λ xs. xs ++ y.0) g.2 ∙ append_assoc old g.0 y.0) y.3,
)

-- ---- the body

module _ (before after : Option (List ℕ)) (old new : List ℕ) (m : Message) (len n : ℕ) (b : Begins old m len n) (f : Fills (len + n) before after old new) where
  body_sparing : (read : List ℕ) → FillsTo (len + n) old read → IsSparing old read
  body_sparing read (inl e) = inl e
  body_sparing read (inr x) = inr (x.0, x.1, x.2, x.3, body_unfinished old (old ++ x.0) m len n b (take_at old x.0 (length old) refl) x.4)

  front : take (length old) (old ++ f.0) ≡ old
  front = take_at old f.0 (length old) refl

  short : length new < len + n → length (old ++ f.0) < len + n
  short l = subst (λ xs. length xs < len + n) f.2 l

  pub finished_cut : length new < len + n → Answered before after old Cut new
  finished_cut l = (f.0, f.1, body_sparing f.0 f.3, (body_cut old (old ++ f.0) m len n b front, body_unfinished old (old ++ f.0) m len n b front (short l), f.2))

  pub finished_fault : (fault : FrameFault) → length new < len + n → Left before after old fault new
  finished_fault Failed l = (f.0, f.1, body_sparing f.0 f.3, (body_unfinished old (old ++ f.0) m len n b front (short l), f.2))
  finished_fault NoMemory l = (f.0, f.1, body_sparing f.0 f.3, f.2)

  pub finished_refused : Left before after old NoMemory new
  finished_refused = (f.0, f.1, body_sparing f.0 f.3, f.2)

  pub finished_whole : len + n ≤ length new → Answered before after old (Whole (with_body m (take n (drop len new)))) (drop (len + n) new)
  finished_whole l =
      let e : take (length old) new ≡ old = ap (take (length old)) f.2 ∙ front in
      (f.0, f.1, body_sparing f.0 f.3, subst (λ xs. Answers xs (Whole (with_body m (take n (drop len new)))) (drop (len + n) new)) f.2 (message_came old new m len n b e l))
