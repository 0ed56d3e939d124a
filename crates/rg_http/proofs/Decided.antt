-- Each text has its fate by the grammar of a head, piece by piece: it begins with the piece, or may still, or never will.
use Rattle.std.proofs.Common.{◌≡◌, ◌≢◌, ◌≤◌, ◌<◌, ◌+◌, ◌⊎◌, ℕ, zero, suc, Bool, true, false, List, [], ◌∷◌, ◌++◌, length, get_or, drop, refl, sym, ap, ◌∙◌, subst, arith, append_assoc, append-nil, length-append, inl, inr, codes}
use Rattle.std.specs.Str.{IsUtf8, is_utf8}
use Rattle.std.proofs.lemmas.Bool.{cases_Bool}
use Rattle.std.proofs.lemmas.Bool.Decides.{eqb_tells}
use Rattle.std.proofs.lemmas.List.Elements.{All-nil, All-cons}
use Rattle.std.proofs.lemmas.Str.{IsUtf8-from_is_utf8, is_utf8-from_IsUtf8}
use Rattle.httparse.specs.Grammar.{AllPass, is_token_byte, is_uri_byte, is_value_byte, LineEnd, crlf, lf, print_end, print_blank, Field, IsField, print_field, EndsInTarget}
use Rattle.httparse.specs.Pieces.{Piece, Begins, Then, Refutes, NotYet, Never, Completes, Stops, is_newline, Bytes, Newline, Blank, BlankLines, Word, Method, Target, Version, Text, FieldLine, FieldLines, Section, RequestStart}
use Rattle.httparse.proofs.RunLemmas.{run_unique, run_unstopped, Stops-append}
use Rattle.httparse.proofs.PieceLemmas.{IsDeterministic, Refutes_by, Refutes_first, Refutes_next, Never_intro, NotYet_intro, front-append, Word_deterministic, Name_deterministic, Blank_deterministic, Method_deterministic, Target_deterministic, Version_deterministic, RequestStart_deterministic, space_ends_token, colon_ends_token, Stops_value, print_field-append, Section_skip, FieldLines-append}
use Rattle.httparse.proofs.ReadLemmas.{Version_bytes, Target_word, Blank_after, Blank_open, Blank_newline, BeginsLine_either, FieldLine_row, FieldLine_done, Section_after}
use Rattle.httparse.proofs.OpenLemmas.{Completes_first, Completes_next, some_newline, some_bytes, some_version, some_text, some_target, some_section, Newline_after_cr, BlankLines_after, Version_after_bytes, Version_before_digit, Word_cut, letter_is_token, FieldLine_of_row, Section_after_lines, Section_of_line, line_blank, ends_in_target}

-- the text doesn't begin with the piece: some bytes that may follow make it begin so, or none do
abbrev pub Lacks : {A : Type 0} → Piece A → List ℕ → Type 0
Lacks G s = (NotYet (Begins G) s × Completes G s) ⊎ Never (Begins G) s

abbrev pub Decided : {A : Type 0} → Piece A → List ℕ → Type 0
Decided G s = Begins G s ⊎ Lacks G s

both_ways : (b : Bool) → b ≡ false → b ≡ true → ⊥
both_ways b f t = cc

-- ---- two pieces in a row

lacks_first : {A B : Type 0} (G : Piece A) (H : Piece B) → Completes H [] → (s : List ℕ) → Lacks G s → Lacks (Then G H) s
lacks_first G H short s (inl x) = inl (Refutes_first G H x.0, Completes_first x.1 short)
lacks_first G H short s (inr x) = inr (Refutes_first G H x)

next_decided : {A B : Type 0} (G : Piece A) (H : Piece B) → IsDeterministic G → (a : A) (s t : List ℕ) → G a s t → Decided H t → Decided (Then G H) s
next_decided G H det a s t x (inl y) = inl ((a, y.0), y.1, (t, x, y.2))
next_decided G H det a s t x (inr (inl y)) = inr (inl (Refutes_next H det {a = a} x y.0, Completes_next det {a = a} x y.1))
next_decided G H det a s t x (inr (inr y)) = inr (inr (Refutes_next H det {a = a} x y))

then_decided : {A B : Type 0} (G : Piece A) (H : Piece B) → IsDeterministic G → Completes H [] → (s : List ℕ) → Decided G s → ((t : List ℕ) → Decided H t) → Decided (Then G H) s
then_decided G H det short s (inl x) h = next_decided G H det x.0 s x.1 x.2 (h x.1)
then_decided G H det short s (inr x) h = inr (lacks_first G H short s x)

-- ---- given bytes

bytes_step : (c b : ℕ) (bytes s : List ℕ) → b ≡ c → Decided (Bytes bytes) s → Decided (Bytes (c ∷ bytes)) (b ∷ s)
bytes_step c b bytes s e (inl x) = inl (tt, x.1, ap (λ xs. b ∷ xs) x.2 ∙ ap (λ d. d ∷ (bytes ++ x.1)) e)
bytes_step c b bytes s e (inr (inl x)) = inr (inl (
  Refutes_by (λ more h. (tt, h.1, ap (drop 1) h.2)) x.0,
  record { more = x.1.more; tree = tt; reads = λ rest. ap (λ xs. b ∷ xs) (x.1.reads rest) ∙ ap (λ d. d ∷ (bytes ++ rest)) e },
))
bytes_step c b bytes s e (inr (inr x)) = inr (inr (Refutes_by (λ more h. (tt, h.1, ap (drop 1) h.2)) x))

bytes_decided : (bytes s : List ℕ) → Decided (Bytes bytes) s
bytes_decided [] s = inl (tt, s, refl)
bytes_decided (c ∷ bytes) [] =
    inr (inl (NotYet_intro (λ h. let l : 0 ≡ suc (length (bytes ++ h.1)) = ap length h.2 in omega (arith, l)), some_bytes (c ∷ bytes)))
bytes_decided (c ∷ bytes) (b ∷ s) = elim (eqb_tells b c) [
  | inl e ↦ bytes_step c b bytes s e.1 (bytes_decided bytes s)
  | inr n ↦ inr (inr (Never_intro (λ more h. n.1 (ap (λ xs. get_or xs 0 0) h.2))))
]

-- ---- the end of a line

newline_first : (e : LineEnd) (rest s : List ℕ) → s ≡ print_end e ++ rest → (get_or s 0 0 ≡ 10) ⊎ ((get_or s 0 0 ≡ 13) × (get_or s 1 0 ≡ 10))
newline_first crlf rest s e = inr (ap (λ xs. get_or xs 0 0) e, ap (λ xs. get_or xs 1 0) e)
newline_first lf rest s e = inl (ap (λ xs. get_or xs 0 0) e)

after_cr : (s : List ℕ) → Decided Newline (13 ∷ s)
after_cr [] =
    inr (inl (NotYet_intro (λ h. elim (newline_first h.0 h.1 (13 ∷ []) h.2) [ inl e ↦ omega (arith, e) | inr e ↦ omega (arith, e.1) ]), Newline_after_cr refl))
after_cr (b ∷ s) = elim (eqb_tells b 10) [
  | inl e ↦ inl (crlf, s, ap (λ c. 13 ∷ c ∷ s) e.1)
  | inr n ↦ inr (inr (Never_intro (λ more h. elim (newline_first h.0 h.1 (13 ∷ b ∷ (s ++ more)) h.2) [ inl e ↦ omega (arith, e) | inr e ↦ n.1 e.1 ])))
]

newline_decided : (s : List ℕ) → Decided Newline s
newline_decided [] =
    inr (inl (NotYet_intro (λ h. elim (newline_first h.0 h.1 [] h.2) [ inl e ↦ omega (arith, e) | inr e ↦ omega (arith, e.0) ]), some_newline))
newline_decided (b ∷ s) = elim (eqb_tells b 10) [
  | inl e ↦ inl (lf, s, ap (λ c. c ∷ s) e.1)
  | inr n ↦ elim (eqb_tells b 13) [
    | inl e ↦ subst (λ c. Decided Newline (c ∷ s)) (sym e.1) (after_cr s)
    | inr m ↦ inr (inr (Never_intro (λ more h. elim (newline_first h.0 h.1 (b ∷ (s ++ more)) h.2) [ inl e ↦ n.1 e | inr e ↦ m.1 e.0 ])))
  ]
]

newline_shorter : (e : LineEnd) (s r : List ℕ) → s ≡ print_end e ++ r → length r < length s
newline_shorter crlf s r e = let l : length s ≡ suc (suc (length r)) = ap length e in omega (arith, l)
newline_shorter lf s r e = let l : length s ≡ suc (length r) = ap length e in omega (arith, l)

-- ---- empty lines

abbrev BlankFate : List ℕ → Type 0
BlankFate s = Begins Blank s ⊎ ((NotYet (Begins Blank) s × Completes BlankLines s) ⊎ Never (Begins Blank) s)

one_blank : (e : LineEnd) (r : List ℕ) → print_end e ++ r ≡ print_blank (e ∷ []) ++ r
one_blank crlf r = refl
one_blank lf r = refl

blank_push : (e : LineEnd) (s r : List ℕ) → s ≡ print_end e ++ r → BlankFate r → BlankFate s
blank_push e s r is (inl x) =
    inl (e ∷ x.0, x.1, (is ∙ (ap (λ t. print_end e ++ t) x.2.0 ∙ sym (append_assoc (print_end e) (print_blank x.0) x.1)), x.2.1))
blank_push e s r is (inr (inl x)) = inr (inl (
  Blank_after (e ∷ []) (is ∙ one_blank e r) x.0,
  record {
    more = x.1.more;
    tree = e ∷ x.1.tree;
    reads = λ rest.
        front-append s (print_end e) r (x.1.more ++ rest) is
        ∙ (ap (λ t. print_end e ++ t) (x.1.reads rest) ∙ sym (append_assoc (print_end e) (print_blank x.1.tree) rest));
  },
))
blank_push e s r is (inr (inr x)) = inr (inr (Blank_after (e ∷ []) (is ∙ one_blank e r) x))

blank_line : (b : ℕ) (s : List ℕ) → is_newline b ≡ true → ((r : List ℕ) → length r < length (b ∷ s) → BlankFate r) → Decided Newline (b ∷ s) → BlankFate (b ∷ s)
blank_line b s t shorter (inl x) = blank_push x.0 (b ∷ s) x.1 x.2 (shorter x.1 (newline_shorter x.0 (b ∷ s) x.1 x.2))
blank_line b s t shorter (inr (inl x)) = inr (inl (Blank_newline (b ∷ s) 0 (omega arith) t x.0, BlankLines_after [] refl x.1))
blank_line b s t shorter (inr (inr x)) = inr (inr (Blank_newline (b ∷ s) 0 (omega arith) t x))

blank_within : (n : ℕ) (s : List ℕ) → length s ≤ n → BlankFate s
blank_within n [] l = inr (inl (Blank_open [] 0 (omega arith), record { more = []; tree = []; reads = λ rest. refl }))
blank_within zero (b ∷ s) l = absurd (omega (arith, l))
blank_within (suc n) (b ∷ s) l = elim (cases_Bool (is_newline b)) [
  | inl t ↦ blank_line b s t (λ r k. blank_within n r (omega (arith, l, k))) (newline_decided (b ∷ s))
  | inr f ↦ inl ([], b ∷ s, (refl, f))
]

-- ---- runs of bytes

-- the longest run at the front
record RunOf (test : ℕ → Bool) (s : List ℕ) : Type 0 where
  run : List ℕ
  rest : List ℕ
  all : AllPass test run
  ends : (rest ≡ []) ⊎ Stops test rest
  whole : s ≡ run ++ rest

run_step : (test : ℕ → Bool) (b : ℕ) (s : List ℕ) → RunOf test s → (test b ≡ true) ⊎ (test b ≡ false) → RunOf test (b ∷ s)
run_step test b s r (inl t) =
    record { run = b ∷ r.run; rest = r.rest; all = All-cons (λ v. test v ≡ true) b r.run t r.all; ends = r.ends; whole = ap (λ xs. b ∷ xs) r.whole }
run_step test b s r (inr f) = record { run = []; rest = b ∷ s; all = All-nil (λ v. test v ≡ true); ends = inr f; whole = refl }

run_of : (test : ℕ → Bool) (s : List ℕ) → RunOf test s
run_of test [] = record { run = []; rest = []; all = All-nil (λ v. test v ≡ true); ends = inl refl; whole = refl }
run_of test (b ∷ s) = run_step test b s (run_of test s) (cases_Bool (test b))

-- a word stands at the front, or all bytes are of one, or there is none, whatever follows
abbrev WordFate : (ℕ → Bool) → ℕ → List ℕ → Type 0
WordFate test stop s = Begins (Word test stop) s ⊎ (AllPass test s ⊎ Never (Begins (Word test stop)) s)

module _ (test : ℕ → Bool) (stop : ℕ) (stopped : test stop ≡ false) where
  word_never : (run : List ℕ) (c : ℕ) (tail : List ℕ) → AllPass test run → test c ≡ false → (c ≡ stop → 0 < length run → ⊥) → Never (Begins (Word test stop)) (run ++ c ∷ tail)
  word_never run c tail all f bad = Never_intro (λ more x.
      let u = run_unique test run x.0 (c ∷ (tail ++ more)) (stop ∷ x.1) all x.2.1 f stopped (sym (append_assoc run (c ∷ tail) more) ∙ x.2.2) in
      bad (ap (λ xs. get_or xs 0 0) u.1) (subst (λ w. 0 < length w) (sym u.0) x.2.0))

  word_at : (run rest : List ℕ) → AllPass test run → (rest ≡ []) ⊎ Stops test rest → WordFate test stop (run ++ rest)
  word_at run [] all e = inr (inl (subst (AllPass test) (sym (append-nil run)) all))
  word_at run (c ∷ tail) all (inl e) = absurd (let l : suc (length tail) ≡ 0 = ap length e in omega (arith, l))
  word_at [] (c ∷ tail) all (inr f) = inr (inr (word_never [] c tail all f (λ e l. omega (arith, l))))
  word_at (b ∷ run) (c ∷ tail) all (inr f) = elim (eqb_tells c stop) [
    | inl e ↦ inl (b ∷ run, tail, (omega arith, all, ap (λ d. (b ∷ run) ++ d ∷ tail) e.1))
    | inr n ↦ inr (inr (word_never (b ∷ run) c tail all f (λ e l. n.1 e)))
  ]

  word_fate : (s : List ℕ) → WordFate test stop s
  word_fate s = let r = run_of test s in subst (WordFate test stop) (sym r.whole) (word_at r.run r.rest r.all r.ends)

  word_by : (some : ℕ) → test some ≡ true → (s : List ℕ) → WordFate test stop s → Decided (Word test stop) s
  word_by some passes s (inl x) = inl x
  word_by some passes s (inr (inl all)) = inr (inl (
    NotYet_intro (λ h. run_unstopped test h.0 (stop ∷ h.1) (subst (AllPass test) h.2.2 all) stopped),
    Word_cut test stop some passes all,
  ))
  word_by some passes s (inr (inr x)) = inr (inr x)

token_decided : (stop : ℕ) → is_token_byte stop ≡ false → (s : List ℕ) → Decided (Word is_token_byte stop) s
token_decided stop stopped s = word_by is_token_byte stop stopped 65 letter_is_token s (word_fate is_token_byte stop stopped s)

-- ---- the text of a line

text_refuted : {M : List ℕ → Type 0} (run rest : List ℕ) → AllPass is_value_byte run → Stops is_value_byte rest → Refutes M (Begins Newline) rest → Refutes M (Begins Text) (run ++ rest)
text_refuted run rest all f = Refutes_by (λ more h. (
  h.0.1,
  h.1,
  (run_unique is_value_byte run h.0.0 (rest ++ more) (print_end h.0.1 ++ h.1) all h.2.0 (Stops-append is_value_byte rest more f) (Stops_value h.0.1 h.1)
      (sym (append_assoc run rest more) ∙ h.2.1)).1,
))

text_after : (run rest : List ℕ) → AllPass is_value_byte run → Stops is_value_byte rest → Decided Newline rest → Decided Text (run ++ rest)
text_after run rest all f (inl x) = inl ((run, x.0), x.1, (all, ap (λ t. run ++ t) x.2))
text_after run rest all f (inr (inl x)) = inr (inl (
  text_refuted run rest all f x.0,
  record {
    more = x.1.more;
    tree = (run, x.1.tree);
    reads = λ r. (all, append_assoc run rest (x.1.more ++ r) ∙ ap (λ t. run ++ t) (x.1.reads r));
  },
))
text_after run rest all f (inr (inr x)) = inr (inr (text_refuted run rest all f x))

text_at : (run rest : List ℕ) → AllPass is_value_byte run → (rest ≡ []) ⊎ Stops is_value_byte rest → Decided Text (run ++ rest)
text_at run [] all e = inr (inl (
  NotYet_intro (λ h.
      run_unstopped is_value_byte h.0.0 (print_end h.0.1 ++ h.1) (subst (AllPass is_value_byte) (sym (append-nil run) ∙ h.2.1) all) (Stops_value h.0.1 h.1)),
  record { more = 10 ∷ []; tree = (run, lf); reads = λ r. (all, ap (λ xs. xs ++ (10 ∷ r)) (append-nil run)) },
))
text_at run (c ∷ tail) all (inl e) = absurd (let l : suc (length tail) ≡ 0 = ap length e in omega (arith, l))
text_at run (c ∷ tail) all (inr f) = text_after run (c ∷ tail) all f (newline_decided (c ∷ tail))

text_decided : (s : List ℕ) → Decided Text s
text_decided s = let r = run_of is_value_byte s in subst (Decided Text) (sym r.whole) (text_at r.run r.rest r.all r.ends)

-- ---- fields

field_of_row : (s : List ℕ) → Decided (Then (Word is_token_byte 58) Text) s → Decided FieldLine s
field_of_row s (inl x) =
    inl (record { name = x.0.0; raw = x.0.1.0; end = x.0.1.1 }, x.1, FieldLine_done x.0.0 x.0.1.0 x.0.1.1 s x.2.0 x.1 x.2.1 x.2.2)
field_of_row s (inr (inl x)) = inr (inl (FieldLine_row x.0, FieldLine_of_row x.1))
field_of_row s (inr (inr x)) = inr (inr (FieldLine_row x))

field_decided : (s : List ℕ) → Decided FieldLine s
field_decided s = field_of_row s (then_decided (Word is_token_byte 58) Text Name_deterministic some_text s (token_decided 58 colon_ends_token s) text_decided)

field_shorter : (f : Field) (s t : List ℕ) → s ≡ print_field f ++ t → length t < length s
field_shorter f s t e =
    let whole = ap length (e ∙ print_field-append f t) in
    let name = length-append f.name (58 ∷ (f.raw ++ (print_end f.end ++ t))) in
    let raw = length-append f.raw (print_end f.end ++ t) in
    omega (arith, whole, name, raw, length-append (print_end f.end) t)

one_line : (f : Field) (s t : List ℕ) → FieldLine f s t → FieldLines (f ∷ []) s t
one_line f s t x = (All-cons IsField f [] x.0 (All-nil IsField), x.1 ∙ ap (λ u. u ++ t) (sym (append-nil (print_field f))))

line_refuted : {M : List ℕ → Type 0} (f : Field) (s t : List ℕ) → FieldLine f s t → Refutes M (Begins Section) t → Refutes M (Begins Section) s
line_refuted f s t x = Refutes_by (λ more h.
    let k = Section_skip (f ∷ []) h.0.0 h.0.1 _ _ h.1 (FieldLines-append (f ∷ []) s t more (one_line f s t x)) h.2 in ((k.0, h.0.1), h.1, k.2))

regroup : (a b c r : List ℕ) → a ++ ((b ++ c) ++ r) ≡ ((a ++ b) ++ c) ++ r
regroup a b c r = simp append_assoc

section_push : (f : Field) (s t : List ℕ) → FieldLine f s t → Decided Section t → Decided Section s
section_push f s t x (inl y) = inl (
  (f ∷ y.0.0, y.0.1),
  y.1,
  (All-cons IsField f y.0.0 x.0 y.2.0, x.1 ∙ (ap (λ u. print_field f ++ u) y.2.1 ∙ regroup (print_field f) _ (print_end y.0.1) y.1)),
)
section_push f s t x (inr (inl y)) = inr (inl (line_refuted f s t x y.0, Section_after_lines (f ∷ []) (one_line f s t x) y.1))
section_push f s t x (inr (inr y)) = inr (inr (line_refuted f s t x y))

yet : {H : List ℕ → Type 0} {s : List ℕ} → Never H s → NotYet H s
yet r = record { none = λ more e. r.none more tt }

section_lacks : (s : List ℕ) → Lacks Newline s → Lacks FieldLine s → Lacks Section s
section_lacks s (inl x) (inl y) = inl (Section_after [] (All-nil IsField, refl) (BeginsLine_either x.0 y.0), Section_of_line (inl x.1))
section_lacks s (inl x) (inr y) = inl (Section_after [] (All-nil IsField, refl) (BeginsLine_either x.0 (yet y)), Section_of_line (inl x.1))
section_lacks s (inr x) (inl y) = inl (Section_after [] (All-nil IsField, refl) (BeginsLine_either (yet x) y.0), Section_of_line (inr y.1))
section_lacks s (inr x) (inr y) = inr (Section_after [] (All-nil IsField, refl) (BeginsLine_either x y))

section_step : (s : List ℕ) → ((t : List ℕ) → length t < length s → Decided Section t) → Decided Newline s → Decided FieldLine s → Decided Section s
section_step s shorter (inl x) y = inl (([], x.0), x.1, (All-nil IsField, x.2))
section_step s shorter (inr x) (inl y) = section_push y.0 s y.1 y.2 (shorter y.1 (field_shorter y.0 s y.1 y.2.1))
section_step s shorter (inr x) (inr y) = inr (section_lacks s x y)

section_within : (n : ℕ) (s : List ℕ) → length s ≤ n → Decided Section s
section_within zero s l = section_step s (λ t k. absurd (omega (arith, l, k))) (newline_decided s) (field_decided s)
section_within (suc n) s l = section_step s (λ t k. section_within n t (omega (arith, l, k))) (newline_decided s) (field_decided s)

section_decided : (s : List ℕ) → Decided Section s
section_decided s = section_within (length s) s (omega arith)

-- ---- the first line

version_minor : (d minor : ℕ) → d ≡ 48 + minor → minor ≤ 1 → d ≢ 48 → d ≢ 49 → ⊥
version_minor d zero e l z o = z e
version_minor d (suc zero) e l z o = o e
version_minor d (suc (suc minor)) e l z o = omega (arith, l)

version_digit : (s t : List ℕ) → s ≡ codes "HTTP/1." ++ t → Decided Version s
version_digit s [] e =
    inr (inl (NotYet_intro (λ h. let l : 0 ≡ 48 + h.0 = ap (λ xs. get_or xs 7 0) (sym e ∙ h.2.1) in omega (arith, l)), Version_before_digit e refl))
version_digit s (d ∷ t) e = elim (eqb_tells d 48) [
  | inl z ↦ inl (0, t, (omega arith, e ∙ ap (λ c. codes "HTTP/1." ++ c ∷ t) z.1))
  | inr z ↦ elim (eqb_tells d 49) [
    | inl o ↦ inl (1, t, (omega arith, e ∙ ap (λ c. codes "HTTP/1." ++ c ∷ t) o.1))
    | inr o ↦ inr (inr (Never_intro (λ more h.
        let same : d ≡ 48 + h.0 = ap (λ xs. get_or xs 7 0) (sym (ap (λ xs. xs ++ more) e) ∙ h.2.1) in version_minor d h.0 same h.2.0 z.1 o.1)))
  ]
]

version_by : (s : List ℕ) → Decided (Bytes (codes "HTTP/1.")) s → Decided Version s
version_by s (inl x) = version_digit s x.1 x.2
version_by s (inr (inl x)) = inr (inl (Version_bytes x.0, Version_after_bytes x.1))
version_by s (inr (inr x)) = inr (inr (Version_bytes x))

version_decided : (s : List ℕ) → Decided (Then Version Newline) s
version_decided s =
    then_decided Version Newline Version_deterministic some_newline s (version_by s (bytes_decided (codes "HTTP/1.") s)) newline_decided

target_text : (s w r : List ℕ) → Word is_uri_byte 32 w s r → (is_utf8 w ≡ true) ⊎ (is_utf8 w ≡ false) → Decided Target s
target_text s w r x (inl t) = inl (w, r, (x, IsUtf8-from_is_utf8 w t))
target_text s w r x (inr f) = inr (inr (Never_intro (λ more h.
    let word = Word_deterministic is_uri_byte 32 refl in
    let same = word.unique h.0 w (s ++ more) h.1 (r ++ more) h.2.0 (word.append w s r more x) in
    both_ways (is_utf8 w) f (is_utf8-from_IsUtf8 w (subst IsUtf8 same.0 h.2.1)))))

target_by : (s : List ℕ) → ¬ (AllPass is_uri_byte s) → WordFate is_uri_byte 32 s → Decided Target s
target_by s judged (inl x) = target_text s x.0 x.1 x.2 (cases_Bool (is_utf8 x.0))
target_by s judged (inr (inl all)) = absurd (judged all)
target_by s judged (inr (inr x)) = inr (inr (Target_word x))

after_method : (s : List ℕ) → ¬ (AllPass is_uri_byte s) → Decided (Then Target (Then Version Newline)) s
after_method s judged =
    then_decided Target (Then Version Newline) Target_deterministic (Completes_first some_version some_newline) s
    (target_by s judged (word_fate is_uri_byte 32 refl s)) version_decided

method_by : (s : List ℕ) → ((m u : List ℕ) → Method m s u → ¬ (AllPass is_uri_byte u)) → Decided Method s
    → Decided (Then Method (Then Target (Then Version Newline))) s
method_by s judged (inl x) = next_decided Method (Then Target (Then Version Newline)) Method_deterministic x.0 s x.1 x.2 (after_method x.1 (judged x.0 x.1 x.2))
method_by s judged (inr x) =
    inr (lacks_first Method (Then Target (Then Version Newline)) (Completes_first some_target (Completes_first some_version some_newline)) s x)

start_by : (s : List ℕ) → ¬ (EndsInTarget s) → BlankFate s → Decided RequestStart s
start_by s judged (inl x) =
    next_decided Blank (Then Method (Then Target (Then Version Newline))) Blank_deterministic x.0 s x.1 x.2
    (method_by x.1 (λ m u method all. judged (ends_in_target x.0 m u x.2 method all)) (token_decided 32 space_ends_token x.1))
start_by s judged (inr (inl x)) = inr (inl (Refutes_first Blank (Then Method (Then Target (Then Version Newline))) x.0, line_blank x.1))
start_by s judged (inr (inr x)) = inr (inr (Refutes_first Blank (Then Method (Then Target (Then Version Newline))) x))

-- a text that doesn't end in a target has its fate by the whole head
pub request_decided : (s : List ℕ) → ¬ (EndsInTarget s) → Decided (Then RequestStart Section) s
request_decided s judged =
    then_decided RequestStart Section RequestStart_deterministic some_section s (start_by s judged (blank_within (length s) s (omega arith))) section_decided
