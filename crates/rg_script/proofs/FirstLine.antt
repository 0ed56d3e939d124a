-- The first of the lines, and the rest.
use Rattle.std.proofs.Common.{◌≡◌, ◌≢◌, ◌+◌, ◌<◌, ◌==◌, ◌&&◌, ℕ, List, [], ◌∷◌, ◌++◌, length, take, drop, Bool, true, false, cond, refl, ap, sym, ◌∙◌, arith, add-one}
use Rattle.std.proofs.lemmas.Bool.Decides.{nat_tests}
use Rattle.rg_script.specs.Ends.{is_empty, len_before, without_return}
use Rattle.rg_script.specs.Lines.{begins_with_feed, lines_of, onto}

and_false : (p : Bool) → (p && false) ≡ false
and_false true = refl
and_false false = refl

-- the first byte is no LF
not_first : (p : Bool) (n m : ℕ) → cond p 0 n ≡ m + 1 → (p ≡ false) × (n ≡ m + 1)
not_first true n m h = absurd (omega arith)
not_first false n m h = (refl, h)

no_feed_next : (bs : List ℕ) → len_before 10 bs ≡ length bs → begins_with_feed bs ≡ false
no_feed_next [] all = refl
no_feed_next (b ∷ bs) all = (not_first (b == 10) (len_before 10 bs + 1) (length bs) (omega arith)).0

onto_only : (b : ℕ) (bs : List ℕ) → (0 < length bs → lines_of bs ≡ bs ∷ []) → onto b (lines_of bs) ≡ (b ∷ bs) ∷ []
onto_only b [] rest = refl
onto_only b (c ∷ cs) rest = ap (onto b) (rest (omega arith))

-- where there is no LF, all is one line
pub only_line : (xs : List ℕ) → len_before 10 xs ≡ length xs → 0 < length xs → lines_of xs ≡ xs ∷ []
only_line [] all h = absurd (omega arith)
only_line (b ∷ bs) all h =
    let later = not_first (b == 10) (len_before 10 bs + 1) (length bs) (omega arith) in
    let rest : len_before 10 bs ≡ length bs = omega (arith, later.1) in
    rw (later.0, no_feed_next bs rest, and_false) (onto_only b bs (only_line bs rest))

take_one : (n b : ℕ) (bs : List ℕ) → take (n + 1) (b ∷ bs) ≡ b ∷ take n bs
take_one n b bs = rw add-one refl

drop_one : (n b : ℕ) (bs : List ℕ) → drop (n + 1) (b ∷ bs) ≡ drop n bs
drop_one n b bs = rw add-one refl

-- an LF comes next where nothing stands before the first
next_or_later : (p : Bool) (n b : ℕ) (bs : List ℕ) → p ≡ is_empty (take (cond p 0 (n + 1)) (b ∷ bs))
next_or_later true n b bs = refl
next_or_later false n b bs = rw take_one refl

feed_next : (bs : List ℕ) → 0 < length bs → begins_with_feed bs ≡ is_empty (take (len_before 10 bs) bs)
feed_next [] h = absurd (omega arith)
feed_next (b ∷ bs) h = next_or_later (b == 10) (len_before 10 bs) b bs

-- a CR with nothing behind it is dropped, and every other byte is kept
return_or_kept : (p : Bool) (b : ℕ) (line : List ℕ) (lines : List (List ℕ))
    → cond (p && is_empty line) (without_return line ∷ lines) ((b ∷ without_return line) ∷ lines)
    ≡ cond (p && is_empty line) [] (b ∷ without_return line) ∷ lines
return_or_kept true b [] lines = refl
return_or_kept false b [] lines = refl
return_or_kept true b (c ∷ cs) lines = refl
return_or_kept false b (c ∷ cs) lines = refl

-- the lines begin with what stands before the LF at n
abbrev BreaksAt : ℕ → List ℕ → Type 0
BreaksAt n bs = lines_of bs ≡ without_return (take n bs) ∷ lines_of (drop (n + 1) bs)

breaks_later : (b : ℕ) (bs : List ℕ) → 0 < length bs → BreaksAt (len_before 10 bs) bs
    → cond (b == 13 && begins_with_feed bs) (lines_of bs) (onto b (lines_of bs))
    ≡ without_return (b ∷ take (len_before 10 bs) bs) ∷ lines_of (drop (len_before 10 bs + 1) bs)
breaks_later b bs h rest = rw (rest, feed_next bs h) (return_or_kept (b == 13) b (take (len_before 10 bs) bs) (lines_of (drop (len_before 10 bs + 1) bs)))

breaks_here : (b : ℕ) (bs : List ℕ) (p : Bool) → cond p 0 (len_before 10 bs + 1) < length bs + 1 → (len_before 10 bs < length bs → BreaksAt (len_before 10 bs) bs)
    → cond p ([] ∷ lines_of bs) (cond (b == 13 && begins_with_feed bs) (lines_of bs) (onto b (lines_of bs)))
    ≡ without_return (take (cond p 0 (len_before 10 bs + 1)) (b ∷ bs)) ∷ lines_of (drop (cond p 0 (len_before 10 bs + 1) + 1) (b ∷ bs))
breaks_here b bs true h rest = refl
breaks_here b bs false h rest = rw (take_one, drop_one (len_before 10 bs + 1) b bs) (breaks_later b bs (omega arith) (rest (omega arith)))

-- where there is an LF, the first line ends there
pub first_line : (xs : List ℕ) → len_before 10 xs < length xs → BreaksAt (len_before 10 xs) xs
first_line [] h = absurd (omega arith)
first_line (b ∷ bs) h = breaks_here b bs (b == 10) (omega arith) (first_line bs)

-- a byte with others behind it is kept
kept_before : (p : Bool) (b : ℕ) (rest : List ℕ) (last : ℕ)
    → cond (p && is_empty (rest ++ last ∷ [])) [] (b ∷ without_return (rest ++ last ∷ [])) ≡ b ∷ without_return (rest ++ last ∷ [])
kept_before true b [] last = refl
kept_before false b [] last = refl
kept_before true b (c ∷ cs) last = refl
kept_before false b (c ∷ cs) last = refl

dropped_last : (rest : List ℕ) → without_return (rest ++ 13 ∷ []) ≡ rest
dropped_last [] = refl
dropped_last (b ∷ bs) = kept_before (b == 13) b bs 13 ∙ ap (λ rest. b ∷ rest) (dropped_last bs)

kept_last : (rest : List ℕ) (last : ℕ) → (last == 13) ≡ false → without_return (rest ++ last ∷ []) ≡ rest ++ last ∷ []
kept_last [] last other = rw other refl
kept_last (b ∷ bs) last other = kept_before (b == 13) b bs last ∙ ap (λ rest. b ∷ rest) (kept_last bs last other)

-- the line ends with a CR
pub return_dropped : (line rest : List ℕ) (last : ℕ) → line ≡ rest ++ last ∷ [] → last ≡ 13 → rest ≡ without_return line
return_dropped line rest last whole is = rw (whole, is) (sym (dropped_last rest))

-- the line ends with some other byte
pub other_kept : (line rest : List ℕ) (last : ℕ) → line ≡ rest ++ last ∷ [] → last ≢ 13 → line ≡ without_return line
other_kept line rest last whole other = rw whole (sym (kept_last rest last (grind (arith, nat_tests))))
