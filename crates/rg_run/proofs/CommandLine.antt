-- What `clap` makes of plain words: the first is WORD, and those after it are PART.
use Rattle.std.proofs.Common.{◌≡◌, ◌∙◌, ◌&&◌, ◌++◌, ℕ, List, [], ◌∷◌, Bool, true, false, not, Option, Some, None, codes, option_map, refl, ap, sym, subst, append_assoc, append-nil, map, fold}
use Rattle.std.specs.List.{list_all}
use Rattle.clap.specs.Matches.{first_value, matched_of, raw_values}
use Rattle.clap.specs.Simple.{built, matches_of}
use Rattle.clap.specs.Walk.{Held, Row, Rule, Step, Text, Walk, after_step, all_of, finished, first_of, nothing_held, rows_of, settled_rows, walk_from, walked, word_met}
use Rattle.clap.specs.Walk.{idle, positional, value}
use Rattle.clap.specs.declared.parser.matches.Found.{Found}
use Rattle.clap.proofs.WalkLemmas.{both, first_value-rows, raw_values-rows}
use Rattle.rg_run.specs.CommandLine.{words_app}
use Rattle.rg_run.specs.Commands.{command_of, has_dash, is_plain, named}

abbrev line_rules : List Rule
line_rules = (built words_app).top.rules

-- a word without a hyphen is no flag
plain_first : (position : ℕ) (w : Text) (h : Held) → has_dash w ≡ false → word_met line_rules [] false idle position w h ≡ (h, value)
plain_first position [] h e = refl
plain_first position (x ∷ xs) h e = rw (e, e) refl

plain_later : (position : ℕ) (w : Text) (h : Held) → has_dash w ≡ false → word_met line_rules [] false positional position w h ≡ (h, value)
plain_later position [] h e = refl
plain_later position (x ∷ xs) h e = rw (e, e) refl

-- after the first word, and after parts
abbrev with_word : Text → Walk
with_word w = record { held = record { rows = []; pending = Some (codes "WORD", w ∷ []); skip = 0 }; waiting = idle; position = 2; is_trailing = false; stopped = None }

abbrev with_parts : Text → List Text → Walk
with_parts w vs = record {
  held = record { rows = settled_rows line_rules (Some (codes "WORD", w ∷ [])) []; pending = Some (codes "PART", vs); skip = 0 };
  waiting = positional;
  position = 2;
  is_trailing = false;
  stopped = None;
}

first_word : (w : Text) → has_dash w ≡ false → walked line_rules [] (walk_from nothing_held) w ≡ with_word w
unfolding walked
first_word w e = ap (λ (met : Held × Step). after_step line_rules w (walk_from nothing_held) met.0 met.1) (plain_first 1 w nothing_held e)

first_part : (w v : Text) → has_dash v ≡ false → walked line_rules [] (with_word w) v ≡ with_parts w (v ∷ [])
unfolding walked
first_part w v e = ap (λ (met : Held × Step). after_step line_rules v (with_word w) met.0 met.1) (plain_first 2 v (with_word w).held e)

next_part : (w v : Text) (vs : List Text) → has_dash v ≡ false → walked line_rules [] (with_parts w vs) v ≡ with_parts w (vs ++ v ∷ [])
unfolding walked
next_part w v vs e = ap (λ (met : Held × Step). after_step line_rules v (with_parts w vs) met.0 met.1) (plain_later 2 v (with_parts w vs).held e)

not_true : (b : Bool) → not b ≡ true → b ≡ false
not_true true e = cc
not_true false e = refl

no_dash : (w : Text) → is_plain w ≡ true → has_dash w ≡ false
unfolding is_plain
no_dash w e = not_true (has_dash w) (both _ _ e).0

all_parts : (w : Text) (vs ws : List Text) → list_all is_plain ws ≡ true → fold (walked line_rules []) (with_parts w vs) ws ≡ with_parts w (vs ++ ws)
all_parts w vs [] e = ap (with_parts w) (sym (append-nil vs))
all_parts w vs (v ∷ ws) e =
    let plain = both (is_plain v) (list_all is_plain ws) e in
    ap (λ (s : Walk). fold (walked line_rules []) s ws) (next_part w v vs (no_dash v plain.0))
    ∙ all_parts w (vs ++ v ∷ []) ws plain.1 ∙ ap (with_parts w) (append_assoc vs (v ∷ []) ws)

one_word : (w : Text) → is_plain w ≡ true → matches_of words_app (w ∷ []) ≡ finished line_rules (with_word w).held
one_word w e = ap (λ (s : Walk). finished line_rules s.held) (first_word w (no_dash w e))

more_words : (w v : Text) (ws : List Text) → is_plain w ≡ true → list_all is_plain (v ∷ ws) ≡ true
    → matches_of words_app (w ∷ v ∷ ws) ≡ finished line_rules (with_parts w (v ∷ ws)).held
more_words w v ws e es =
    let plain = both (is_plain v) (list_all is_plain ws) es in
    ap (λ (s : Walk). finished line_rules s.held)
    (ap (λ (s : Walk). fold (walked line_rules []) s (v ∷ ws)) (first_word w (no_dash w e))
    ∙ ap (λ (s : Walk). fold (walked line_rules []) s ws) (first_part w v (no_dash v plain.0))
    ∙ all_parts w (v ∷ []) ws plain.1)

abbrev parts_in : Option (List Text) → List Text
parts_in None = []
parts_in (Some vs) = vs

-- what is read names the command
abbrev ReadsTo : List Text → Option Text → List Text → Type 0
ReadsTo words None parts = None ≡ command_of words
ReadsTo words (Some w) parts = named w parts ≡ command_of words

named_by : (w : Text) (ws : List Text) → list_all is_plain (w ∷ ws) ≡ true → named w ws ≡ command_of (w ∷ ws)
unfolding command_of
named_by w ws e = rw e refl

abbrev RowsReadTo : List Text → List Row → Type 0
RowsReadTo words rows = ReadsTo words (first_of (codes "WORD") rows) (parts_in (all_of (codes "PART") rows))

rows_read : (words : List Text) → list_all is_plain words ≡ true → RowsReadTo words (matches_of words_app words)
unfolding command_of
rows_read [] e = refl
rows_read (w ∷ []) e = subst (RowsReadTo (w ∷ [])) (sym (one_word w (both (is_plain w) (list_all is_plain []) e).0)) (named_by w [] e)
rows_read (w ∷ v ∷ ws) e =
    let plain = both (is_plain w) (list_all is_plain (v ∷ ws)) e in
    subst (RowsReadTo (w ∷ v ∷ ws)) (sym (more_words w v ws plain.0 plain.1)) (named_by w (v ∷ ws) e)

found_read : (words : List Text) (f : Found) → list_all is_plain words ≡ true → rows_of f ≡ matches_of words_app words
    → ReadsTo words (first_value f (codes "WORD")) (parts_in (option_map raw_values (matched_of f (codes "PART"))))
found_read words f plain rows =
    let read = subst (RowsReadTo words) (sym rows) (rows_read words plain) in
    subst (λ o. ReadsTo words o (parts_in (option_map raw_values (matched_of f (codes "PART"))))) (sym (first_value-rows f (codes "WORD")))
    (subst (λ o. ReadsTo words (first_of (codes "WORD") (rows_of f)) (parts_in o)) (sym (raw_values-rows f (codes "PART"))) read)

list_all-map : {X Y : Type 0} (p : Y → Bool) (f : X → Y) (xs : List X) → list_all p (map f xs) ≡ list_all (λ x. p (f x)) xs
list_all-map p f [] = refl
list_all-map p f (x ∷ xs) = ap (λ b. p (f x) && b) (list_all-map p f xs)

module _ {X : Type 0} (spell : X → Text) (words : List X) where
  pub no_words : words ≡ [] → None ≡ command_of (map spell words)
  unfolding command_of
  no_words none = rw none refl

  pub not_plain : list_all (λ w. is_plain (spell w)) words ≡ false → None ≡ command_of (map spell words)
  unfolding command_of
  not_plain e = rw (list_all-map is_plain spell words, e) refl

  module _ (f : Found) (plain : list_all (λ w. is_plain (spell w)) words ≡ true) (rows : rows_of f ≡ matches_of words_app (map spell words)) where
    read : ReadsTo (map spell words) (first_value f (codes "WORD")) (parts_in (option_map raw_values (matched_of f (codes "PART"))))
    read = found_read (map spell words) f (list_all-map is_plain spell words ∙ plain) rows

    pub word_missing : None ≡ first_value f (codes "WORD") → None ≡ command_of (map spell words)
    word_missing none = subst (λ o. ReadsTo (map spell words) o (parts_in (option_map raw_values (matched_of f (codes "PART"))))) (sym none) read

    pub word_read : (w : Text) (parts : Option (List Text)) → Some w ≡ first_value f (codes "WORD") → parts ≡ option_map raw_values (matched_of f (codes "PART"))
        → named w (parts_in parts) ≡ command_of (map spell words)
    word_read w parts some told =
        subst (λ o. named w (parts_in o) ≡ command_of (map spell words)) (sym told)
        (subst (λ o. ReadsTo (map spell words) o (parts_in (option_map raw_values (matched_of f (codes "PART"))))) (sym some) read)
