-- What `clap` makes of words that fit.
use Rattle.std.proofs.Common.{◌≡◌, ◌∙◌, ◌+◌, ◌^◌, ◌≤◌, ◌==◌, ◌||◌, ◌&&◌, ◌++◌, ◌⊎◌, inl, inr, suc, ℕ, List, [], ◌∷◌, Bool, true, false, not, cond, length, nat_le, nat_lt, Option, Some, None, Result, Ok, Err, OnErr, is_some, codes, option_map, refl, ap, sym, subst, arith, append-nil, map, fold}
use Rattle.std.specs.Prelude.{find, if◌then◌else◌, option_and_then}
use Rattle.std.specs.Char.{is_ascii_digit}
use Rattle.std.specs.List.{filter, list_all, list_any}
use Rattle.std.specs.Option.{option_or}
use Rattle.std.specs.Str.{bytes_eq}
use Rattle.std.specs.Str.Parse.{digits_value}
use Rattle.std.proofs.lemmas.Bool.Decides.{nat_tests}
use Rattle.std.proofs.lemmas.Slice.Eq.{bytes_eq-Decides}
use Rattle.clap.specs.Matches.{first_value, one_text}
use Rattle.clap.specs.Simple.{built, filled, matches_of, with_index}
use Rattle.clap.specs.Walk.{Row, Rule, Text, Walk, at_row, finished, first_of, has_row, idle, more_values, one_of, reading_by, row_text, rows_of, settled_rows, walked, with_default, with_values, without}
use Rattle.clap.specs.declared.builder.value_parser.Reading.{Reading}
use Rattle.clap.specs.declared.builder.value_parser.Reading.TheVariants.{AsWritten}
use Rattle.clap.specs.declared.parser.matches.Found.{Found}
use Rattle.clap.specs.declared.parser.matches.ValueSource.{ValueSource}
use Rattle.clap.specs.declared.parser.matches.ValueSource.TheVariants.{CommandLine, DefaultValue}
use Rattle.clap.proofs.WalkLemmas.{both, first_value-rows, one_text-rows}
use Rattle.rg_explain_script.specs.CommandLine.{are_spelled, flag_text, json_rule, words_app}
use Rattle.rg_explain_script.specs.Words.{are_fitting, is_all, is_json, is_known, is_number, is_numeral, number_of, options_by, options_of}

abbrev line_rules : List Rule
line_rules = (built words_app).top.rules

-- ---- rows

abbrev has : Text → Row → Bool
has id row = bytes_eq row.id id

abbrev row_of : Text → ValueSource → Text → Row
row_of id source value = record { id = id; values = value ∷ []; count = None; source = Some source; reading = AsWritten }

-- a flag that is there, and the number
abbrev flag_row : Text → Row
flag_row id = row_of id CommandLine (codes "true")

abbrev number_row : Text → Row
number_row word = row_of (codes "N") CommandLine word

own : (id : Text) → bytes_eq id id ≡ true
own id = (bytes_eq-Decides id id).1 refl

not_none : {X : Type 0} {A : Type 0} (x : X) → Some x ≡ None → A
not_none x e = absurd (let never : ⊥ = cc in never)

at_none : (id : Text) (change : Row → List Row) (missing rows : List Row) → find (has id) rows ≡ None → at_row id change missing rows ≡ rows ++ missing
at_none id change missing [] none = refl
at_none id change missing (r ∷ rows) none = by_test (at_none id change missing rows) (bytes_eq r.id id) refl where
  by_test : (find (has id) rows ≡ None → at_row id change missing rows ≡ rows ++ missing) → (b : Bool) → bytes_eq r.id id ≡ b → at_row id change missing (r ∷ rows) ≡ (r ∷ rows) ++ missing
  by_test more true e = not_none r (subst (λ b. cond b (Some r) (find (has id) rows) ≡ None) e none)
  by_test more false e = rw e (ap (λ rs. r ∷ rs) (more (subst (λ b. cond b (Some r) (find (has id) rows) ≡ None) e none)))

-- a use of an argument that wasn't used stands behind the rows
with_new : (id : Text) (source : ValueSource) (value : Text) (rows : List Row) → find (has id) rows ≡ None
    → with_values id AsWritten source (value ∷ []) rows ≡ rows ++ row_of id source value ∷ []
with_new id source value rows none = at_none id (more_values source (value ∷ [])) (row_of id source value ∷ []) rows none

with_used : (id : Text) (value : Text) (rows : List Row) → find (has id) rows ≡ None
    → with_values id AsWritten CommandLine (value ∷ []) (without id rows) ≡ rows ++ row_of id CommandLine value ∷ []
with_used id value rows none =
    ap (with_values id AsWritten CommandLine (value ∷ [])) (at_none id (λ r. []) [] rows none ∙ append-nil rows) ∙ with_new id CommandLine value rows none

found_other : (p : Row → Bool) (rows : List Row) (r : Row) → p r ≡ false → find p (rows ++ r ∷ []) ≡ find p rows
found_other p [] r other = rw other refl
found_other p (x ∷ rows) r other = ap (λ o. cond (p x) (Some x) o) (found_other p rows r other)

found_new : (p : Row → Bool) (rows : List Row) (r : Row) → find p rows ≡ None → p r ≡ true → find p (rows ++ r ∷ []) ≡ Some r
found_new p [] r none here = rw here refl
found_new p (x ∷ rows) r none here = by_test (λ e. found_new p rows r e here) (p x) refl where
  by_test : (find p rows ≡ None → find p (rows ++ r ∷ []) ≡ Some r) → (b : Bool) → p x ≡ b → find p ((x ∷ rows) ++ r ∷ []) ≡ Some r
  by_test more true e = not_none x (subst (λ b. cond b (Some x) (find p rows) ≡ None) e none)
  by_test more false e = rw e (more (subst (λ b. cond b (Some x) (find p rows) ≡ None) e none))

any_found : (p : Row → Bool) (rows : List Row) → list_any p rows ≡ is_some (find p rows)
any_found p [] = refl
any_found p (x ∷ rows) = by_test (any_found p rows) (p x) refl where
  by_test : list_any p rows ≡ is_some (find p rows) → (b : Bool) → p x ≡ b → list_any p (x ∷ rows) ≡ is_some (find p (x ∷ rows))
  by_test more true e = rw e refl
  by_test more false e = rw e more

-- ---- defaults

-- the rows with the default of a flag
abbrev defaulted : Text → List Row → List Row
defaulted id rows = if has_row id rows then rows else with_values id AsWritten DefaultValue (codes "false" ∷ []) rows

abbrev flag_of : Text → List Row → Option Text
flag_of id rows = option_and_then row_text (find (has id) rows)

stays : (id : Text) (rows : List Row) (r : Row) → find (has id) rows ≡ Some r → defaulted id rows ≡ rows
stays id rows r there = rw (any_found (has id) rows ∙ ap is_some there) refl

comes : (id : Text) (rows : List Row) → find (has id) rows ≡ None → defaulted id rows ≡ rows ++ row_of id DefaultValue (codes "false") ∷ []
comes id rows none = rw (any_found (has id) rows ∙ ap is_some none) (with_new id DefaultValue (codes "false") rows none)

flag_told : (id : Text) (is : Bool) (rows : List Row) → find (has id) rows ≡ cond is (Some (flag_row id)) None → flag_of id (defaulted id rows) ≡ Some (flag_text is)
flag_told id true rows seen = ap (flag_of id) (stays id rows (flag_row id) seen) ∙ ap (option_and_then row_text) seen
flag_told id false rows seen = ap (flag_of id) (comes id rows seen) ∙ ap (option_and_then row_text) (found_new (has id) rows (row_of id DefaultValue (codes "false")) seen (own id))

-- all other rows stay
others_stay : (id : Text) (is : Bool) (rows : List Row) (p : Row → Bool) → find (has id) rows ≡ cond is (Some (flag_row id)) None
    → p (row_of id DefaultValue (codes "false")) ≡ false → find p (defaulted id rows) ≡ find p rows
others_stay id true rows p seen other = ap (find p) (stays id rows (flag_row id) seen)
others_stay id false rows p seen other = ap (find p) (comes id rows seen) ∙ found_other p rows (row_of id DefaultValue (codes "false")) other

same_if : (b : Bool) (rows : List Row) → (if b then rows else rows) ≡ rows
same_if true rows = refl
same_if false rows = refl

-- ---- what the rows tell

-- before defaults: the flags that are there, and the number
record Seen (j a : Bool) (n : Option Text) (rows : List Row) : Type 0 where
  json : find (has (codes "json")) rows ≡ cond j (Some (flag_row (codes "json"))) None
  all : find (has (codes "all")) rows ≡ cond a (Some (flag_row (codes "all"))) None
  number : find (has (codes "N")) rows ≡ option_map number_row n

-- after them, as the getters read
record Told (j a : Bool) (n : Option Text) (rows : List Row) : Type 0 where
  json : one_of (codes "json") rows ≡ Some (flag_text j)
  all : one_of (codes "all") rows ≡ Some (flag_text a)
  number : first_of (codes "N") rows ≡ n

told_as : (rows : List Row) (json json' all all' : Bool) (number number' : Option Text) → json ≡ json' → all ≡ all' → number ≡ number' → Told json all number rows → Told json' all' number' rows
told_as rows json json' all all' number number' same same' same'' told =
    subst (λ n. Told json' all' n rows) same'' (subst (λ b. Told json' b number rows) same' (subst (λ b. Told b all number rows) same told))

module _ (json all : Bool) (number : Option Text) (rows : List Row) (seen : Seen json all number rows) where
  abbrev once : List Row
  once = defaulted (codes "json") rows

  abbrev twice : List Row
  twice = defaulted (codes "all") once

  all_once : find (has (codes "all")) once ≡ cond all (Some (flag_row (codes "all"))) None
  all_once = others_stay (codes "json") json rows (has (codes "all")) seen.json refl ∙ seen.all

  json_twice : flag_of (codes "json") twice ≡ Some (flag_text json)
  json_twice = ap (option_and_then row_text) (others_stay (codes "all") all once (has (codes "json")) all_once refl) ∙ flag_told (codes "json") json rows seen.json

  number_twice : find (has (codes "N")) twice ≡ option_map number_row number
  number_twice = others_stay (codes "all") all once (has (codes "N")) all_once refl ∙ others_stay (codes "json") json rows (has (codes "N")) seen.json refl ∙ seen.number

  first_number : (n : Option Text) → find (has (codes "N")) twice ≡ option_map number_row n → first_of (codes "N") twice ≡ n
  first_number None is = rw is refl
  first_number (Some word) is = rw is refl

  all_told : Told json all number twice
  all_told = record { json = json_twice; all = flag_told (codes "all") all once all_once; number = first_number number number_twice }

  finishes : Told json all number (fold with_default rows line_rules)
  finishes = subst (Told json all number) (sym (same_if (has_row (codes "N") twice) twice)) all_told

-- ---- the walk

abbrev walk_at : List Row → Option (Text × List Text) → ℕ → Walk
walk_at rows pending position = record {
  held = record { rows = rows; pending = pending; skip = 0 };
  waiting = idle;
  position = position;
  is_trailing = false;
  stopped = None;
}

-- a flag settles what is pending
abbrev flagged : Text → Option (Text × List Text) → List Row → List Row
flagged id pending rows = with_values id AsWritten CommandLine (codes "true" ∷ []) (without id (settled_rows line_rules pending rows))

json_met : (rows : List Row) (pending : Option (Text × List Text)) (k : ℕ) → walked line_rules [] (walk_at rows pending k) (codes "--json") ≡ walk_at (flagged (codes "json") pending rows) None k
unfolding walked
json_met rows pending k = refl

all_met : (rows : List Row) (pending : Option (Text × List Text)) (k : ℕ) → walked line_rules [] (walk_at rows pending k) (codes "--all") ≡ walk_at (flagged (codes "all") pending rows) None k
unfolding walked
all_met rows pending k = refl

abbrev has_dash : Text → Bool
has_dash [] = false
has_dash (b ∷ bs) = b == 45

-- the number waits until the next word, or the end
number_met : (rows : List Row) (w : Text) → has_dash w ≡ false → walked line_rules [] (walk_at rows None 1) w ≡ walk_at rows (Some (codes "N", w ∷ [])) 2
unfolding walked
number_met rows [] e = refl
number_met rows (x ∷ xs) e = rw (e, e) refl

-- ---- words

json_word : (w : Text) → is_json w ≡ true → w ≡ codes "--json"
unfolding is_json
json_word w e = (bytes_eq-Decides w (codes "--json")).0 e

all_word : (w : Text) → is_all w ≡ true → w ≡ codes "--all"
unfolding is_all
all_word w e = (bytes_eq-Decides w (codes "--all")).0 e

json_no_all : is_all (codes "--json") ≡ false
unfolding is_all
json_no_all = refl

json_no_number : is_number (codes "--json") ≡ false
unfolding is_number number_of
json_no_number = refl

all_no_number : is_number (codes "--all") ≡ false
unfolding is_number number_of
all_no_number = refl

tested : (b : Bool) (n : ℕ) → is_some (if b then Some n else None) ≡ true → b ≡ true
tested true n e = refl
tested false n e = cc

no_dash : (w : Text) → is_number w ≡ true → has_dash w ≡ false
unfolding is_number number_of
no_dash [] e = refl
no_dash (c ∷ cs) e =
    let numeral = both (is_numeral (c ∷ cs)) (nat_lt (digits_value 10 (c ∷ cs)) (2 ^ 32)) (tested (is_numeral (c ∷ cs) && nat_lt (digits_value 10 (c ∷ cs)) (2 ^ 32)) (digits_value 10 (c ∷ cs)) e) in
    let digits = both (not (c == 48)) (list_all is_ascii_digit (c ∷ cs)) numeral.0 in
    let digit = both (nat_le 48 c) (nat_le c 57) (both (is_ascii_digit c) (list_all is_ascii_digit cs) digits.1).0 in
    grind (arith, nat_tests, digit.0)

abbrev bit : Bool → ℕ
bit b = cond b 1 0

-- the words fit behind those that were read
record Fits (j a : Bool) (n : Option Text) (words : List Text) : Type 0 where
  known : list_all is_known words ≡ true
  json : bit j + length (filter is_json words) ≤ 1
  all : bit a + length (filter is_all words) ≤ 1
  number : bit (is_some n) + length (filter is_number words) ≤ 1

one_more : (test : Text → Bool) (w : Text) (ws : List Text) → test w ≡ true → length (filter test (w ∷ ws)) ≡ suc (length (filter test ws))
one_more test w ws is = rw is refl

no_more : (test : Text → Bool) (w : Text) (ws : List Text) → test w ≡ false → length (filter test (w ∷ ws)) ≡ length (filter test ws)
no_more test w ws is = rw is refl

-- a word of a kind is the first of its kind
is_first : (b : Bool) (n m : ℕ) → n ≡ suc m → bit b + n ≤ 1 → (b ≡ false) × (m ≡ 0)
is_first true n m more fits = absurd (let some : 1 + n ≤ 1 = fits in omega (arith, some, more))
is_first false n m more fits = (refl, let some : 0 + n ≤ 1 = fits in omega (arith, some, more))

stays_few : (b : Bool) (n m : ℕ) → n ≡ m → bit b + n ≤ 1 → bit b + m ≤ 1
stays_few b n m same fits = subst (λ k. bit b + k ≤ 1) same fits

-- ---- all words

-- before a number nothing is pending
abbrev At : Option (Text × List Text) → ℕ → Option Text → Type 0
At pending k number = ((number ≡ None) × (pending ≡ None) × (k ≡ 1)) ⊎ (is_some number ≡ true)

abbrev Reads : List Text → Type 0
Reads words = (rows : List Row) (pending : Option (Text × List Text)) (k : ℕ) (json all : Bool) (number : Option Text)
    → At pending k number → Seen json all number (settled_rows line_rules pending rows) → Fits json all number words
    → Told (json || list_any is_json words) (all || list_any is_all words) (option_or number (find is_number words))
    (finished line_rules (fold (walked line_rules []) (walk_at rows pending k) words).held)

flag_settles : (pending : Option (Text × List Text)) (k : ℕ) (number : Option Text) → At pending k number → At None k number
flag_settles pending k number (inl (none, before, first)) = inl (none, refl, first)
flag_settles pending k number (inr some) = inr some

json_seen : (all : Bool) (number : Option Text) (rows : List Row) → Seen false all number rows
    → Seen true all number (with_values (codes "json") AsWritten CommandLine (codes "true" ∷ []) (without (codes "json") rows))
json_seen all number rows seen = subst (Seen true all number) (sym (with_used (codes "json") (codes "true") rows seen.json)) (record {
  json = found_new (has (codes "json")) rows (flag_row (codes "json")) seen.json refl;
  all = found_other (has (codes "all")) rows (flag_row (codes "json")) refl ∙ seen.all;
  number = found_other (has (codes "N")) rows (flag_row (codes "json")) refl ∙ seen.number;
})

all_seen : (json : Bool) (number : Option Text) (rows : List Row) → Seen json false number rows
    → Seen json true number (with_values (codes "all") AsWritten CommandLine (codes "true" ∷ []) (without (codes "all") rows))
all_seen json number rows seen = subst (Seen json true number) (sym (with_used (codes "all") (codes "true") rows seen.all)) (record {
  json = found_other (has (codes "json")) rows (flag_row (codes "all")) refl ∙ seen.json;
  all = found_new (has (codes "all")) rows (flag_row (codes "all")) seen.all refl;
  number = found_other (has (codes "N")) rows (flag_row (codes "all")) refl ∙ seen.number;
})

number_seen : (json all : Bool) (w : Text) (rows : List Row) → Seen json all None rows → Seen json all (Some w) (settled_rows line_rules (Some (codes "N", w ∷ [])) rows)
number_seen json all w rows seen = subst (Seen json all (Some w)) (sym (with_used (codes "N") w rows seen.number)) (record {
  json = found_other (has (codes "json")) rows (number_row w) refl ∙ seen.json;
  all = found_other (has (codes "all")) rows (number_row w) refl ∙ seen.all;
  number = found_new (has (codes "N")) rows (number_row w) seen.number refl;
})

or_false : (b : Bool) → b ≡ (b || false)
or_false true = refl
or_false false = refl

or_none : (o : Option Text) → o ≡ option_or o None
or_none None = refl
or_none (Some w) = refl

or_none_first : (number : Option Text) (o : Option Text) → number ≡ None → o ≡ option_or number o
or_none_first number o none = ap (λ n. option_or n o) (sym none)

module _ (w : Text) (ws : List Text) (rest : Reads ws) where
  abbrev Ends : Walk → Bool → Bool → Option Text → Type 0
  Ends walk json all number = Told json all number (finished line_rules (fold (walked line_rules []) walk ws).held)

  read_json : is_json w ≡ true → Reads (w ∷ ws)
  read_json is rows pending k json all number at seen fits =
      let word = json_word w is in
      let no_all : is_all w ≡ false = ap is_all word ∙ json_no_all in
      let no_number : is_number w ≡ false = ap is_number word ∙ json_no_number in
      let first = is_first json (length (filter is_json (w ∷ ws))) (length (filter is_json ws)) (one_more is_json w ws is) fits.json in
      let left : Fits true all number ws = record {
        known = (both (is_known w) (list_all is_known ws) fits.known).1;
        json = subst (λ n. 1 + n ≤ 1) (sym first.1) (omega arith);
        all = stays_few all (length (filter is_all (w ∷ ws))) (length (filter is_all ws)) (no_more is_all w ws no_all) fits.all;
        number = stays_few (is_some number) (length (filter is_number (w ∷ ws))) (length (filter is_number ws)) (no_more is_number w ws no_number) fits.number;
      } in
      let begins : Seen false all number (settled_rows line_rules pending rows) = subst (λ b. Seen b all number (settled_rows line_rules pending rows)) first.0 seen in
      let told = rest (flagged (codes "json") pending rows) None k true all number (flag_settles pending k number at) (json_seen all number (settled_rows line_rules pending rows) begins) left in
      subst (λ s. Ends s (json || list_any is_json (w ∷ ws)) (all || list_any is_all (w ∷ ws)) (option_or number (find is_number (w ∷ ws))))
      (sym (ap (walked line_rules [] (walk_at rows pending k)) word ∙ json_met rows pending k))
      (told_as _ _ _ _ _ _ _
      (ap (λ b. false || (b || list_any is_json ws)) (sym is) ∙ ap (λ b. b || list_any is_json (w ∷ ws)) (sym first.0))
      (ap (λ b. all || (b || list_any is_all ws)) (sym no_all))
      (ap (λ b. option_or number (cond b (Some w) (find is_number ws))) (sym no_number))
      told)

  read_all : is_json w ≡ false → is_all w ≡ true → Reads (w ∷ ws)
  read_all no_json is rows pending k json all number at seen fits =
      let word = all_word w is in
      let no_number : is_number w ≡ false = ap is_number word ∙ all_no_number in
      let first = is_first all (length (filter is_all (w ∷ ws))) (length (filter is_all ws)) (one_more is_all w ws is) fits.all in
      let left : Fits json true number ws = record {
        known = (both (is_known w) (list_all is_known ws) fits.known).1;
        json = stays_few json (length (filter is_json (w ∷ ws))) (length (filter is_json ws)) (no_more is_json w ws no_json) fits.json;
        all = subst (λ n. 1 + n ≤ 1) (sym first.1) (omega arith);
        number = stays_few (is_some number) (length (filter is_number (w ∷ ws))) (length (filter is_number ws)) (no_more is_number w ws no_number) fits.number;
      } in
      let begins : Seen json false number (settled_rows line_rules pending rows) = subst (λ b. Seen json b number (settled_rows line_rules pending rows)) first.0 seen in
      let told = rest (flagged (codes "all") pending rows) None k json true number (flag_settles pending k number at) (all_seen json number (settled_rows line_rules pending rows) begins) left in
      subst (λ s. Ends s (json || list_any is_json (w ∷ ws)) (all || list_any is_all (w ∷ ws)) (option_or number (find is_number (w ∷ ws))))
      (sym (ap (walked line_rules [] (walk_at rows pending k)) word ∙ all_met rows pending k))
      (told_as _ _ _ _ _ _ _
      (ap (λ b. json || (b || list_any is_json ws)) (sym no_json))
      (ap (λ b. false || (b || list_any is_all ws)) (sym is) ∙ ap (λ b. b || list_any is_all (w ∷ ws)) (sym first.0))
      (ap (λ b. option_or number (cond b (Some w) (find is_number ws))) (sym no_number))
      told)

  no_number_yet : (number : Option Text) → is_some number ≡ false → number ≡ None
  no_number_yet None e = refl
  no_number_yet (Some n) e = cc

  nothing_waits : (pending : Option (Text × List Text)) (k : ℕ) (number : Option Text) → is_some number ≡ false → At pending k number → (pending ≡ None) × (k ≡ 1)
  nothing_waits pending k number none (inl at) = (at.1, at.2)
  nothing_waits pending k number none (inr some) = cc

  read_number : is_json w ≡ false → is_all w ≡ false → is_number w ≡ true → Reads (w ∷ ws)
  read_number no_json no_all is rows pending k json all number at seen fits =
      let first = is_first (is_some number) (length (filter is_number (w ∷ ws))) (length (filter is_number ws)) (one_more is_number w ws is) fits.number in
      let none = no_number_yet number first.0 in
      let idle_there = nothing_waits pending k number first.0 at in
      let left : Fits json all (Some w) ws = record {
        known = (both (is_known w) (list_all is_known ws) fits.known).1;
        json = stays_few json (length (filter is_json (w ∷ ws))) (length (filter is_json ws)) (no_more is_json w ws no_json) fits.json;
        all = stays_few all (length (filter is_all (w ∷ ws))) (length (filter is_all ws)) (no_more is_all w ws no_all) fits.all;
        number = subst (λ n. 1 + n ≤ 1) (sym first.1) (omega arith);
      } in
      let begins : Seen json all None rows =
      subst (λ n. Seen json all n rows) none (subst (λ p. Seen json all number (settled_rows line_rules p rows)) idle_there.0 seen) in
      let told = rest rows (Some (codes "N", w ∷ [])) 2 json all (Some w) (inr refl) (number_seen json all w rows begins) left in
      subst (λ s. Ends s (json || list_any is_json (w ∷ ws)) (all || list_any is_all (w ∷ ws)) (option_or number (find is_number (w ∷ ws))))
      (sym (ap (λ p. walked line_rules [] (walk_at rows p k) w) idle_there.0 ∙ ap (λ j. walked line_rules [] (walk_at rows None j) w) idle_there.1 ∙ number_met rows w (no_dash w is)))
      (told_as _ _ _ _ _ _ _
      (ap (λ b. json || (b || list_any is_json ws)) (sym no_json))
      (ap (λ b. all || (b || list_any is_all ws)) (sym no_all))
      (ap (λ b. cond b (Some w) (find is_number ws)) (sym is) ∙ or_none_first number (find is_number (w ∷ ws)) none)
      told)

  -- a word that is known is one of the three
  read_next : is_known w ≡ true → Reads (w ∷ ws)
  read_next known = by_test (is_json w) (is_all w) refl refl where
    by_test : (b c : Bool) → is_json w ≡ b → is_all w ≡ c → Reads (w ∷ ws)
    by_test true c is is' = read_json is
    by_test false true is is' = read_all is is'
    by_test false false is is' = read_number is is' (subst (λ c. (c || is_number w) ≡ true) is' (subst (λ b. (b || (is_all w || is_number w)) ≡ true) is known))

read_each : (words : List Text) → Reads words
read_each [] rows pending k json all number at seen fits =
    told_as _ _ _ _ _ _ _ (or_false json) (or_false all) (or_none number) (finishes json all number (settled_rows line_rules pending rows) seen)
read_each (w ∷ ws) rows pending k json all number at seen fits =
    read_next w ws (read_each ws) (both (is_known w) (list_all is_known ws) fits.known).0 rows pending k json all number at seen fits

few : (n : ℕ) → nat_le n 1 ≡ true → 0 + n ≤ 1
few n e = grind (arith, nat_tests, e)

words_read : (words : List Text) → are_fitting words ≡ true → Told (list_any is_json words) (list_any is_all words) (find is_number words) (matches_of words_app words)
unfolding are_fitting
words_read words fit =
    let known = both (list_all is_known words) _ fit in
    let json = both (nat_le (length (filter is_json words)) 1) _ known.1 in
    let rest = both (nat_le (length (filter is_all words)) 1) (nat_le (length (filter is_number words)) 1) json.1 in
    read_each words [] None 1 false false None (inl (refl, refl, refl)) (record { json = refl; all = refl; number = refl }) (record {
      known = known.0;
      json = few (length (filter is_json words)) json.0;
      all = few (length (filter is_all words)) rest.0;
      number = few (length (filter is_number words)) rest.1;
    })

-- ---- words that are spelled

list_all-map : {X Y : Type 0} (p : Y → Bool) (f : X → Y) (xs : List X) → list_all p (map f xs) ≡ list_all (λ x. p (f x)) xs
list_all-map p f [] = refl
list_all-map p f (x ∷ xs) = ap (λ b. p (f x) && b) (list_all-map p f xs)

filter-map : {X Y : Type 0} (p : Y → Bool) (f : X → Y) (xs : List X) → length (filter p (map f xs)) ≡ length (filter (λ x. p (f x)) xs)
filter-map p f [] = refl
filter-map p f (x ∷ xs) = by_test (filter-map p f xs) (p (f x)) refl where
  by_test : length (filter p (map f xs)) ≡ length (filter (λ y. p (f y)) xs) → (b : Bool) → p (f x) ≡ b → length (filter p (map f (x ∷ xs))) ≡ length (filter (λ y. p (f y)) (x ∷ xs))
  by_test more true e = rw e (ap suc more)
  by_test more false e = rw e more

-- what a flag's getter says of its text
pub flag_read : (is : Bool) (o : Option Text) (read : Bool) → (o ≡ Some (codes "true") → read ≡ true) → (o ≡ Some (codes "false") → read ≡ false)
    → o ≡ Some (flag_text is) → read ≡ is
flag_read true o read there missing told = there told
flag_read false o read there missing told = missing told

same_options : (json json' all all' : Bool) (number number' : Option ℕ) → json ≡ json' → all ≡ all' → number ≡ number' → Some (options_by json all number) ≡ Some (options_by json' all' number')
same_options json json' all all' number number' same same' same'' =
    ap (λ b. Some (options_by b all number)) same ∙ ap (λ b. Some (options_by json' b number)) same' ∙ ap (λ n. Some (options_by json' all' n)) same''

-- what holds whatever the result is
pub at_error : {A E : Type 0} (result : Result A E) (P : Type 0) → P → OnErr result P
at_error (Ok x) P p = tt
at_error (Err e) P p = p

module _ {X : Type 0} (spell : X → Text) (words : List X) where
  spelled : are_spelled spell words ≡ are_fitting (map spell words)
  unfolding are_fitting
  spelled = rw (list_all-map is_known spell words, filter-map is_json spell words, filter-map is_all spell words, filter-map is_number spell words) refl

  pub not_asking : are_spelled spell words ≡ false → None ≡ options_of (map spell words)
  unfolding options_of
  not_asking e = rw (sym spelled ∙ e) refl

  pub asking : are_spelled spell words ≡ true → is_some (options_of (map spell words)) ≡ true
  unfolding options_of
  asking e = rw (sym spelled ∙ e) refl

  pub asked : (f : Found) (json all : Bool) (number : Option ℕ) → are_spelled spell words ≡ true → rows_of f ≡ matches_of words_app (map spell words)
      → ((is : Bool) → one_text f (codes "json") ≡ Some (flag_text is) → json ≡ is)
      → ((is : Bool) → one_text f (codes "all") ≡ Some (flag_text is) → all ≡ is)
      → number ≡ option_and_then number_of (first_value f (codes "N"))
      → Some (options_by json all number) ≡ options_of (map spell words)
  unfolding options_of
  asked f json all number e rows read_json read_all read_number =
      let fit = sym spelled ∙ e in
      let told = words_read (map spell words) fit in
      let json_is = read_json (list_any is_json (map spell words)) (one_text-rows f (codes "json") ∙ ap (one_of (codes "json")) rows ∙ told.json) in
      let all_is = read_all (list_any is_all (map spell words)) (one_text-rows f (codes "all") ∙ ap (one_of (codes "all")) rows ∙ told.all) in
      let number_is = read_number ∙ ap (option_and_then number_of) (first_value-rows f (codes "N") ∙ ap (first_of (codes "N")) rows ∙ told.number) in
      rw fit (same_options _ _ _ _ _ _ json_is all_is number_is)
