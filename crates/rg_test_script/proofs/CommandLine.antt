-- What `clap` makes of the words that ask for a form.
use Rattle.std.proofs.Common.{◌≡◌, ◌∙◌, ℕ, List, [], ◌∷◌, Bool, true, false, Option, Some, None, is_some, codes, bytes_eq, if◌then◌else◌, refl, ap, sym, subst}
use Rattle.std.proofs.lemmas.Slice.Eq.{bytes_eq-Decides}
use Rattle.clap.proofs.OnLiterals.{clap_on_literals}
use Rattle.clap.proofs.WalkLemmas.{one_text-rows}
use Rattle.clap.specs.Words.{Row, matches_of, one_of, one_text, rows_of}
use Rattle.clap.specs.declared.parser.matches.Found.{Found}
use Rattle.rg_test_script.specs.declared.form.Form.{Form}
use Rattle.rg_test_script.specs.declared.form.Form.TheVariants as form
use Rattle.rg_test_script.specs.CommandLine.{form_of}
use Rattle.rg_test_script.specs.Flags.{form_app}

abbrev form_by : Bool → Form
form_by true = form.Junit
form_by false = form.Words

-- ---- what is found

flag_is_off : one_of (codes "JUNIT") (matches_of form_app []) ≡ Some (codes "false")
unfolding clap_on_literals
flag_is_off = refl

flag_is_on : one_of (codes "JUNIT") (matches_of form_app (codes "--junit" ∷ [])) ≡ Some (codes "true")
unfolding clap_on_literals
flag_is_on = refl

-- ---- the words

form_if : (b : Bool) → is_some (if b then Some form.Junit else None) ≡ true → b ≡ true
form_if true e = refl
form_if false e = cc

module _ (f : Found) (flag : Bool) (on : one_text f (codes "JUNIT") ≡ Some (codes "true") → flag ≡ true)
    (off : one_text f (codes "JUNIT") ≡ Some (codes "false") → flag ≡ false) where
  found_in : (rows : List Row) (text : List ℕ) → rows_of f ≡ rows → one_of (codes "JUNIT") rows ≡ Some text → one_text f (codes "JUNIT") ≡ Some text
  found_in rows text same is = one_text-rows f (codes "JUNIT") ∙ ap (one_of (codes "JUNIT")) same ∙ is

  one_word : (word : List ℕ) → word ≡ codes "--junit" → rows_of f ≡ matches_of form_app (word ∷ []) → flag ≡ true
  one_word word is rows =
      on (found_in (matches_of form_app (codes "--junit" ∷ [])) (codes "true") (rows ∙ ap (λ w. matches_of form_app (w ∷ [])) is) flag_is_on)

  pub flagged : (words : List (List ℕ)) → is_some (form_of words) ≡ true → rows_of f ≡ matches_of form_app words → Some (form_by flag) ≡ form_of words
  flagged [] asked rows = ap (λ b. Some (form_by b)) (off (found_in (matches_of form_app []) (codes "false") rows flag_is_off))
  flagged (word ∷ []) asked rows =
      let same : bytes_eq word (codes "--junit") ≡ true = form_if (bytes_eq word (codes "--junit")) asked in
      ap (λ b. Some (form_by b)) (one_word word ((bytes_eq-Decides word (codes "--junit")).0 same) rows)
      ∙ ap (λ (b : Bool). if b then Some form.Junit else None) (sym same)
  flagged (word ∷ next ∷ words) asked rows = absurd (let no : ⊥ = cc in no)

-- where the flag is as it was read
pub with_flag : (words : List (List ℕ)) (f : Found) (flag : Bool) → is_some (form_of words) ≡ true → rows_of f ≡ matches_of form_app words
    → (one_text f (codes "JUNIT") ≡ Some (codes "true") → flag ≡ true) → (one_text f (codes "JUNIT") ≡ Some (codes "false") → flag ≡ false)
    → flag ≡ true → Some form.Junit ≡ form_of words
with_flag words f flag asked rows on off is = ap (λ b. Some (form_by b)) (sym is) ∙ flagged f flag on off words asked rows

pub without_flag : (words : List (List ℕ)) (f : Found) (flag : Bool) → is_some (form_of words) ≡ true → rows_of f ≡ matches_of form_app words
    → (one_text f (codes "JUNIT") ≡ Some (codes "true") → flag ≡ true) → (one_text f (codes "JUNIT") ≡ Some (codes "false") → flag ≡ false)
    → flag ≡ false → Some form.Words ≡ form_of words
without_flag words f flag asked rows on off is = ap (λ b. Some (form_by b)) (sym is) ∙ flagged f flag on off words asked rows
