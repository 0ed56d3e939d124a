-- What a comment of a script expects of the line before it.
use Rattle.std.specs.Prelude.{ℕ, ◌==◌, ◌++◌, ◌||◌, Bool, false, true, List, [], ◌∷◌, codes, Option, Some, None, option_map, if◌then◌else◌}
use Rattle.std.specs.Fmt.{signed_decimal}
use Rattle.std.specs.List.{list_any}
use Rattle.std.specs.Str.{bytes_eq, encode_utf8_all}
use Rattle.serde_json.specs.Written.{compact_text}
use Rattle.rg_json.specs.Printing.{option_data, text_data}
use Rattle.rg_facts.specs.declared.decision.Decision.{Decision}
use Rattle.rg_facts.specs.declared.decision.MaskText.{MaskText}
use Rattle.rg_wire.specs.Printing.{decision_text, word_of}
use Rattle.rg_script.specs.Words.{front_word}
use Rattle.rg_test_script.specs.declared.outcome.Outcome.{Outcome}
use Rattle.rg_test_script.specs.declared.outcome.Outcome.TheVariants as outcome

-- ---- the comment

-- such a line begins so
unfoldable pub expecting : List ℕ
expecting = codes "# expect "

-- what follows the beginning, where the text has it
abbrev pub behind : List ℕ → List ℕ → Option (List ℕ)
behind [] text = Some text
behind (b ∷ bs) [] = None
behind (b ∷ bs) (c ∷ cs) = if b == c then behind bs cs else None

-- what is expected by such a line; None of any other one
abbrev pub wanted_by : List ℕ → Option (List ℕ)
wanted_by bytes = behind expecting bytes

-- a form begins with one of these words, or it is a line of JSON
abbrev pub form_words : List (List ℕ)
form_words = codes "ALLOWED" ∷ codes "DENIED" ∷ codes "UNDETERMINED" ∷ codes "filter" ∷ codes "mask" ∷ []

abbrev pub begins_object : List ℕ → Bool
begins_object [] = false
begins_object (b ∷ bs) = b == 123

unfoldable pub is_form : List ℕ → Bool
is_form wanted = list_any (bytes_eq (front_word wanted)) form_words || begins_object wanted

-- ---- what it stands behind

-- the mask's type, or null
abbrev pub mask_type : Option MaskText → List ℕ
mask_type None = codes "null"
mask_type (Some m) = encode_utf8_all m.kind

-- all that can be expected of a decision: the access, the access and the deciding policy, the row filter as the decision line spells it,
-- the mask's type, and the whole decision line
abbrev pub said_of : Decision → List (List ℕ)
said_of d =
    word_of d.access ∷
    (word_of d.access ++ (codes " " ++ signed_decimal d.policy.0)) ∷
    (codes "filter " ++ compact_text (option_data text_data d.filter)) ∷
    (codes "mask " ++ mask_type d.mask) ∷
    decision_text d ∷ []

-- it is so; of a printed line the whole line can be expected
abbrev pub is_met : List ℕ → Outcome → Bool
is_met wanted outcome.Nothing = false
is_met wanted (outcome.Printed text) = bytes_eq text (wanted ++ 10 ∷ [])
is_met wanted (outcome.Decided q d) = list_any (bytes_eq wanted) (said_of d)
