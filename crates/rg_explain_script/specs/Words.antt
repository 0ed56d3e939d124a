-- What the words of the command line ask for: `[--json] [--all] [N]`, in any order.
use Rattle.std.specs.Prelude.{ℕ, ◌-◌, ◌^◌, ◌==◌, ◌&&◌, ◌||◌, not, nat_le, nat_lt, Bool, false, List, [], ◌∷◌, length, codes, Option, Some, None, is_some, option_and_then, find, if◌then◌else◌}
use Rattle.std.specs.Char.{is_ascii_digit}
use Rattle.std.specs.List.{filter, list_all, list_any}
use Rattle.std.specs.Str.{bytes_eq}
use Rattle.std.specs.Str.Parse.{digits_value}
use Rattle.rg_explain_script.specs.declared.options.Form.TheVariants as form
use Rattle.rg_explain_script.specs.declared.options.Options.{Options}
use Rattle.rg_explain_script.specs.declared.options.Wanted.{Wanted}
use Rattle.rg_explain_script.specs.declared.options.Wanted.TheVariants as wanted

unfoldable pub is_json : List ℕ → Bool
is_json word = bytes_eq word (codes "--json")

unfoldable pub is_all : List ℕ → Bool
is_all word = bytes_eq word (codes "--all")

-- decimal digits, the first of them not 0, write a number, which is at most the last `u32`
abbrev pub is_numeral : List ℕ → Bool
is_numeral [] = false
is_numeral (c ∷ cs) = not (c == 48) && list_all is_ascii_digit (c ∷ cs)

unfoldable pub number_of : List ℕ → Option ℕ
number_of word = if is_numeral word && nat_lt (digits_value 10 word) (2 ^ 32) then Some (digits_value 10 word) else None

unfoldable pub is_number : List ℕ → Bool
is_number word = is_some (number_of word)

-- ---- all words

abbrev pub is_known : List ℕ → Bool
is_known word = is_json word || (is_all word || is_number word)

abbrev pub at_most_one : {X : Type 0} → (X → Bool) → List X → Bool
at_most_one is xs = nat_le (length (filter is xs)) 1

-- each is a flag or a number, and none of the three is there twice
unfoldable pub are_fitting : List (List ℕ) → Bool
are_fitting words = list_all is_known words && (at_most_one is_json words && (at_most_one is_all words && at_most_one is_number words))

-- N is the decision after N - 1 others
abbrev pub wanted_by : Option ℕ → Wanted
wanted_by None = wanted.Every
wanted_by (Some n) = wanted.After (n - 1)

abbrev pub options_by : Bool → Bool → Option ℕ → Options
options_by json all number = record { style = record { form = if json then form.Json else form.Words; all = all }; wanted = wanted_by number }

abbrev pub options_in : List (List ℕ) → Options
options_in words = options_by (list_any is_json words) (list_any is_all words) (option_and_then number_of (find is_number words))

-- what the words ask for; None where they ask for nothing
unfoldable pub options_of : List (List ℕ) → Option Options
options_of words = if are_fitting words then Some (options_in words) else None
