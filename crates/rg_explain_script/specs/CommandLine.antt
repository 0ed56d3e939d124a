-- The command line as `clap` reads it. Only proofs need it.
use Rattle.std.specs.Prelude.{ℕ, ◌&&◌, List, Bool, codes, true, Some, if◌then◌else◌}
use Rattle.std.specs.List.{list_all}
use Rattle.clap.specs.Words.{App, Rule, new_app, new_rule, with_rule}
use Rattle.clap.specs.Simple.{on_top}
use Rattle.clap.specs.declared.builder.action.ArgAction.TheVariants.{Set, SetTrue}
use Rattle.rg_explain_script.specs.Words.{at_most_one, is_all, is_json, is_known, is_number}

abbrev pub json_rule : Rule
json_rule = record (new_rule (codes "json")) { long = Some (codes "json"); action = Some SetTrue }

abbrev pub all_rule : Rule
all_rule = record (new_rule (codes "all")) { long = Some (codes "all"); action = Some SetTrue }

-- the one decision that is wanted
abbrev pub number_rule : Rule
number_rule = record (new_rule (codes "N")) { action = Some Set }

-- a command without a flag for help, over words that begin with the first argument
abbrev pub bare_app : App
bare_app = on_top (λ s. record s { no_binary_name = true; disable_help_flag = true }) (new_app (codes "rangerd-explain"))

-- the same with the three
abbrev pub words_app : App
words_app = with_rule (with_rule (with_rule bare_app json_rule) all_rule) number_rule

-- the text of a flag
abbrev pub flag_text : Bool → List ℕ
flag_text is = if is then codes "true" else codes "false"

-- words fit, told of those that spell them
abbrev pub are_spelled : {X : Type 0} → (X → List ℕ) → List X → Bool
are_spelled spell xs =
    list_all (λ x. is_known (spell x)) xs && (at_most_one (λ x. is_json (spell x)) xs
    && (at_most_one (λ x. is_all (spell x)) xs && at_most_one (λ x. is_number (spell x)) xs))
