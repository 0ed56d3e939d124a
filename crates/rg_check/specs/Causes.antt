-- Causes in words.
use Rattle.std.specs.Prelude.{ℕ, ◌==◌, List, [], ◌∷◌, ◌++◌, codes, decimal, flat_map, Option, Some, None, if◌then◌else◌}
use Rattle.std.specs.Fmt.{signed_decimal}
use Rattle.std.specs.Str.{encode_utf8_all}
use Rattle.json.specs.Print.{escape}
use Rattle.rg_base.specs.Texts.{is_empty}
use Rattle.rg_cmd.specs.RuleNames.{rule_name}
use Rattle.rg_cmd.specs.declared.rule.Rule.{Rule}
use Rattle.rg_cmd.specs.declared.rule.Rule.TheVariants as rule
use Rattle.rg_json.specs.declared.fault.WireKind.{WireKind}
use Rattle.rg_json.specs.declared.fault.WireKind.TheVariants as wire
use Rattle.rg_roles.specs.declared.fault.RoleFault.{RoleFault}
use Rattle.rg_roles.specs.declared.fault.RoleFault.TheVariants as role
use Rattle.rg_script.specs.declared.cause.Cause.{Cause}
use Rattle.rg_script.specs.declared.cause.Cause.TheVariants as cause
use Rattle.rg_script.specs.declared.cause.Place.{Place}
use Rattle.rg_script.specs.declared.cause.Place.TheVariants as place
use Rattle.rg_facts_check.specs.declared.unsound.Unsound.{Unsound}
use Rattle.rg_facts_check.specs.declared.unsound.Unsound.TheVariants as unsound
use Rattle.rg_validate.specs.Definitions.{definition_rule}
use Rattle.rg_check.specs.declared.command.Command.{Command}
use Rattle.rg_check.specs.declared.command.Command.TheVariants as command
use Rattle.rg_check.specs.declared.kind.LineKind.{LineKind}
use Rattle.rg_check.specs.declared.kind.LineKind.TheVariants as kind
use Rattle.rg_check.specs.Commands.{command_word}
use Rattle.rg_check.specs.Kinds.{kind_word, takes}
use Rattle.rg_check.specs.Meanings.{rule_meaning}

-- ---- a line that isn't read

-- the forms of the command's lines
unfoldable pub no_word_text : Command → List ℕ
no_word_text command.Replay = codes "none of facts JSON, config JSON, admin ACTOR JSON, refresh and decide JSON"
no_word_text command.Grants = codes "none of config JSON, admin ACTOR JSON, grant ACTOR JSON, revoke ACTOR JSON and decide JSON"
no_word_text command.Report = codes "none of facts JSON and report JSON"
no_word_text command.Keep = codes "none of config JSON, admin ACTOR JSON, reopen and decide JSON"
no_word_text command.Serve = codes "none of config JSON and admin ACTOR JSON"

unfoldable pub wire_name : WireKind → List ℕ
wire_name wire.Syntax = codes "syntax"
wire_name wire.Mistyped = codes "type"
wire_name wire.Missing = codes "missing"
wire_name wire.Range = codes "range"

-- the path of the fault as a JSON string spells it, so that no key breaks the line, or a word for the whole JSON, and the kind
unfoldable pub json_text : List ℕ → WireKind → List ℕ
json_text path kind = (if is_empty path then codes "JSON" else escape (encode_utf8_all path)) ++ (codes ": " ++ wire_name kind)

-- ---- a line out of place

-- what such a line would have to follow, or what it follows
unfoldable pub standing : Place → Command → LineKind → List ℕ
standing place.Start command.Replay kind.Decide = codes "before facts or config"
standing place.Start command.Report _ = codes "before facts"
standing place.Start _ _ = codes "before config"
standing place.Facts _ _ = codes "after facts"
standing place.Config _ _ = codes "after config"

-- the word, and where it stands; or in which script, where that has no such lines
unfoldable pub misplaced_text : Command → Place → LineKind → List ℕ
misplaced_text command place kind = kind_word kind ++
    (if takes command kind then codes " " ++ standing place command kind else codes " in a script of " ++ command_word command)

-- what is said of the end of a script that lacks its configuration
unfoldable pub end_text : List ℕ
end_text = codes "the script ends before config"

-- ---- a rule that is broken

-- who breaks the rule, its name, and what it asks
unfoldable pub broken_text : List ℕ → Rule → List ℕ
broken_text who rule = who ++ (codes " breaks " ++ (rule_name rule ++ (codes " (" ++ (rule_meaning rule ++ codes ")"))))

-- the rule of this number: of a policy, V3 to V12 and V14
abbrev pub policy_rule : ℕ → Rule
policy_rule n = if n == 3 then rule.V3 else (if n == 4 then rule.V4 else (if n == 5 then rule.V5 else (if n == 6 then rule.V6 else (if n == 7 then rule.V7 else (if n == 8 then rule.V8 else (if n == 9 then rule.V9 else (if n == 10 then rule.V10 else (if n == 11 then rule.V11 else (if n == 12 then rule.V12 else rule.V14)))))))))

-- of a zone, Z2 to Z5
abbrev pub zone_rule : ℕ → Rule
zone_rule n = if n == 2 then rule.Z2 else (if n == 3 then rule.Z3 else (if n == 4 then rule.Z4 else rule.Z5))

-- of a tag row, G2 and G3
abbrev pub tag_row_rule : ℕ → Rule
tag_row_rule n = if n == 2 then rule.G2 else rule.G3

-- ---- facts that aren't sound

unfoldable pub at_place : List ℕ → ℕ → List ℕ
at_place path n = path ++ (codes "/" ++ decimal n)

unfoldable pub role_text : RoleFault → List ℕ
role_text (role.Duplicate n) = at_place (codes "/roles") n ++ codes " has the name of a role before it"
role_text (role.Unknown n) = at_place (codes "/roles") n ++ codes " names a role that isn't there"
role_text (role.Cycle n) = at_place (codes "/roles") n ++ codes " holds itself"
role_text role.NoMemory = codes "/roles are too many"

unfoldable pub unsound_text : Unsound → List ℕ
unsound_text unsound.Version = codes "a version is past 2^62"
unsound_text (unsound.Definition n) = broken_text (codes "/serviceDef") (definition_rule n)
unsound_text (unsound.TagDefinition n) = broken_text (codes "/tagServiceDef") (definition_rule n)
unsound_text unsound.TagName = codes "/tagServiceDef isn't named tag"
unsound_text unsound.NoTagDefinition = codes "/tagPolicies without /tagServiceDef"
unsound_text unsound.PolicyIds = codes "the ids of policies aren't positive and distinct"
unsound_text (unsound.Roles fault) = role_text fault
unsound_text (unsound.Policy id n) = broken_text (codes "policy " ++ signed_decimal id.0) (policy_rule n)
unsound_text (unsound.Zone n rule) = broken_text (at_place (codes "/zones") n) (zone_rule rule)
unsound_text (unsound.Overlap n m) = broken_text (at_place (codes "/zones") n ++ (codes " with " ++ at_place (codes "/zones") m)) rule.Z6
unsound_text (unsound.TagRow id n) = broken_text (codes "tag row " ++ signed_decimal id) (tag_row_rule n)
unsound_text unsound.TagRowIds = codes "two tag rows have one id"
unsound_text (unsound.TimeZone n) = broken_text (at_place (codes "/timeZones") n) rule.U2

-- what makes facts unsound besides
abbrev pub besides : Unsound → List ℕ
besides unsound = codes "; " ++ unsound_text unsound

-- all that makes facts unsound
unfoldable pub unsound_texts : List Unsound → List ℕ
unsound_texts [] = []
unsound_texts (unsound ∷ list) = unsound_text unsound ++ flat_map besides list

-- ---- all causes

-- the cause in words, for a line of this kind where it stands; one that isn't read has no kind
unfoldable pub cause_text : Command → Place → Option LineKind → Cause → List ℕ
cause_text command place kind (cause.Json path wire) = json_text path wire
cause_text command place (Some kind) cause.OutOfPlace = misplaced_text command place kind
cause_text command place None cause.OutOfPlace = no_word_text command
cause_text command place kind (cause.Unsound list) = unsound_texts list.items
cause_text command place kind (cause.Refused rule) = broken_text (codes "the configuration") rule
cause_text command place kind cause.NoWord = no_word_text command
