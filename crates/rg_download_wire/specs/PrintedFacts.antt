-- What is printed for facts.
use Rattle.std.specs.Prelude.{ℕ, List, [], ◌∷◌, ◌++◌}
use Rattle.serde_json.specs.Data.{Data}
use Rattle.serde_json.specs.Written.{compact_text}
use Rattle.rg_facts.specs.declared.facts.Facts.{Facts}
use Rattle.rg_json.specs.Printing.{text_data, bool_data, count_data, list_data, option_data}
use Rattle.rg_wire.specs.Printing.{policy_data}
use Rattle.rg_wire.specs.declared.key.Key.TheVariants as key
use Rattle.rg_cmd_wire.specs.PrintedNames.{object_of}
use Rattle.rg_cmd_wire.specs.PrintedRows.{def_data, role_data, tag_row_data, time_zone_data, zone_data}
use Rattle.rg_cmd_wire.specs.declared.reply_key.ReplyKey.{ReplyKey}
use Rattle.rg_cmd_wire.specs.declared.reply_key.ReplyKey.TheVariants.{Wire}

-- what the policies are, and what they are of. Without a tag service its definition is null
abbrev pub rule_members : Facts → List (ReplyKey × Data)
rule_members f =
    (Wire key.Service, text_data f.service) ∷
    (Wire key.Fallback, bool_data f.fallback) ∷
    (Wire key.ServiceDef, def_data f.def) ∷
    (Wire key.TagServiceDef, option_data def_data f.tag_def) ∷
    (Wire key.Policies, list_data policy_data f.policies) ∷
    (Wire key.TagPolicies, list_data policy_data f.tag_policies) ∷ []

-- the rows, and the versions
abbrev pub row_members : Facts → List (ReplyKey × Data)
row_members f =
    (Wire key.Zones, list_data zone_data f.zones) ∷
    (Wire key.Roles, list_data role_data f.roles) ∷
    (Wire key.Resources, list_data tag_row_data f.tag_rows) ∷
    (Wire key.TimeZones, list_data time_zone_data f.time_zones) ∷
    (Wire key.PolicyVersion, count_data f.policy_version.0) ∷
    (Wire key.TagVersion, count_data f.tag_version.0) ∷
    (Wire key.RoleVersion, count_data f.role_version.0) ∷ []

unfoldable pub facts_data : Facts → Data
facts_data f = object_of (rule_members f ++ row_members f)

-- the text of facts
unfoldable pub facts_text : Facts → List ℕ
facts_text f = compact_text (facts_data f)
