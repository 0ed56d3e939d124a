-- What is printed of how a plugin stands.
use Rattle.std.specs.Prelude.{ℕ, List, [], ◌∷◌, Option, codes}
use Rattle.serde_json.specs.Data.{Data, string}
use Rattle.serde_json.specs.Written.{compact_text}
use Rattle.rg_json.specs.Printing.{count_data, object_of, option_data}
use Rattle.rg_health.specs.declared.cause.Cause.{Cause}
use Rattle.rg_health.specs.declared.cause.Cause.TheVariants as cause
use Rattle.rg_health.specs.declared.health.Health.{Health}
use Rattle.rg_health.specs.declared.text.HealthKey.{HealthKey}
use Rattle.rg_health.specs.declared.text.HealthKey.TheVariants as key

unfoldable pub name_of : HealthKey → List ℕ
name_of key.Fault = codes "fault"
name_of key.PolicyVersion = codes "policyVersion"
name_of key.RoleVersion = codes "roleVersion"
name_of key.Serial = codes "serial"
name_of key.SettledSecondsAgo = codes "settledSecondsAgo"
name_of key.TagVersion = codes "tagVersion"

unfoldable pub word_of : Cause → List ℕ
word_of cause.Connection = codes "connection"
word_of cause.Reply = codes "reply"
word_of cause.Status = codes "status"
word_of cause.Body = codes "body"
word_of cause.Delta = codes "delta"
word_of cause.Restless = codes "restless"
word_of cause.Unsound = codes "unsound"
word_of cause.Memory = codes "memory"
word_of cause.Cache = codes "cache"

abbrev pub fault_data : Option Cause → Data
fault_data fault = option_data (λ cause. string (word_of cause)) fault

abbrev pub settled_data : Option ℕ → Data
settled_data settled = option_data count_data settled

abbrev pub health_members : Health → List (HealthKey × Data)
health_members h =
    (key.Fault, fault_data h.fault)
    ∷ (key.PolicyVersion, count_data h.policy_version.0)
    ∷ (key.RoleVersion, count_data h.role_version.0)
    ∷ (key.Serial, count_data h.serial.0)
    ∷ (key.SettledSecondsAgo, settled_data h.settled)
    ∷ (key.TagVersion, count_data h.tag_version.0)
    ∷ []

unfoldable pub health_data : Health → Data
health_data h = object_of name_of (health_members h)

unfoldable pub health_text : Health → List ℕ
health_text h = compact_text (health_data h)
