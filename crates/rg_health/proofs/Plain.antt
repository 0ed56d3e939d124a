-- What is printed of how a plugin stands has no float, and nests one level.
use Rattle.std.proofs.Common.{◌≡◌, ℕ, Option, false, refl, arith}
use Rattle.serde_json.specs.Written.{has_float}
use Rattle.rg_json.specs.Printing.{count_data}
use Rattle.rg_json.proofs.Plain.{Plain, count_plain, object_plain, option_plain}
use Rattle.serde_json.specs.Data.{string}
use Rattle.rg_health.specs.declared.cause.Cause.{Cause}
use Rattle.rg_health.specs.declared.health.Health.{Health}
use Rattle.rg_health.specs.Health.{fault_data, health_data, health_members, name_of, settled_data, word_of}

fault_plain : (fault : Option Cause) → Plain 0 (fault_data fault)
fault_plain fault = option_plain 0 (λ cause. string (word_of cause)) fault (λ cause. (refl, omega arith))

settled_plain : (settled : Option ℕ) → Plain 0 (settled_data settled)
settled_plain settled = option_plain 0 count_data settled (count_plain 0)

health_plain : (h : Health) → Plain 1 (health_data h)
unfolding health_data
health_plain h = object_plain name_of 0 1 (health_members h) (omega arith) (fault_plain h.fault, (count_plain 0 h.policy_version.0, (count_plain 0 h.role_version.0, (count_plain 0 h.serial.0, (settled_plain h.settled, (count_plain 0 h.tag_version.0, tt))))))

pub health_float : (h : Health) → has_float (health_data h) ≡ false
health_float h = (health_plain h).0

pub ruleset healths = (health_float)
