-- What is printed of a fault has no float, and nests one level.
use Rattle.std.proofs.Common.{◌≡◌, false, refl, arith}
use Rattle.serde_json.specs.Written.{has_float}
use Rattle.rg_json.specs.declared.fault.Fault.{Fault}
use Rattle.rg_json.proofs.Plain.{Plain, object_plain, text_plain}
use Rattle.rg_rest.specs.Bodies.{fault_data, fault_members, name_of}

fault_plain : (f : Fault) → Plain 1 (fault_data f)
unfolding fault_data
fault_plain f = object_plain name_of 0 1 (fault_members f) (omega arith) ((refl, omega arith), (text_plain 0 f.path, tt))

pub fault_float : (f : Fault) → has_float (fault_data f) ≡ false
fault_float f = (fault_plain f).0

pub ruleset faults = (fault_float)
