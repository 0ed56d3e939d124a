-- A value with a fault is answered by that fault, and one without by the row.
use Rattle.std.proofs.Common.{◌≡◌, Some, None, Ok, Err, ap}
use Rattle.serde_json.specs.Data.{Data}
use Rattle.rg_json.specs.declared.fault.WireFault.{WireFault}
use Rattle.rg_json.specs.declared.fault.WireFault.TheVariants.{Bad, NoMemory}
use Rattle.rg_json.specs.Faults.{fault_of}
use Rattle.rg_json.specs.Reading.{Answers, Refuses, reading_of, unless_fault}
use Rattle.rg_grant.specs.Rows.{grant_shape, row_of}

pub row_refused : (e : WireFault) (d : Data) → Refuses e (fault_of grant_shape d) → Answers (Err e) (reading_of grant_shape row_of (Some d))
row_refused (Bad path kind) d h = ap (unless_fault (row_of d)) h
row_refused NoMemory d h = tt

pub row_read : (d : Data) → fault_of grant_shape d ≡ None → reading_of grant_shape row_of (Some d) ≡ Ok (row_of d)
row_read d none = ap (unless_fault (row_of d)) none

pub ruleset refusals = (row_refused, row_read)
