-- A value with a fault is answered by that fault, and one without by the ask.
use Rattle.std.proofs.Common.{◌≡◌, Some, None, Ok, Err, ap}
use Rattle.serde_json.specs.Data.{Data}
use Rattle.rg_base.specs.declared.numbers.Moment.{Moment}
use Rattle.rg_json.specs.declared.fault.WireFault.{WireFault}
use Rattle.rg_json.specs.declared.fault.WireFault.TheVariants.{Bad, NoMemory}
use Rattle.rg_json.specs.Faults.{fault_of}
use Rattle.rg_json.specs.Reading.{Answers, Refuses, reading_of, unless_fault}
use Rattle.rg_acl.specs.Asks.{ask_of, ask_shape}

pub ask_refused : (now : Moment) (e : WireFault) (d : Data) → Refuses e (fault_of ask_shape d) → Answers (Err e) (reading_of ask_shape (ask_of now) (Some d))
ask_refused now (Bad path kind) d h = ap (unless_fault (ask_of now d)) h
ask_refused now NoMemory d h = tt

pub ask_read : (now : Moment) (d : Data) → fault_of ask_shape d ≡ None → reading_of ask_shape (ask_of now) (Some d) ≡ Ok (ask_of now d)
ask_read now d none = ap (unless_fault (ask_of now d)) none

pub ruleset refusals = (ask_refused, ask_read)
