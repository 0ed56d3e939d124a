-- A text with a fault is answered by that fault, and one without by a record.
use Rattle.std.proofs.Common.{ℕ, List, unwrap_or, Err, ap}
use Rattle.serde_json.specs.Data.{Data, null}
use Rattle.rg_json.specs.declared.fault.WireFault.{WireFault}
use Rattle.rg_json.specs.declared.fault.WireFault.TheVariants.{Bad, NoMemory}
use Rattle.rg_json.specs.Reading.{Answers, Refuses, reading, text_fault, unless_fault}
use Rattle.rg_json.specs.Shape.{Shape}
use Rattle.rg_json.specs.Texts.{data_of}

pub refused : {X : Type 0} (e : WireFault) (s : Shape) (taken : Data → X) (text : List ℕ) → Refuses e (text_fault s (data_of text)) → Answers (Err e) (reading s taken text)
refused (Bad path kind) s taken text h = ap (unless_fault (taken (unwrap_or (data_of text) null))) h
refused NoMemory s taken text h = tt

pub ruleset refusals = (refused)
