-- The reading of a text: the record, or the first fault.
use Rattle.std.specs.Prelude.{◌≡◌, ℕ, List, [], Option, Some, None, unwrap_or, Result, Ok, Err}
use Rattle.serde_json.specs.Data.{Data, null}
use Rattle.rg_json.specs.declared.fault.Fault.{Fault}
use Rattle.rg_json.specs.declared.fault.WireKind.TheVariants.{Syntax}
use Rattle.rg_json.specs.declared.fault.WireFault.{WireFault}
use Rattle.rg_json.specs.declared.fault.WireFault.TheVariants.{Bad, NoMemory}
use Rattle.rg_json.specs.Faults.{fault_of}
use Rattle.rg_json.specs.Shape.{Shape}
use Rattle.rg_json.specs.Texts.{data_of}

-- the first fault of a text is that of its JSON; what is no JSON has the fault Syntax
abbrev pub text_fault : Shape → Option Data → Option Fault
text_fault s None = Some (record { path = []; kind = Syntax })
text_fault s (Some d) = fault_of s d

abbrev pub unless_fault : {X : Type 0} → X → Option Fault → Result X Fault
unless_fault x None = Ok x
unless_fault x (Some f) = Err f

abbrev pub reading_of : {X : Type 0} → Shape → (Data → X) → Option Data → Result X Fault
reading_of s taken o = unless_fault (taken (unwrap_or o null)) (text_fault s o)

-- the record that is taken from a text of this shape, or else the text's first fault
abbrev pub reading : {X : Type 0} → Shape → (Data → X) → List ℕ → Result X Fault
reading s taken text = reading_of s taken (data_of text)

-- the answer is the reading, unless memory was refused
abbrev pub Answers : {X : Type 0} → Result X WireFault → Result X Fault → Type 0
Answers (Ok x) read = read ≡ Ok x
Answers (Err (Bad path kind)) read = read ≡ Err (record { path = path; kind = kind })
Answers (Err NoMemory) read = Unit {0}

-- the refusal is the fault, unless memory was refused
abbrev pub Refuses : WireFault → Option Fault → Type 0
Refuses (Bad path kind) fault = fault ≡ Some (record { path = path; kind = kind })
Refuses NoMemory fault = Unit {0}

-- the first of two records
abbrev pub first_of : {X Y : Type 0} → Result (X × Y) WireFault → Result X WireFault
first_of (Ok p) = Ok p.0
first_of (Err e) = Err e
