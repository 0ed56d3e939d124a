-- A part with a fault is answered by that fault, and one without by the part.
use Rattle.std.proofs.Common.{◌≡◌, ◌∙◌, Option, Some, None, Result, Ok, Err, is_some, true, if◌then◌else◌, unwrap_or, subst, sym, ap, refl}
use Rattle.std.specs.Prelude.{codes}
use Rattle.std.specs.Str.{chars}
use Rattle.serde_json.specs.Data.{Data, null}
use Rattle.serde_json.specs.Find.{as_object}
use Rattle.rg_json.specs.declared.fault.Fault.{Fault}
use Rattle.rg_json.specs.declared.fault.WireFault.{WireFault}
use Rattle.rg_json.specs.declared.fault.WireFault.TheVariants.{Bad, NoMemory}
use Rattle.rg_json.specs.declared.fault.WireKind.TheVariants.{Mistyped}
use Rattle.rg_json.specs.Faults.{fault_of, here}
use Rattle.rg_json.specs.Reading.{Answers, Refuses, unless_fault}
use Rattle.rg_json.specs.Shape.{Shape}
use Rattle.rg_download_wire.specs.Reading.{after, by_delta, by_whole, in_map, no_map, no_whole}

-- the path has the characters that it is written with
pub path_chars : chars (codes "/whole") ≡ codes "/whole"
unfolding chars
path_chars = refl

-- ---- maps

pub text_refused : {P : Type 0} (e : WireFault) (taken : Data → Result P Fault) (json : Option Data) → Refuses e (no_map json) → Answers (Err e) (in_map taken json)
text_refused (Bad path kind) taken json h = ap (λ fault. after fault (taken (unwrap_or json null))) h
text_refused NoMemory taken json h = tt

-- the answer for a map is that for the text
pub text_taken : {P : Type 0} (r : Result P WireFault) (taken : Data → Result P Fault) (json : Option Data) (d : Data) → json ≡ Some d → is_some (as_object d) ≡ true
    → Answers r (taken d) → Answers r (in_map taken json)
text_taken r taken json d is map h =
    subst (λ (o : Option Data). Answers r (in_map taken o)) (sym is) (subst (λ b. Answers r (after (if b then None else here Mistyped) (taken d))) (sym map) h)

-- ---- parts

pub delta_refused : {P : Type 0} (e : WireFault) (shape : Shape) (made : Data → P) (o : Option Data) (other : Result P Fault) (d : Data) → o ≡ Some d → Refuses e (fault_of shape d)
    → Answers (Err e) (by_delta shape made o other)
delta_refused (Bad path kind) shape made o other d is h = ap (λ (x : Option Data). by_delta shape made x other) is ∙ ap (unless_fault (made d)) h
delta_refused NoMemory shape made o other d is h = tt

pub delta_read : {P : Type 0} (shape : Shape) (made : Data → P) (o : Option Data) (other : Result P Fault) (d : Data) → o ≡ Some d → fault_of shape d ≡ None → by_delta shape made o other ≡ Ok (made d)
delta_read shape made o other d is right = ap (λ (x : Option Data). by_delta shape made x other) is ∙ ap (unless_fault (made d)) right

-- without a delta the answer is the other
pub without_delta : {P : Type 0} (r : Result P WireFault) (shape : Shape) (made : Data → P) (o : Option Data) (other : Result P Fault) → o ≡ None → Answers r other → Answers r (by_delta shape made o other)
without_delta r shape made o other is h = subst (λ (x : Option Data). Answers r (by_delta shape made x other)) (sym is) h

pub whole_missing : {P : Type 0} (e : WireFault) (shape : Shape) (made : Data → P) (o : Option Data) → o ≡ None → Refuses e (Some no_whole) → Answers (Err e) (by_whole shape made o)
whole_missing (Bad path kind) shape made o is h = ap (λ (x : Option Data). by_whole shape made x) is ∙ ap (unless_fault (made null)) h
whole_missing NoMemory shape made o is h = tt

pub whole_refused : {P : Type 0} (e : WireFault) (shape : Shape) (made : Data → P) (o : Option Data) (d : Data) → o ≡ Some d → Refuses e (fault_of shape d) → Answers (Err e) (by_whole shape made o)
whole_refused (Bad path kind) shape made o d is h = ap (λ (x : Option Data). by_whole shape made x) is ∙ ap (unless_fault (made d)) h
whole_refused NoMemory shape made o d is h = tt

pub whole_read : {P : Type 0} (shape : Shape) (made : Data → P) (o : Option Data) (d : Data) → o ≡ Some d → fault_of shape d ≡ None → by_whole shape made o ≡ Ok (made d)
whole_read shape made o d is right = ap (λ (x : Option Data). by_whole shape made x) is ∙ ap (unless_fault (made d)) right

pub ruleset spellings = (path_chars)

pub ruleset refusals = (delta_refused, delta_read, without_delta, whole_missing, whole_refused, whole_read)

pub ruleset maps = (text_refused, text_taken)
