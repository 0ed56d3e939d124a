-- What contracts see of the keeper in memory. Its calls are counted from 1.
use Rattle.std.specs.Prelude.{◌≡◌, ◌≤◌, ℕ, ◌+◌, ◌-◌, ◌^◌, ◌==◌, min, Bool, true, false, List, [], ◌∷◌, ◌++◌, take, length, Option, Some, None}
use Rattle.std.specs.List.{find}
use Rattle.rg_record_store.specs.declared.mem_keeper.FailingCall.{FailingCall}

-- the records, the calls that are to fail, how many calls there were, and how many of them failed
pub record MemState : Type 0 where
  pub kept : List (List ℕ)
  pub fails : List FailingCall
  pub made : ℕ
  pub faults : ℕ

-- the number of the next call; it stands still at the last u64
abbrev pub next_number : MemState → ℕ
next_number m = min (m.made + 1) (2 ^ 64 - 1)

-- how the next call fails, where it is to fail
abbrev pub failing : MemState → Option FailingCall
failing m = find (λ (call : FailingCall). call.number == next_number m) m.fails

abbrev pub after_call : MemState → MemState
after_call m = record m { made = next_number m }

abbrev pub after_fault : MemState → MemState
after_fault m = record m { made = next_number m; faults = m.faults + 1 }

abbrev pub with_record : List ℕ → MemState → MemState
with_record entry m = record m { kept = m.kept ++ entry ∷ [] }

-- a call that fails keeps the record or doesn't, as it is listed
abbrev pub as_listed : Bool → List ℕ → MemState → MemState
as_listed true entry m = with_record entry m
as_listed false entry m = m

abbrev pub IsFailed : Option FailingCall → (FailingCall → MemState) → MemState → Type 0
IsFailed None leaves new = ⊥
IsFailed (Some call) leaves new = new ≡ leaves call

-- Records only come in, one at a time, so the images of the past are the lists of the first records. Each since the t-th counts.
abbrev pub HadBeen : List (List ℕ) → ℕ → List (List ℕ) → Type 0
HadBeen records t left = (k : ℕ) × (t ≤ k) × (k ≤ length records) × (left ≡ take k records)
