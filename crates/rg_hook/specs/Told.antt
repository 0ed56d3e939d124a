-- What a worker's hooks tell. `D` and `Held` stand for the kinds of boxed objects.
use Rattle.std.specs.Prelude.{ℕ, List, Option, map}
use Rattle.std.specs.declared.alloc.Global.{Global}
use Rattle.std.specs.declared.dyn_box.DynBox.{DynBox}
use Rattle.rg_hook.specs.Shown.{sinks_of}
use Rattle.rg_hook.specs.Sinks.{AfterLine}
use Rattle.rg_hook.specs.declared.fan.AuditFan.{AuditFan}

-- what a sink tells: the lines that it holds, and how many of its calls failed
pub record SinkState : Type 0 where
  pub heard : Option (List (List ℕ))
  pub faults : ℕ

-- a sink that tells these two, with its number of failures
abbrev pub told_by : {S : Type 0} → (S → Option (List (List ℕ))) → (S → ℕ) → S × ℕ → SinkState × ℕ
told_by heard faults s = (record { heard = heard s.0; faults = faults s.0 }, s.1)

-- what the sinks of a fan tell, each with its number of failures. `heard` and `faults` are what a sink tells
abbrev pub told_of : {D : Type 0} {Held : D → Type 0} → (DynBox D Global Held → Option (List (List ℕ))) → (DynBox D Global Held → ℕ) → AuditFan D Held → List (SinkState × ℕ)
told_of heard faults fan = map (told_by heard faults) (sinks_of fan)

-- a sink with its number of failures, before and after a line was given to its fan
abbrev pub IsGiven : List ℕ → SinkState × ℕ → SinkState × ℕ → Type 0
IsGiven line old new = AfterLine (λ (s : SinkState). s.heard) (λ (s : SinkState). s.faults) line old new
