-- Work line by line: what the lines of a script print and decide, whatever the command.
use Rattle.std.specs.Prelude.{◌≡◌, ℕ, ◌+◌, ◌++◌, List, [], ◌∷◌, codes, decimal, Option, Some, None, option_map}
use Rattle.std.specs.Option.{option_map_or}
use Rattle.rg_base.specs.declared.numbers.Moment.{Moment}
use Rattle.rg_policy.specs.declared.request.AccessRequest.{AccessRequest}
use Rattle.rg_facts.specs.declared.decision.Decision.{Decision}
use Rattle.rg_script.specs.Lines.{lines_of}
use Rattle.rg_run_script.specs.declared.status.Status.{Status}
use Rattle.rg_run_script.specs.declared.status.Status.TheVariants.{Done, BadLine}
use Rattle.rg_run_script.specs.Moments.{Gave}

-- a decision: the service, the request as the line has it, the request as it was decided, and what was decided
pub record Decided : Type 0 where
  pub service : List ℕ
  pub asked : AccessRequest
  pub request : AccessRequest
  pub decision : Decision

-- what a line prints, the state after it, and what is decided
pub record Work (S : Type 0) : Type 0 where
  pub text : List ℕ
  pub state : S
  pub decided : List Decided

-- the work of a line in a state at its moment; None for a bad line
abbrev pub Step : Type 0 → Type 0
Step S = S → List ℕ → Moment → Option (Work S)

-- what a script prints, its status, the state at its end, and what is decided, in order
pub record Output (S : Type 0) : Type 0 where
  pub text : List ℕ
  pub status : Status
  pub state : S
  pub decided : List Decided

unfoldable pub bad_line_text : ℕ → List ℕ
bad_line_text n = codes "bad line " ++ (decimal n ++ 10 ∷ [])

-- the work of a line before an output
abbrev pub before : {S : Type 0} → List ℕ → List Decided → Output S → Output S
before text decided o = record { text = text ++ o.text; status = o.status; state = o.state; decided = decided ++ o.decided }

-- the lines end
abbrev pub ended : {S : Type 0} → S → List Moment → Option (Output S)
ended state [] = Some (record { text = []; status = Done; state = state; decided = [] })
ended state (m ∷ ms) = None

-- line n is bad: it is named, and the script ends there, with no moment left over
abbrev pub ends_bad : {S : Type 0} → S → ℕ → List Moment → Option (Output S)
ends_bad state n [] = Some (record { text = bad_line_text n; status = BadLine; state = state; decided = [] })
ends_bad state n (m ∷ ms) = None

-- each line is worked at the next moment, the first of them being line n; None where the moments are too few or too many
abbrev pub worked : {S : Type 0} → Step S → S → ℕ → List (List ℕ) → List Moment → Option (Output S)
worked step state n [] moments = ended state moments
worked step state n (line ∷ lines) [] = None
worked step state n (line ∷ lines) (m ∷ ms) =
    option_map_or (λ w. option_map (before w.text w.decided) (worked step w.state (n + 1) lines ms)) (step state line m) (ends_bad state n ms)

-- what a command makes of lines and moments
abbrev pub Script : Type 0 → Type 0
Script S = List (List ℕ) → List Moment → Option (Output S)

-- the script of these bytes comes to this output at the moments that the clock gave, and then the later ones
pub record Comes (S : Type 0) (script : Script S) (bytes : List ℕ) (clock clock' : Option (List Moment)) (later : List Moment) (output : Output S) : Type 0 where
  pub moments : List Moment
  pub given : Gave clock clock' moments
  pub defined : script (lines_of bytes) (moments ++ later) ≡ Some output

-- the line was worked so
abbrev pub IsWorked : {S : Type 0} → Option (Work S) → S → List ℕ → List ℕ → Type 0
IsWorked None state old new = ⊥
IsWorked (Some w) state old new = (state ≡ w.state) × (new ≡ old ++ w.text)
