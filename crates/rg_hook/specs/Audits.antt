-- What contracts see of the sink in memory.
use Rattle.std.specs.Prelude.{ℕ, ◌+◌, List, [], ◌∷◌, ◌++◌, Contains}

-- the lines that it holds, how many calls there were, how many of them failed, and the numbers of those that are to fail,
-- counted from 1
pub record AuditState : Type 0 where
  pub lines : List (List ℕ)
  pub made : ℕ
  pub faults : ℕ
  pub fails : List ℕ

-- the next call is listed to fail
abbrev pub IsToFail : AuditState → Type 0
IsToFail a = Contains a.fails (a.made + 1)

-- after a call that took the line
abbrev pub after_line : List ℕ → AuditState → AuditState
after_line line a = record a { lines = a.lines ++ line ∷ []; made = a.made + 1 }

-- after a call that failed
abbrev pub after_fault : AuditState → AuditState
after_fault a = record a { made = a.made + 1; faults = a.faults + 1 }
