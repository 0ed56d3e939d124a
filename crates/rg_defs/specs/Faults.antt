-- What the check of a definition answers.
use Rattle.std.specs.Prelude.{◌≡◌, ◌≤◌, ℕ, Option, Some}
use Rattle.rg_defs.specs.declared.check.DefFault.{DefFault}
use Rattle.rg_defs.specs.declared.check.DefFault.TheVariants.{Rule, NoMemory}

-- a rule that is named is the least that fails; memory is refused only where none of the rules fails that take none
abbrev pub Names : DefFault → Option ℕ → Type 0
Names (Rule number) fault = fault ≡ Some number
Names NoMemory fault = (number : ℕ) → fault ≡ Some number → 5 ≤ number
