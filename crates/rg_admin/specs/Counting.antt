-- How the counts of prints follow the policies.
use Rattle.std.specs.Prelude.{◌≡◌, ℕ, ◌+◌, ◌-◌, List, Option, Some, None, option_map}
use Rattle.rg_policy.specs.declared.policy.Policy.{Policy}
use Rattle.rg_same_resources.specs.Counts.{count_of, times_in}
use Rattle.rg_same_resources.specs.Prints.{prints_of}
use Rattle.rg_same_resources.specs.declared.prints.Prints.{Prints}
use Rattle.rg_cmd.specs.declared.ask.AdminCommand.{AdminCommand}
use Rattle.rg_cmd.specs.declared.ask.AdminCommand.TheVariants.{CreatePolicy, UpdatePolicy}
use Rattle.rg_cmd.specs.declared.state.State.{State}
use Rattle.rg_admin.specs.Planning.{policy_named}
use Rattle.rg_admin.specs.declared.counting.Shift.{Shift}

-- the policy that the command brings
abbrev pub policy_brought : AdminCommand → Option Policy
policy_brought (CreatePolicy p) = Some p
policy_brought (UpdatePolicy p) = Some p
policy_brought command = None

-- what an accepted command does to the prints
abbrev pub shift_of : State → AdminCommand → Shift
shift_of s c = record { brings = option_map prints_of (policy_brought c); takes = option_map prints_of (policy_named s c) }

abbrev pub times : Option Prints → ℕ → ℕ
times None k = 0
times (Some prints) k = times_in prints k

-- what has the prints, if there is something, is counted
abbrev pub IsCountedIn : Option Prints → List (ℕ × ℕ) → List (ℕ × ℕ) → Type 0
IsCountedIn prints before after = (k : ℕ) → count_of after k ≡ count_of before k + times prints k

-- and is counted no more
abbrev pub IsCountedOut : Option Prints → List (ℕ × ℕ) → List (ℕ × ℕ) → Type 0
IsCountedOut prints before after = (k : ℕ) → count_of after k ≡ count_of before k - times prints k
