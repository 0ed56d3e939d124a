-- How many policies have each print.
use Rattle.std.specs.Prelude.{◌≡◌, ℕ, ◌+◌, ◌-◌, ◌==◌, Bool, List, if◌then◌else◌, unwrap_or}
use Rattle.std.specs.BTreeMap.{is_at}
use Rattle.std.specs.List.{sum_by}
use Rattle.std.specs.Map.{lookup}
use Rattle.std.specs.Ordering.{nat_cmp}
use Rattle.rg_policy.specs.declared.policy.Policy.{Policy}
use Rattle.rg_same_resources.specs.Prints.{prints_of}
use Rattle.rg_same_resources.specs.declared.prints.Prints.{Prints}

-- the count of the print, of prints with their counts
abbrev pub count_of : List (ℕ × ℕ) → ℕ → ℕ
count_of counts print = unwrap_or (lookup (is_at (nat_cmp print)) counts) 0

abbrev pub one_if : Bool → ℕ
one_if b = if b then 1 else 0

-- how many of the prints this one is
abbrev pub times_in : Prints → ℕ → ℕ
times_in prints k = one_if (k == prints.maps) + one_if (k == prints.name)

-- no count is another one
abbrev pub IsSame : List (ℕ × ℕ) → List (ℕ × ℕ) → Type 0
IsSame before after = (k : ℕ) → count_of after k ≡ count_of before k

-- a policy of these prints is counted
abbrev pub IsAdded : Prints → List (ℕ × ℕ) → List (ℕ × ℕ) → Type 0
IsAdded prints before after = (k : ℕ) → count_of after k ≡ count_of before k + times_in prints k

-- a policy of these prints is counted no more
abbrev pub IsRemoved : Prints → List (ℕ × ℕ) → List (ℕ × ℕ) → Type 0
IsRemoved prints before after = (k : ℕ) → count_of after k ≡ count_of before k - times_in prints k

-- how many of the policy's prints this one is
abbrev pub has_print : ℕ → Policy → ℕ
has_print k p = times_in (prints_of p) k

-- each print has its count
unfoldable pub IsCounted : List (ℕ × ℕ) → List Policy → Type 0
IsCounted counts ps = (k : ℕ) → count_of counts k ≡ sum_by (has_print k) ps
