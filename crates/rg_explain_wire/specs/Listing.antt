-- Which of the policies that are told are listed. The others are counted alone.
use Rattle.std.specs.Prelude.{ℕ, ◌||◌, Bool, false, true, not, List, filter, length}
use Rattle.rg_standing.specs.declared.reason.Standing.{Standing}
use Rattle.rg_standing.specs.declared.reason.Standing.TheVariants.{FarOff, Disabled, Unscheduled, Elsewhere, Unmet, InPlay}
use Rattle.rg_explain.specs.declared.explanation.Explanation.{Explanation}
use Rattle.rg_explain.specs.declared.explanation.Told.{Told}

abbrev pub is_far_off : Standing → Bool
is_far_off FarOff = true
is_far_off Disabled = false
is_far_off Unscheduled = false
is_far_off (Elsewhere misses) = false
is_far_off (Unmet name) = false
is_far_off (InPlay m) = false

unfoldable pub is_far : Told → Bool
is_far t = is_far_off t.standing

-- all are listed, or those that aren't far off
abbrev pub is_listed : Bool → Told → Bool
is_listed all t = all || not (is_far t)

abbrev pub listed_policies : Bool → Explanation → List Told
listed_policies all e = filter (is_listed all) e.policies.items

-- how many are far off
abbrev pub far_count : Explanation → ℕ
far_count e = length (filter is_far e.policies.items)
