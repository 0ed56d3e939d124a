-- What a value holds nests less deep than the value.
use Rattle.std.proofs.Common.{◌≡◌, ℕ, ◌≤◌, max, List, Option, Some, None, unwrap_or, option_and_then, refl, ap, arith, Ordering, Less, Equal, Greater}
use Rattle.std.specs.Ordering.{match_ordering, nat_cmp}
use Rattle.std.specs.Cmp.Lexicographic.{slice_cmp}
use Rattle.serde_json.specs.Data.{Data, null, boolean, number, string, array, object, Members, no_members, member, depth, members_depth}
use Rattle.serde_json.specs.Find.{get, get_member}
use Rattle.rg_json.specs.Fields.{field, unless_null, within}

some_same : (d e : Data) → Some d ≡ Some e → d ≡ e
some_same d e same = cc same

-- no deeper than n, where something is found
abbrev IsWithin : ℕ → Option Data → Type 0
IsWithin n found = (d : Data) → found ≡ Some d → depth d ≤ n

chosen : (o : Ordering) (found : Option Data) (e : Data) (n : ℕ) → IsWithin n found → IsWithin (max (depth e) n) (match_ordering o found (Some e) found)
chosen Less found e n here d same = omega (arith, here d same)
chosen Equal found e n here d same = omega (arith, ap depth (some_same e d same))
chosen Greater found e n here d same = omega (arith, here d same)

member_within : (k : List ℕ) (ms : Members) → IsWithin (members_depth ms) (get_member k ms)
member_within k no_members d same = absurd (cc same)
member_within k (member l e ms) d same = chosen (slice_cmp nat_cmp k l) (get_member k ms) e (members_depth ms) (member_within k ms) d same

unwrapped : (found : Option Data) (n : ℕ) → IsWithin n found → depth (unwrap_or (option_and_then unless_null found) null) ≤ n
unwrapped None n here = omega arith
unwrapped (Some null) n here = omega arith
unwrapped (Some (boolean b)) n here = omega arith
unwrapped (Some (number x)) n here = omega arith
unwrapped (Some (string s)) n here = omega arith
unwrapped (Some (array ds)) n here = here (array ds) refl
unwrapped (Some (object ms)) n here = here (object ms) refl

nothing : (n : ℕ) → IsWithin n None
nothing n d same = absurd (cc same)

deeper : (k : List ℕ) (ms : Members) → IsWithin (depth (object ms)) (get_member k ms)
deeper k ms d same = omega (arith, member_within k ms d same)

pub within_depth : (k : List ℕ) (d : Data) → depth (within k d) ≤ depth d
unfolding within field
within_depth k null = unwrapped None 0 (nothing 0)
within_depth k (boolean b) = unwrapped None 0 (nothing 0)
within_depth k (number x) = unwrapped None 0 (nothing 0)
within_depth k (string s) = unwrapped None 0 (nothing 0)
within_depth k (array ds) = unwrapped None (depth (array ds)) (nothing (depth (array ds)))
within_depth k (object ms) = unwrapped (get_member k ms) (depth (object ms)) (deeper k ms)

-- what a value holds is within the same bound
pub within_shallow : (k : List ℕ) (d : Data) (n : ℕ) → depth d ≤ n → depth (within k d) ≤ n
within_shallow k d n h = omega (arith, h, within_depth k d)

pub ruleset depths = (within_shallow)
