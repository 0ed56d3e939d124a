-- What is printed has no float, and nests a few levels.
use Rattle.std.proofs.Common.{◌≡◌, ℕ, ℤ, pos, negsuc, ◌+◌, ◌≤◌, Bool, true, false, ◌||◌, List, [], ◌∷◌, map, Option, Some, None, Ordering, Less, Equal, Greater, true≢false, refl, arith}
use Rattle.std.specs.Ordering.{match_ordering, nat_cmp}
use Rattle.std.specs.Cmp.Lexicographic.{slice_cmp}
use Rattle.serde_json.specs.Data.{Data, Items, Members, member, no_members, put, depth, items_depth, members_depth}
use Rattle.serde_json.specs.View.{items_of}
use Rattle.serde_json.specs.Written.{has_float, items_have_float, members_have_float}
use Rattle.rg_base.specs.Listed.{Listed}
use Rattle.rg_json.specs.Printing.{with_members, object_of, text_data, bool_data, integer_data, count_data, list_data, option_data}

abbrev pub Plain : ℕ → Data → Type 0
Plain n d = (has_float d ≡ false) × (depth d ≤ n)

abbrev pub PlainMembers : ℕ → Members → Type 0
PlainMembers n ms = (members_have_float ms ≡ false) × (members_depth ms ≤ n)

abbrev pub PlainItems : ℕ → Items → Type 0
PlainItems n ds = (items_have_float ds ≡ false) × (items_depth ds ≤ n)

abbrev pub PlainEach : {K : Type 0} → ℕ → List (K × Data) → Type 0
PlainEach n [] = Unit {0}
PlainEach n (p ∷ ps) = Plain n p.1 × PlainEach n ps

both_false : (a b : Bool) → (a || b) ≡ false → (a ≡ false) × (b ≡ false)
both_false true b e = absurd (true≢false e)
both_false false b e = (refl, e)

member_plain : (n : ℕ) (k : List ℕ) (d : Data) (ms : Members) → Plain n d → PlainMembers n ms → PlainMembers n (member k d ms)
member_plain n k d ms p q = (rw p.0 q.0, omega (arith, p.1, q.1))

parts_plain : (n : ℕ) (k : List ℕ) (d : Data) (ms : Members) → PlainMembers n (member k d ms) → Plain n d × PlainMembers n ms
parts_plain n k d ms q = let e = both_false (has_float d) (members_have_float ms) q.0 in ((e.0, omega (arith, q.1)), (e.1, omega (arith, q.1)))

ordered_plain : (n : ℕ) (o : Ordering) (a b c : Members) → PlainMembers n a → PlainMembers n b → PlainMembers n c → PlainMembers n (match_ordering o a b c)
ordered_plain n Less a b c pa pb pc = pa
ordered_plain n Equal a b c pa pb pc = pb
ordered_plain n Greater a b c pa pb pc = pc

pub put_plain : (n : ℕ) (k : List ℕ) (d : Data) (ms : Members) → Plain n d → PlainMembers n ms → PlainMembers n (put k d ms)
put_plain n k d no_members p q = member_plain n k d no_members p q
put_plain n k d (member l e ms) p q =
    let parts = parts_plain n l e ms q in
    ordered_plain n (slice_cmp nat_cmp k l) _ _ _
    (member_plain n k d (member l e ms) p q)
    (member_plain n l d ms p parts.1)
    (member_plain n l e (put k d ms) parts.0 (put_plain n k d ms p parts.1))

with_plain : {K : Type 0} (name_of : K → List ℕ) (n : ℕ) (ps : List (K × Data)) (ms : Members) → PlainMembers n ms → PlainEach n ps → PlainMembers n (with_members name_of ms ps)
with_plain name_of n [] ms q each = q
with_plain name_of n (p ∷ ps) ms q each = with_plain name_of n ps (put (name_of p.0) p.1 ms) (put_plain n (name_of p.0) p.1 ms each.0 q) each.1

pub none_plain : (n : ℕ) → PlainMembers n no_members
none_plain n = (refl, omega arith)

pub object_plain : {K : Type 0} (name_of : K → List ℕ) (n m : ℕ) (ps : List (K × Data)) → n + 1 ≤ m → PlainEach n ps → Plain m (object_of name_of ps)
object_plain name_of n m ps h each = let q = with_plain name_of n ps no_members (none_plain n) each in (q.0, omega (arith, q.1, h))

items_plain : {X : Type 0} (n : ℕ) (f : X → Data) (xs : List X) → ((x : X) → Plain n (f x)) → PlainItems n (items_of (map f xs))
items_plain n f [] each = (refl, omega arith)
items_plain n f (x ∷ xs) each = let q = items_plain n f xs each in (rw (each x).0 q.0, omega (arith, (each x).1, q.1))

pub list_plain : {X : Type 0} (n m : ℕ) (f : X → Data) (xs : Listed X) → n + 1 ≤ m → ((x : X) → Plain n (f x)) → Plain m (list_data f xs)
unfolding list_data
list_plain n m f xs h each = let q = items_plain n f xs.items each in (q.0, omega (arith, q.1, h))

pub text_plain : (n : ℕ) (t : List ℕ) → Plain n (text_data t)
unfolding text_data
text_plain n t = (refl, omega arith)

pub bool_plain : (n : ℕ) (b : Bool) → Plain n (bool_data b)
bool_plain n b = (refl, omega arith)

pub integer_plain : (n : ℕ) (z : ℤ) → Plain n (integer_data z)
unfolding integer_data
integer_plain n (pos k) = (refl, omega arith)
integer_plain n (negsuc k) = (refl, omega arith)

pub count_plain : (n k : ℕ) → Plain n (count_data k)
count_plain n k = (refl, omega arith)

pub option_plain : {X : Type 0} (n : ℕ) (f : X → Data) (o : Option X) → ((x : X) → Plain n (f x)) → Plain n (option_data f o)
option_plain n f None each = (refl, omega arith)
option_plain n f (Some x) each = each x

pub texts_plain : (m : ℕ) (ts : Listed (List ℕ)) → 1 ≤ m → Plain m (list_data text_data ts)
texts_plain m ts h = list_plain 0 m text_data ts h (text_plain 0)
