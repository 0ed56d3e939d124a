-- What the steps of the walks and of the table promise.
use Rattle.std.specs.Prelude.{ℕ, Bool, true, false, ◌≡◌, ◌+◌, ◌≤◌, ◌<◌, List, [], ◌∷◌, Option, Some, None, if◌then◌else◌, length, drop, slice_index_or}
use Rattle.std.specs.Str.{chars}
use Rattle.rg_pattern.specs.declared.atoms.Atom.{Atom}
use Rattle.rg_pattern.specs.declared.atoms.Atom.TheVariants.{Character, One, Any, User}
use Rattle.rg_pattern.specs.declared.matching.Segment.{Segment}
use Rattle.rg_pattern.specs.declared.matching.Segment.TheVariants.{Whole, Star, Mismatch}
use Rattle.rg_pattern.specs.declared.covering.CoverSegment.{CoverSegment}
use Rattle.rg_pattern.specs.declared.covering.CoverSegment.TheVariants.{Whole as CoverWhole, Star as CoverStar, Mismatch as CoverMismatch}
use Rattle.rg_pattern.specs.Tests.{same_char, strip_prefix, some_suffix, overlaps}

-- what follows in a text that begins with what the atom, which is not Any, stands for
abbrev pub strip_atom : Bool → List ℕ → Atom → List ℕ → Option (List ℕ)
strip_atom fold user (Character c) [] = None
strip_atom fold user (Character c) (x ∷ t) = if same_char fold c x then Some t else None
strip_atom fold user One [] = None
strip_atom fold user One (x ∷ t) = Some t
strip_atom fold user Any t = None
strip_atom fold user User t = strip_prefix fold user t

-- some shorter suffix passes
abbrev pub some_later : {X : Type 0} → (List X → Bool) → List X → Bool
some_later f [] = false
some_later f (x ∷ t) = some_suffix f t

-- a walk from the pattern p at t has come to the pattern q at s: the answer is the same, and if p fits at a later place than t, then q fits at a later place than s
pub record LeadsTo {X : Type 0} (f : List Atom → List X → Bool) (p : List Atom) (t : List X) (q : List Atom) (s : List X) : Type 0 where
  pub same : f p t ≡ f q s
  pub later : some_later (f p) t ≡ true → some_later (f q) s ≡ true
  pub atoms : length q ≤ length p
  pub texts : length s ≤ length t

-- a walk has come to an Any, with q after it at s: the answer is whether q fits at some suffix of s, and no later place for p would help
pub record StopsAt {X : Type 0} (f : List Atom → List X → Bool) (p : List Atom) (t : List X) (q : List Atom) (s : List X) : Type 0 where
  pub same : f p t ≡ some_suffix (f q) s
  pub later : some_later (f p) t ≡ true → some_suffix (f q) s ≡ true
  pub atoms : length q < length p
  pub texts : length s ≤ length t

-- where matching up to the next Any ends
abbrev pub MatchedTo : (List Atom → List ℕ → Bool) → List Atom → List ℕ → Segment → Type 0
MatchedTo f p t Whole = f p t ≡ true
MatchedTo f p t Mismatch = f p t ≡ false
MatchedTo f p t (Star q s) = StopsAt f p t q.now (chars s.now)

-- the comparisons in it, of which there were so many before and are so many now: one for each atom that it passed, the Any included; where it goes no further, at most one for each atom and one for the end
abbrev pub SegmentWork : List Atom → Segment → ℕ → ℕ → Type 0
SegmentWork p Whole before now = now ≤ before + length p + 1
SegmentWork p Mismatch before now = now ≤ before + length p + 1
SegmentWork p (Star q s) before now = now + length q.now ≤ before + length p

-- where covering up to the next Any ends
abbrev pub CoveredTo : (List Atom → List Atom → Bool) → List Atom → List Atom → CoverSegment → Type 0
CoveredTo f p t CoverWhole = f p t ≡ true
CoveredTo f p t CoverMismatch = f p t ≡ false
CoveredTo f p t (CoverStar q s) = StopsAt f p t q.now s.now

-- a row of the table: the answers for p against each rest of q
pub record IsRow (fold : Bool) (p : List Atom) (q : List Atom) (cells : List Bool) : Type 0 where
  pub places : length cells ≡ length q + 1
  pub answers : (k : ℕ) → k ≤ length q → slice_index_or cells k false ≡ overlaps fold p (drop k q)
