-- What readers know of the list that is shown. Only proofs need it.
use Rattle.std.specs.Prelude.{◌≡◌, ℕ, List, Option, Some}
use mathlib.Core.Option.{some}
use mathlib.Core.List.{IsPrefix}
use lib.ListN.{get_elem?}
use Rattle.logbook.specs.declared.tokens.Seen.{Seen}

module _ {E A P : Type 0} where
  -- t is a beginning of s, in the same book
  abbrev pub Begins : Seen E A P → Seen E A P → Type 0
  Begins t s = (t.book ≡ s.book) × IsPrefix t.log s.log

  -- what is known, if anything is, begins s
  abbrev pub KnownBegins : Option (Seen E A P) → Seen E A P → Type 0
  KnownBegins v s = (t : Seen E A P) → v ≡ Some t → Begins t s

  -- s is shown, and what each one knows begins it
  abbrev pub AllBegin : Seen E A P → List (Option (Seen E A P)) → Type 0
  AllBegin s views = (j : ℕ) (v : Option (Seen E A P)) → get_elem? views j ≡ some v → KnownBegins v s

  -- s was found, which begins with what was known
  abbrev pub Reads : Option (Seen E A P) → Seen E A P → Option (Seen E A P) → Type 0
  Reads v s w = (w ≡ Some s) × KnownBegins v s

  -- something is known, of the book of s
  abbrev pub Knows : Option (Seen E A P) → Seen E A P → Type 0
  Knows v s = (t : Seen E A P) × (v ≡ Some t) × (t.book ≡ s.book)
