-- Lists of publications, numbered 1, 2, 3 and so on. To be read first; then Passes. Knowing serves proofs.
use Rattle.std.specs.Prelude.{◌≡◌, ℕ, ◌+◌, true, List, [], ◌∷◌, ◌++◌, length, slice_get, Some}
use Rattle.logbook.specs.Pages.{Cell, Step, View, Book, Named}
use Rattle.logbook.specs.declared.tokens.Seen.{Seen}
use Rattle.rg_facts.specs.declared.facts.Facts.{Facts}
use Rattle.rg_publish.specs.declared.history.Publication.{Publication}

abbrev pub publication : ℕ → ℕ → Facts → Publication
publication serial seq facts = record { serial = serial; seq = seq; facts = facts }

-- the serials are 1, 2, 3 and so on
abbrev pub IsNumbered : List Publication → Type 0
IsNumbered list = (k : ℕ) (p : Publication) → slice_get list k ≡ Some p → p.serial ≡ k + 1

-- a publisher's list; which publisher it is of, the book tells
pub record Published : Type 0 where
  pub book : Book
  pub list : List Publication

abbrev pub published : {P : Type 0} → Seen Publication ℕ P → Published
published s = record { book = s.book; list = s.log }

-- ---- what is kept of the list

-- the first word is its length, and it is numbered
pub record IsKept (cells : List Cell) (list : List Publication) : Type 0 where
  pub words : cells ≡ (length list, true) ∷ (0, true) ∷ []
  pub numbered : IsNumbered list

-- where the word was as it was known, the publication is added to all that was known
abbrev pub Adds : Step Publication → View Publication ℕ → ℕ → View Publication ℕ → Type 0
Adds step known found after = found ≡ step.old → after.0 ≡ known.0 ++ step.ask ∷ []

-- the word with the list's length
abbrev pub length_of : Book → Named
length_of book = record { tracked = true; key = 0; book = book }
