-- The numbers of the types of changes.
use Rattle.std.specs.Prelude.{ℕ}

-- changes of type 0 created something, those of type 1 updated it, those of type 2 deleted it
abbrev pub created : ℕ
created = 0

abbrev pub updated : ℕ
updated = 1

abbrev pub deleted : ℕ
deleted = 2
