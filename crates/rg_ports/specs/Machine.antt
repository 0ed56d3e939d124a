-- What contracts see of the source over a reader, of the sink over a writer, and of links and listeners over the network: nothing
-- of the bytes.
use Rattle.std.specs.Prelude.{ℕ, ◌==◌, ◌&&◌, ◌||◌, nat_lt, Bool}

-- whether a read has met the end, and how many calls failed
pub record ReaderState : Type 0 where
  pub ended : Bool
  pub faults : ℕ

-- after a read that put n bytes into a room for so many: the end was met where it put none into a room that isn't empty
abbrev pub after_machine_read : ℕ → ℕ → ReaderState → ReaderState
after_machine_read room n r = record r { ended = r.ended || (n == 0 && nat_lt 0 room) }

-- how many calls failed
pub record WriterState : Type 0 where
  pub faults : ℕ

-- how many links were given, and how many calls failed
pub record NetState : Type 0 where
  pub given : ℕ
  pub faults : ℕ
