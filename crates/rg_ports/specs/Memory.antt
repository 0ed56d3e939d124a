-- What contracts see of the source, the sink, the link and the listener in memory.
use Rattle.std.specs.Prelude.{ℕ, ◌≡◌, ◌+◌, List, [], ◌∷◌, Bool, true, ◌==◌, ◌||◌, ◌&&◌, ◌++◌, nat_lt, drop, take, Option, Some, None}
use Rattle.rg_ports.specs.Calls.{CallState, succeeded}

-- the bytes to come, and whether a read has met the end
pub record UnreadState : Type 0 where
  pub left : List ℕ
  pub ended : Bool

-- after a read that put n bytes into a room for so many: the end was met where it put none into a room that isn't empty
abbrev pub after_reading : ℕ → ℕ → UnreadState → UnreadState
after_reading room n u = record { left = drop n u.left; ended = u.ended || (n == 0 && nat_lt 0 room) }

-- the bytes to come, whether a read has met the end, and the calls
pub record SourceState : Type 0 where
  pub left : List ℕ
  pub ended : Bool
  pub calls : CallState

-- after a read that put n bytes into a room for so many
abbrev pub after_read : ℕ → ℕ → SourceState → SourceState
after_read room n s = record { left = drop n s.left; ended = s.ended || (n == 0 && nat_lt 0 room); calls = succeeded s.calls }

-- the bytes taken, and the calls
pub record SinkState : Type 0 where
  pub held : List ℕ
  pub calls : CallState

-- after a write that took the first n bytes of the piece
abbrev pub after_write : List ℕ → ℕ → SinkState → SinkState
after_write piece n s = record { held = s.held ++ take n piece; calls = succeeded s.calls }

-- the bytes to come, whether a read has met the end, the bytes taken, and the calls of both kinds
pub record LinkState : Type 0 where
  pub left : List ℕ
  pub ended : Bool
  pub held : List ℕ
  pub calls : CallState

-- after a link's read that put n bytes into a room for so many
abbrev pub link_read : ℕ → ℕ → LinkState → LinkState
link_read room n l = record l { left = drop n l.left; ended = l.ended || (n == 0 && nat_lt 0 room); calls = succeeded l.calls }

-- after a link's write that took the first n bytes of the piece
abbrev pub link_write : List ℕ → ℕ → LinkState → LinkState
link_write piece n l = record l { held = l.held ++ take n piece; calls = succeeded l.calls }

-- the links to give, how many were given, whether there was none for an accept, and the calls
pub record ListenerState : Type 0 where
  pub links : List LinkState
  pub given : ℕ
  pub ended : Bool
  pub calls : CallState

-- an accept gave the first of the links; or it gave none, since there is none
abbrev pub Gives : ListenerState → Option LinkState → ListenerState → Type 0
Gives old None new = (old.links ≡ []) × (new ≡ record old { ended = true; calls = succeeded old.calls })
Gives old (Some link) new =
    (old.links ≡ link ∷ new.links)
    × (new ≡ record old { links = new.links; given = old.given + 1; calls = succeeded old.calls })
