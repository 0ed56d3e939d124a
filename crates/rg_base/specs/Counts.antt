-- How often each kind of counted work was done.
use Rattle.std.specs.Prelude.{ℕ, ◌+◌}

pub record Counts : Type 0 where
  pub compiles : ℕ
  pub edits : ℕ
  pub tries : ℕ

abbrev pub zeros : Counts
zeros = record { compiles = 0; edits = 0; tries = 0 }

abbrev pub one_compile : Counts → Counts
one_compile c = record { compiles = c.compiles + 1; edits = c.edits; tries = c.tries }

abbrev pub one_edit : Counts → Counts
one_edit c = record { compiles = c.compiles; edits = c.edits + 1; tries = c.tries }

abbrev pub one_try : Counts → Counts
one_try c = record { compiles = c.compiles; edits = c.edits; tries = c.tries + 1 }
