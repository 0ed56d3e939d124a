-- What holds of a line that is written.
use Rattle.std.proofs.Common.{Result, Ok, Err, OnOk}

-- what holds where the line is written
pub written_so : {A E : Type 0} (result : Result A E) (P Q : Type 0) → (P → Q) → OnOk result P → OnOk result Q
written_so (Ok x) P Q so p = so p
written_so (Err e) P Q so p = tt
