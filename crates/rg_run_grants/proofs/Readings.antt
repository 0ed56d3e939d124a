-- What an answered line says of the reading.
use Rattle.std.proofs.Common.{◌≡◌, Option, Some, None, Result, Ok, Err, IfOk}
use Rattle.rg_script.specs.declared.line.LineFault.{LineFault}
use Rattle.rg_script.specs.declared.line.LineFault.TheVariants.{Bad, NoMemory}
use Rattle.rg_run_grants.specs.declared.line.GrantLine.{GrantLine}
use Rattle.rg_run_grants.specs.Lines.{Reads}

pub read_so : (result : Result GrantLine LineFault) (wanted : Option GrantLine) → Reads result wanted → IfOk result (λ read. wanted ≡ Some read)
read_so (Ok read) wanted reads = reads
read_so (Err fault) wanted reads = tt

pub bad_so : (result : Result GrantLine LineFault) (wanted : Option GrantLine) → Reads result wanted → result ≡ Err Bad → wanted ≡ None
bad_so (Ok read) wanted reads is = absurd (cc is)
bad_so (Err Bad) wanted reads is = reads
bad_so (Err NoMemory) wanted reads is = absurd (cc is)
