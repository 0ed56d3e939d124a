-- The statuses of the program, as numbers.
use Rattle.std.specs.Prelude.{ℕ}
use Rattle.rg_run_script.specs.declared.status.Status.{Status}
use Rattle.rg_run_script.specs.declared.status.Status.TheVariants.{Done, Usage, BadLine, ReadFault, WriteFault, NetFault, TooLong, KeepFault, NoMemory, BadRecord}

abbrev pub number_of : Status → ℕ
number_of Done = 0
number_of Usage = 1
number_of BadLine = 2
number_of ReadFault = 3
number_of WriteFault = 4
number_of NetFault = 5
number_of TooLong = 6
number_of KeepFault = 8
number_of NoMemory = 9
number_of BadRecord = 10
