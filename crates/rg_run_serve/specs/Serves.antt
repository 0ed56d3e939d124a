-- What stands after `serve`, by the status. To be read after Serve.
use Rattle.std.specs.Prelude.{◌≡◌, ◌⊎◌, ◌<◌, ◌++◌, ℕ, List, [], Option, Some}
use Rattle.rg_base.specs.declared.numbers.Moment.{Moment}
use Rattle.rg_run_script.specs.declared.status.Status.{Status}
use Rattle.rg_run_script.specs.declared.status.Status.TheVariants.{Done, Usage, BadLine, ReadFault, WriteFault, NetFault, TooLong, KeepFault, NoMemory, BadRecord}
use Rattle.rg_run_script.specs.Follow.{Output}
use Rattle.rg_run_script.specs.Ports.{Ports}
use Rattle.rg_run_script.specs.Runs.{Follows, Overran, too_long_text}
use Rattle.rg_run_script.specs.Streams.{Wrote, WrotePrefix}
use Rattle.rg_run_serve.specs.Serve.{AreTotals, Asked, Asking, Door, Numbers, printed_of, replies_to, taken, totals_line}

-- all lines of the script were taken; its moments were given, and more since
abbrev pub IsTakenWhole : Ports → Ports → Asked → Type 0
IsTakenWhole p q a = (now : Option (List Moment)) × (output : Output Asking) × Follows Asking taken p (record q { given = now }) [] output
    × (output.status ≡ Done) × (output.state ≡ Some a)

-- what stands after so many links at most were served by so many workers, by the status
abbrev pub Serves : ℕ → ℕ → Door → Door → Ports → Ports → Status → Type 0
Serves most workers d e p q Done = (a : Asked) × (t : Numbers) × IsTakenWhole p q a × AreTotals most workers a d e t × Wrote p.held q.held (replies_to a ++ totals_line t)
Serves most workers d e p q NetFault = (a : Asked) × IsTakenWhole p q a × Wrote p.held q.held (replies_to a)
Serves most workers d e p q BadLine =
    (output : Output Asking) × Follows Asking taken p q [] output × (output.status ≡ BadLine) × Wrote p.held q.held (printed_of output) × (e ≡ d)
Serves most workers d e p q ReadFault = (q.held ≡ p.held) × (q.given ≡ p.given) × (e ≡ d)
Serves most workers d e p q TooLong = Overran p.left q.left × (q.given ≡ p.given) × Wrote p.held q.held too_long_text × (e ≡ d)
Serves most workers d e p q WriteFault =
    (Overran p.left q.left × (q.given ≡ p.given) × WrotePrefix p.held q.held too_long_text × (e ≡ d))
    ⊎ (((output : Output Asking) × Follows Asking taken p q [] output × WrotePrefix p.held q.held (printed_of output) × (e ≡ d))
    ⊎ ((a : Asked) × (t : Numbers) × IsTakenWhole p q a × AreTotals most workers a d e t × WrotePrefix p.held q.held (replies_to a ++ totals_line t)))
Serves most workers d e p q NoMemory =
    ((q.held ≡ p.held) × (e ≡ d)) ⊎ ((a : Asked) × IsTakenWhole p q a × Wrote p.held q.held (replies_to a))
Serves most workers d e p q Usage = ⊥
Serves most workers d e p q KeepFault = ⊥
Serves most workers d e p q BadRecord = ⊥

-- the listener's count of faults rose where the status says that it failed, and else it stayed
abbrev pub CountsLinks : Door → Door → Status → Type 0
CountsLinks d e NetFault = d.faults < e.faults
CountsLinks d e _ = e.faults ≡ d.faults

abbrev pub ServesLinks : ℕ → ℕ → Door → Door → Ports → Ports → Status → Type 0
ServesLinks most workers d e p q status = Serves most workers d e p q status × CountsLinks d e status
