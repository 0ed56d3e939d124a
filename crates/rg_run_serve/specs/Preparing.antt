-- For proofs alone: how the script of `serve` is held, and what it leaves.
use Rattle.std.specs.Prelude.{◌≡◌, ◌≤◌, ◌+◌, ◌++◌, ℕ, List, [], length, Option, Some, None}
use Rattle.rg_base.specs.declared.numbers.Moment.{Moment}
use Rattle.rg_cmd.specs.declared.ask.Ask.{Ask}
use Rattle.rg_admin_laws.specs.Logs.{Administration}
use Rattle.rg_admin_laws.specs.Starts.{IsStart}
use Rattle.rg_serve.specs.Opened.{IsAlone, Opened, present}
use Rattle.rg_run_script.specs.declared.status.Status.TheVariants.{Done, BadLine}
use Rattle.rg_run_script.specs.Follow.{Comes, Output}
use Rattle.rg_run_serve.specs.Serve.{AreRaised, Asked, Asking, IsOpened, after_asks, entries_of, printed_of, replies, taken}

abbrev pub asking : Option Administration → List Ask → Asking
asking None asks = None
asking (Some a) asks = Some (record { start = a; asks = asks })

-- an administration at its start, and what it is to be asked
abbrev pub IsPreparing : Option Administration → List Ask → Type 0
IsPreparing None asks = asks ≡ []
IsPreparing (Some a) asks = IsStart a

-- the service was asked these, and nothing else was done; where nobody else asked, the replies are those of the administration
pub record AreAsked (o : Opened) (asks : List Ask) (later : Opened) (text : List ℕ) : Type 0 where
  pub start : later.start ≡ o.start
  pub published : later.published ≡ o.published
  pub workers : later.workers ≡ o.workers
  pub calls : later.calls ≡ o.calls + length asks
  pub alone :
      IsAlone later →
      IsAlone o × (present later ≡ after_asks (present o) asks) × (text ≡ replies (present o) asks) × (later.history ≡ o.history ++ entries_of (present o) asks)

-- the service was asked these alone, and refreshed then
pub record IsReady (start : Administration) (asks : List Ask) (workers : ℕ) (o : Opened) (text : List ℕ) : Type 0 where
  pub opens : IsOpened (record { start = start; asks = asks }) o
  pub workers_are : o.workers ≡ workers
  pub entries : length o.history ≡ length asks + 1
  pub text_is : text ≡ replies start asks
  pub some : 1 ≤ length o.published
  pub raised : AreRaised start asks → 2 ≤ length o.published

-- the script of these bytes came to a bad line; or else the service is ready
abbrev pub IsPrepared : ℕ → List ℕ → Option (List Moment) → Option (List Moment) → List ℕ → Option Opened → Type 0
IsPrepared workers bytes clock clock' text None =
    (output : Output Asking) × Comes Asking taken bytes clock clock' [] output × (output.status ≡ BadLine) × (text ≡ printed_of output)
IsPrepared workers bytes clock clock' text (Some o) =
    (a : Asked) × (output : Output Asking) × Comes Asking taken bytes clock clock' [] output × (output.status ≡ Done) × (output.state ≡ Some a)
    × (output.text ≡ []) × IsReady a.start a.asks workers o text
