-- What is asked for, and what is written of it.
use Rattle.std.specs.Prelude.{◌≡◌, ℕ, List, ◌++◌, false, Option, codes}
use Rattle.rg_facts.specs.declared.facts.Facts.{Facts}
use Rattle.rg_download_wire.specs.PrintedFacts.{facts_text}
use Rattle.rg_remote.specs.Remotes.{Far}
use Rattle.rg_follow.specs.Faults.{is_short}
use Rattle.rg_follow.specs.Following.{HasSettledAnew, StraysAnew, most_downloads}
use Rattle.rg_follow.specs.declared.fault.FollowFault.{FollowFault}
use Rattle.rg_run_script.specs.Streams.{Wrote, WrotePrefix}
use Rattle.rg_run_script.specs.declared.status.Status.{Status}
use Rattle.rg_run_script.specs.declared.status.Status.TheVariants as the

-- a script of these facts: one line
abbrev pub script_of : Facts → List ℕ
script_of facts = codes "facts " ++ (facts_text facts ++ codes "\n")

-- downloads of the service settled, and of the script of what they settled at this was written: all, or a prefix where a call failed
pub record Settled (service : List ℕ) (old new : Far) (wrote : List ℕ → Type 0) : Type 0 where
  pub facts : Facts
  pub settled : HasSettledAnew service facts old new
  pub written : wrote (script_of facts)

-- downloads of the service led to nothing, and not for want of memory
pub record Strayed (service : List ℕ) (old new : Far) : Type 0 where
  pub fault : FollowFault
  pub strayed : StraysAnew most_downloads service fault old new
  pub is_told : is_short fault ≡ false

-- what each status says of who was asked, and of the sink
abbrev pub Views : List ℕ → Far → Far → Option (List ℕ) → Option (List ℕ) → Status → Type 0
Views service old new before after the.Done = Settled service old new (Wrote before after)
Views service old new before after the.WriteFault = Settled service old new (WrotePrefix before after)
Views service old new before after the.NetFault = Strayed service old new × (after ≡ before)
Views service old new before after the.NoMemory = after ≡ before
Views service old new before after the.Usage = ⊥
Views service old new before after the.BadLine = ⊥
Views service old new before after the.ReadFault = ⊥
Views service old new before after the.TooLong = ⊥
Views service old new before after the.KeepFault = ⊥
Views service old new before after the.BadRecord = ⊥
