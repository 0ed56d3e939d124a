-- How a round ends.
use Rattle.std.specs.Prelude.{◌≡◌, ℕ, List, [], ◌∷◌, ◌++◌, length, true, false, ◌⊎◌, Option, Some, None}
use Rattle.rg_facts.specs.declared.facts.Facts.{Facts}
use Rattle.rg_cmd.specs.declared.download.Download.{Download}
use Rattle.rg_admin_laws.specs.Laws.{from_of}
use Rattle.rg_admin_laws.specs.Leading.{led}
use Rattle.rg_admin_laws.specs.Machine.{is_unchanged}
use Rattle.rg_remote.specs.Remotes.{Far}
use Rattle.rg_remote.specs.declared.fault.AskFault.{AskFault}
use Rattle.rg_follow.specs.Answering.{from_nothing}
use Rattle.rg_follow.specs.Asking.{AreAsked, AreAskedAnew, IsUnasked, WasAsked}
use Rattle.rg_follow.specs.Rounds.{begun, fits, Settles, SettlesAnew}
use Rattle.rg_follow.specs.declared.fault.FollowFault.{FollowFault}
use Rattle.rg_follow.specs.declared.fault.FollowFault.TheVariants.{Ask, Misfit, Unsettled, NoMemory}

-- how often a round asks at most
abbrev pub most_downloads : ℕ
most_downloads = 9

-- downloads from these facts, one after another: each changes something and fits. What they lead to
abbrev pub Moves : Facts → List Download → Facts → Type 0
Moves facts [] after = facts ≡ after
Moves facts (d ∷ ds) after = (is_unchanged d ≡ false) × (fits facts d ≡ true) × Moves (led facts d) ds after

-- downloads from these facts settled at these others
abbrev pub HasSettled : Facts → Facts → Far → Far → Type 0
HasSettled had after old new = (ds : List Download) × AreAsked had ds old new × Settles had ds after

-- the same, where no facts say that nothing has changed
abbrev pub HasRenewed : Facts → Option Facts → Far → Far → Type 0
HasRenewed had None old new = HasSettled had had old new
HasRenewed had (Some after) old new = HasSettled had after old new

-- downloads moved on to facts that the last of them doesn't fit
abbrev pub HasMisfit : Facts → Far → Far → Type 0
HasMisfit had old new =
    (ds : List Download) × (d : Download) × (at : Facts) × AreAsked had (ds ++ d ∷ []) old new
    × Moves had ds at × (is_unchanged d ≡ false) × (fits at d ≡ false)

-- as many as a round may ask for changed something each
abbrev pub IsRestless : ℕ → Facts → Far → Far → Type 0
IsRestless most had old new =
    (ds : List Download) × (at : Facts) × AreAsked had ds old new × Moves had ds at × (length ds ≡ most)

-- downloads moved on to facts from whose versions the next one wasn't had
abbrev pub HasNoAnswer : Facts → AskFault → Far → Far → Type 0
HasNoAnswer had fault old new =
    (ds : List Download) × (at : Facts) × (mid : Far) × AreAsked had ds old mid × Moves had ds at × IsUnasked (from_of at) fault mid new

-- why a round of at most so many downloads from these facts led to nothing; where memory is refused, that is all
abbrev pub Strays : ℕ → Facts → FollowFault → Far → Far → Type 0
Strays most had (Ask fault) old new = HasNoAnswer had fault old new
Strays most had Misfit old new = HasMisfit had old new
Strays most had Unsettled old new = IsRestless most had old new
Strays most had NoMemory old new = Unit {0}

-- downloads from nothing settled at these facts
abbrev pub HasSettledAnew : List ℕ → Facts → Far → Far → Type 0
HasSettledAnew service after old new =
    (ds : List Download) × AreAskedAnew service ds old new × SettlesAnew service ds after

-- the first download was of these facts, and the others strayed
abbrev pub StraysFrom : ℕ → List ℕ → FollowFault → Far → Far → Type 0
StraysFrom most service fault old new =
    (mid : Far) × (d : Download) × (facts : Facts) × WasAsked from_nothing d old mid
    × (begun service d ≡ Some facts) × Strays most facts fault mid new

-- the first download isn't whole
abbrev pub IsPartial : List ℕ → Far → Far → Type 0
IsPartial service old new =
    (d : Download) × WasAsked from_nothing d old new × (begun service d ≡ None)

-- why a round from nothing led to nothing
abbrev pub StraysAnew : ℕ → List ℕ → FollowFault → Far → Far → Type 0
StraysAnew most service (Ask fault) old new = IsUnasked from_nothing fault old new ⊎ StraysFrom most service (Ask fault) old new
StraysAnew most service Misfit old new = IsPartial service old new ⊎ StraysFrom most service Misfit old new
StraysAnew most service Unsettled old new = StraysFrom most service Unsettled old new
StraysAnew most service NoMemory old new = Unit {0}
