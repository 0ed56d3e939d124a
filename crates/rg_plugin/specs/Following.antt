-- What a plugin has, and what a round does to it.
use Rattle.std.specs.Prelude.{◌≡◌, ◌⊎◌, ◌+◌, ◌||◌, ℕ, List, [], ◌∷◌, ◌++◌, length, Bool, true, false, MatchBool, Option, Some, None}
use Rattle.rg_facts.specs.declared.facts.Facts.{Facts}
use Rattle.rg_facts.specs.Sound.{sound}
use Rattle.rg_cache.specs.Places.{Held}
use Rattle.rg_follow.specs.Following.{HasRenewed, HasSettledAnew, Strays, StraysAnew, most_downloads}
use Rattle.rg_follow.specs.declared.fault.FollowFault.{FollowFault}
use Rattle.rg_health.specs.declared.cause.Cause.{Cause}
use Rattle.rg_health.specs.declared.cause.Cause.TheVariants.{Memory, Unsound}
use Rattle.rg_publish.specs.Passes.{Ends}
use Rattle.rg_publish.specs.Publications.{Published, publication}
use Rattle.rg_remote.specs.Remotes.{Far}
use Rattle.rg_plugin.specs.Causes.{cause_of, is_delta}

-- its publications, what its cache holds, where that is told, and how often the cache failed, its service, whether the next round begins
-- from no version, and whether the newest publication is still to be kept
pub record Following : Type 0 where
  pub published : Published
  pub held : Held
  pub faults : ℕ
  pub service : List ℕ
  pub is_anew : Bool
  pub is_unkept : Bool

-- ---- what was downloaded

-- from no version there are always facts
abbrev pub HasBegun : List ℕ → Option Facts → Far → Far → Type 0
HasBegun service None before after = ⊥
HasBegun service (Some facts) before after = HasSettledAnew service facts before after

-- a round settled at these facts; none say that nothing has changed since the newest publication
abbrev pub HasSettledAt : Following → Option Facts → Far → Far → Type 0
HasSettledAt plugin facts before after =
    MatchBool plugin.is_anew (HasBegun plugin.service facts before after) (Ends plugin.published.list (λ p. HasRenewed p.facts facts before after))

-- a round led to nothing
abbrev pub HasStrayed : Following → FollowFault → Far → Far → Type 0
HasStrayed plugin fault before after = MatchBool plugin.is_anew
    (StraysAnew most_downloads plugin.service fault before after)
    (Ends plugin.published.list (λ p. Strays most_downloads p.facts fault before after))

-- ---- what is published

-- these facts are sound, and stand behind all that was published
abbrev pub HasPublished : Published → Facts → Published → Type 0
HasPublished old facts new = (sound facts ≡ true) × (new.list ≡ old.list ++ publication (length old.list + 1) 0 facts ∷ [])

-- facts that aren't published are unsound, or memory was refused
abbrev pub IsUnfit : Facts → Cause → Type 0
IsUnfit facts cause = ((cause ≡ Unsound) × (sound facts ≡ false)) ⊎ (cause ≡ Memory)

-- A round that settled: where it found a change, what it settled at is published, and else what was published last is what the
-- administration's answers still lead to.
abbrev pub HasFollowed : Following → Bool → Following → Far → Far → Type 0
HasFollowed old true new before after =
    (facts : Facts) × HasSettledAt old (Some facts) before after × HasPublished old.published facts new.published × (new.is_anew ≡ false)
HasFollowed old false new before after = HasSettledAt old None before after × (new ≡ old)

-- A round that failed publishes nothing. It settled at facts that are unfit, or it strayed; after a delta that doesn't fit the next one
-- begins from no version.
abbrev pub HasFailed : Following → Cause → Following → Far → Far → Type 0
HasFailed old cause new before after =
    (new.published ≡ old.published)
    × (((facts : Facts) × HasSettledAt old (Some facts) before after × IsUnfit facts cause × (new.is_anew ≡ old.is_anew))
    ⊎ ((fault : FollowFault) × HasStrayed old fault before after × (cause ≡ cause_of fault) × (new.is_anew ≡ (old.is_anew || is_delta cause))))
