-- How one more download joins those before it, or those after it.
use Rattle.std.proofs.Common.{◌≡◌, ◌⊎◌, ◌+◌, ℕ, List, [], ◌∷◌, ◌++◌, true, false, Some, Result, Ok, Err, IfOk, IfErr, inl, inr, refl, sym, ap, ◌∙◌, subst, arith}
use Rattle.rg_facts.specs.declared.facts.Facts.{Facts}
use Rattle.rg_cmd.specs.declared.download.Download.{Download}
use Rattle.rg_admin_laws.specs.Downloads.{From}
use Rattle.rg_admin_laws.specs.Laws.{from_of}
use Rattle.rg_admin_laws.specs.Leading.{led}
use Rattle.rg_admin_laws.specs.Machine.{is_unchanged}
use Rattle.rg_remote.specs.Remotes.{Far}
use Rattle.rg_remote.specs.declared.fault.AskFault.{AskFault}
use Rattle.rg_follow.specs.Answering.{from_nothing}
use Rattle.rg_follow.specs.Asking.{AreAsked, IsUnasked, WasAsked}
use Rattle.rg_follow.specs.Following.{HasSettled, HasSettledAnew, Moves, Strays, StraysAnew}
use Rattle.rg_follow.specs.Rounds.{Settles, begun, fits}
use Rattle.rg_follow.specs.declared.fault.FollowFault.{FollowFault}
use Rattle.rg_follow.specs.declared.fault.FollowFault.TheVariants.{Ask, Misfit, Unsettled, NoMemory}

pub moves_more : (had at : Facts) (ds : List Download) (d : Download) → Moves had ds at → is_unchanged d ≡ false → fits at d ≡ true
    → Moves had (ds ++ d ∷ []) (led at d)
moves_more had at [] d m changed fit = (changed, subst (λ f. fits f d ≡ true) (sym m) fit, ap (λ f. led f d) m)
moves_more had at (x ∷ ds) d m changed fit = (m.0, m.1, moves_more (led had x) at ds d m.2 changed fit)

pub settles_there : (had at : Facts) (ds : List Download) (d : Download) → Moves had ds at → is_unchanged d ≡ true → Settles had (ds ++ d ∷ []) at
settles_there had at [] d m same = (same, sym m)
settles_there had at (x ∷ []) d m same = (m.0, m.1, settles_there (led had x) at [] d m.2 same)
settles_there had at (x ∷ y ∷ ds) d m same = (m.0, m.1, settles_there (led had x) at (y ∷ ds) d m.2 same)

pub asked_more : (had at : Facts) (ds : List Download) (d : Download) (from : From) (old mid new : Far)
    → AreAsked had ds old mid → Moves had ds at → from ≡ from_of at
    → WasAsked from d mid new
    → AreAsked had (ds ++ d ∷ []) old new
asked_more had at [] d from old mid new a m e w = (
  new,
  subst (λ o. WasAsked (from_of had) d o new) (sym a)
      (subst (λ f. WasAsked f d mid new) (e ∙ ap from_of (sym m)) w),
  refl,
)
asked_more had at (x ∷ ds) d from old mid new a m e w = (a.0, a.1, asked_more (led had x) at ds d from a.0 mid new a.2 m.2 e w)

-- the last of these downloads doesn't fit, or memory was refused
pub strays : (most : ℕ) (had at : Facts) (ds : List Download) (d : Download) (fault : FollowFault) (old new : Far)
    → AreAsked had (ds ++ d ∷ []) old new → Moves had ds at → is_unchanged d ≡ false
    → ((fault ≡ Misfit) × (fits at d ≡ false)) ⊎ (fault ≡ NoMemory)
    → Strays most had fault old new
strays most had at ds d fault old new a m changed (inl misfit) = subst (λ f. Strays most had f old new) (sym misfit.0) (ds, d, at, a, m, changed, misfit.1)
strays most had at ds d fault old new a m changed (inr short) = subst (λ f. Strays most had f old new) (sym short) (tt {0})

-- after these downloads the next one wasn't had
pub unasked : (most : ℕ) (had at : Facts) (ds : List Download) (from : From) (fault : AskFault) (old mid new : Far)
    → AreAsked had ds old mid → Moves had ds at → from ≡ from_of at → IsUnasked from fault mid new
    → Strays most had (Ask fault) old new
unasked most had at ds from fault old mid new a m e why = (ds, at, mid, a, m, subst (λ f. IsUnasked f fault mid new) e why)

-- the download that was asked for from these facts changed something, fits, and leads to these others
pub record HasMoved (had at : Facts) (d : Download) (old new : Far) : Type 0 where
  pub asked : WasAsked (from_of had) d old new
  pub changed : is_unchanged d ≡ false
  pub fit : fits had d ≡ true
  pub leads : at ≡ led had d

-- where it was taken by a copy of the facts
pub has_moved : (had copy at : Facts) (d : Download) (from : From) (old new : Far) → from ≡ from_of had → WasAsked from d old new
    → is_unchanged d ≡ false → copy ≡ had → (at ≡ led copy d) × (fits copy d ≡ true)
    → HasMoved had at d old new
has_moved had copy at d from old new e w changed same taken = record {
  asked = subst (λ f. WasAsked f d old new) e w;
  changed = changed;
  fit = subst (λ f. fits f d ≡ true) same taken.1;
  leads = taken.0 ∙ ap (λ f. led f d) same;
}

-- no round settles by no download
settles_after : (had after : Facts) (d : Download) (ds : List Download) → is_unchanged d ≡ false → fits had d ≡ true
    → Settles (led had d) ds after
    → Settles had (d ∷ ds) after
settles_after had after d [] changed fit s = absurd s
settles_after had after d (e ∷ ds) changed fit s = (changed, fit, s)

settled_from_led : (had after : Facts) (d : Download) (old mid new : Far)
    → WasAsked (from_of had) d old mid → is_unchanged d ≡ false → fits had d ≡ true
    → HasSettled (led had d) after mid new
    → HasSettled had after old new
settled_from_led had after d old mid new w changed fit h = (d ∷ h.0, (mid, w, h.1), settles_after had after d h.0 changed fit h.2)

-- what settled after a first download settled
pub settled_after : (had at after : Facts) (d : Download) (old mid new : Far) → HasMoved had at d old mid
    → HasSettled at after mid new
    → HasSettled had after old new
settled_after had at after d old mid new first h =
    settled_from_led had after d old mid new first.asked first.changed first.fit (subst (λ f. HasSettled f after mid new) first.leads h)

strayed_from_led : (less most : ℕ) (had : Facts) (d : Download) (fault : FollowFault) (old mid new : Far) → less + 1 ≡ most
    → WasAsked (from_of had) d old mid → is_unchanged d ≡ false → fits had d ≡ true
    → Strays less (led had d) fault mid new
    → Strays most had fault old new
strayed_from_led less most had d (Ask fault) old mid new more w changed fit h =
    (d ∷ h.0, h.1, h.2, (mid, w, h.3), (changed, fit, h.4), h.5)
strayed_from_led less most had d Misfit old mid new more w changed fit h =
    (d ∷ h.0, h.1, h.2, (mid, w, h.3), (changed, fit, h.4), h.5, h.6)
strayed_from_led less most had d Unsettled old mid new more w changed fit h =
    (d ∷ h.0, h.1, (mid, w, h.2), (changed, fit, h.3), omega (arith, h.4, more))
strayed_from_led less most had d NoMemory old mid new more w changed fit h = tt {0}

-- what strayed after a first download strayed, of one more at most
pub strayed_after : (less most : ℕ) (had at : Facts) (d : Download) (fault : FollowFault) (old mid new : Far) → less + 1 ≡ most
    → HasMoved had at d old mid
    → Strays less at fault mid new
    → Strays most had fault old new
strayed_after less most had at d fault old mid new more first h =
    strayed_from_led less most had d fault old mid new more first.asked first.changed first.fit
    (subst (λ f. Strays less f fault mid new) first.leads h)

-- what settles after a first download settled anew
pub settled_anew : (service : List ℕ) (d : Download) (facts : Facts) (result : Result Facts FollowFault) (old mid new : Far)
    → WasAsked from_nothing d old mid → begun service d ≡ Some facts
    → IfOk result (λ after. HasSettled facts after mid new)
    → IfOk result (λ after. HasSettledAnew service after old new)
settled_anew service d facts (Ok after) old mid new w is h = (d ∷ h.0, (mid, facts, w, is, h.1), (facts, is, h.2))
settled_anew service d facts (Err fault) old mid new w is h = tt {0}

-- what strays after a first download strayed anew
pub strayed_anew : (most : ℕ) (service : List ℕ) (d : Download) (facts : Facts) (result : Result Facts FollowFault) (old mid new : Far)
    → WasAsked from_nothing d old mid → begun service d ≡ Some facts
    → IfErr result (λ f. Strays most facts f mid new)
    → IfErr result (λ f. StraysAnew most service f old new)
strayed_anew most service d facts (Ok after) old mid new w is h = tt {0}
strayed_anew most service d facts (Err (Ask fault)) old mid new w is h = inr (mid, d, facts, w, is, h)
strayed_anew most service d facts (Err Misfit) old mid new w is h = inr (mid, d, facts, w, is, h)
strayed_anew most service d facts (Err Unsettled) old mid new w is h = (mid, d, facts, w, is, h)
strayed_anew most service d facts (Err NoMemory) old mid new w is h = tt {0}
