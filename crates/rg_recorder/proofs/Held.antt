-- What a recorder has goes on being the administration.
use Rattle.std.proofs.Common.{◌≡◌, inl, inr, ⊎_elim, ℕ, Bool, true, false, List, [], ◌∷◌, ◌++◌, Option, Some, None, refl, sym, ap, subst}
use Rattle.std.proofs.lemmas.Option.{none-some}
use Rattle.rg_base.specs.Listed.{Listed}
use Rattle.rg_cmd.specs.declared.ask.Ask.{Ask}
use Rattle.rg_cmd.specs.declared.config.Config.{Config}
use Rattle.rg_admin_laws.specs.Logs.{Administration}
use Rattle.rg_admin_laws.specs.Starts.{IsStart}
use Rattle.rg_admin_laws.specs.Steps.{accepted, fault, step_by}
use Rattle.rg_admin.specs.Starting.{start_fault, started}
use Rattle.rg_record_store.specs.Keeping.{Gets, IsAt}
use Rattle.rg_ask_wire.specs.Asks.{ask_text}
use Rattle.rg_ask_wire.specs.Keeping.{is_keeping}
use Rattle.rg_keep.specs.Keeping.{Agree, IsKept, IsKeptBy}
use Rattle.rg_keep.specs.Replay.{first_bad, replayed, stepped}
use Rattle.rg_keep.proofs.Adding.{look_unkept}
use Rattle.rg_keep.proofs.Alike.{passes_kept}
use Rattle.rg_keep.proofs.Kept.{kept_more, kept_same}
use Rattle.rg_recorder.specs.Recorded.{HasOneMore, IsHeld, IsKeptOr, IsUndone, MayHaveOneMore, Recorded, seen}
use Rattle.rg_recorder.specs.Recording.{Fails, Gains, IsFitting, Keeps, Stays}

-- the step of an ask that breaks no rule
accepts : (a : Administration) (ask : Ask) → fault a.state ask ≡ None → (stepped a ask).0 ≡ accepted a ask.command
unfolding stepped
accepts a ask none = ap (λ o. (step_by o a ask).0) none

-- ---- a list

list_more : (list : List (List ℕ)) (config : Config) (a : Administration) (ask : Ask) → IsFitting (Some list) ask → fault a.state ask ≡ None → IsKeptBy config list a → IsKeptBy config (list ++ ask_text ask ∷ []) (accepted a ask.command)
list_more list config a ask fits none is =
    subst (IsKeptBy config (list ++ ask_text ask ∷ [])) (accepts a ask none)
    (kept_more config list a ask is (record { kept = passes_kept a ask fits.keeps none; reads = fits.reads; room = fits.room }))

list_looked : (list : List (List ℕ)) (config : Config) (a : Administration) (ask : Ask) → is_keeping ask.command ≡ false → fault a.state ask ≡ None → IsKeptBy config list a → IsKeptBy config list (accepted a ask.command)
list_looked list config a ask looks none is = subst (IsKeptBy config list) (accepts a ask none) (kept_same config list a ask is (look_unkept a ask looks))

-- ---- what is told of it

may_keep : (told : Option (List (List ℕ))) (config : Config) (a : Administration) → IsKept told config a → MayHaveOneMore told config a
may_keep None config a is = tt
may_keep (Some list) config a is = inl is

-- it would be the administration if the recorder ended here
pub ends_held : (stopped : Bool) (told : Option (List (List ℕ))) (config : Config) (a : Administration) → IsKeptOr stopped told config a → MayHaveOneMore told config a
ends_held false told config a is = may_keep told config a is
ends_held true told config a is = is

told_more : (told new : Option (List (List ℕ))) (config : Config) (a : Administration) (ask : Ask) → IsFitting told ask → fault a.state ask ≡ None → Gets told (ask_text ask) new → IsKept told config a → IsKept new config (accepted a ask.command)
told_more None new config a ask fits none gets is = subst (λ t. IsKept t config (accepted a ask.command)) (sym gets) tt
told_more (Some list) new config a ask fits none gets is = subst (λ t. IsKept t config (accepted a ask.command)) (sym gets) (list_more list config a ask fits none is)

-- the record of an ask that isn't done
told_undone : (told new : Option (List (List ℕ))) (config : Config) (a : Administration) (ask : Ask) → IsFitting told ask → fault a.state ask ≡ None → Gets told (ask_text ask) new → IsKept told config a → MayHaveOneMore new config a
told_undone None new config a ask fits none gets is = subst (λ t. MayHaveOneMore t config a) (sym gets) tt
told_undone (Some list) new config a ask fits none gets is = subst (λ t. MayHaveOneMore t config a) (sym gets) (inr (list, ask_text ask, refl, is, (list_more list config a ask fits none is).good))

told_looked : (told : Option (List (List ℕ))) (config : Config) (a : Administration) (ask : Ask) → is_keeping ask.command ≡ false → fault a.state ask ≡ None → IsKept told config a → IsKept told config (accepted a ask.command)
told_looked None config a ask looks none is = tt
told_looked (Some list) config a ask looks none is = list_looked list config a ask looks none is

more_looked : (list : List (List ℕ)) (config : Config) (a : Administration) (ask : Ask) → is_keeping ask.command ≡ false → fault a.state ask ≡ None → HasOneMore list config a → HasOneMore list config (accepted a ask.command)
more_looked list config a ask looks none (front, last, is, kept, good) = (front, last, is, list_looked front config a ask looks none kept, good)

may_looked : (told : Option (List (List ℕ))) (config : Config) (a : Administration) (ask : Ask) → is_keeping ask.command ≡ false → fault a.state ask ≡ None → MayHaveOneMore told config a → MayHaveOneMore told config (accepted a ask.command)
may_looked None config a ask looks none is = tt
may_looked (Some list) config a ask looks none (inl is) = inl (list_looked list config a ask looks none is)
may_looked (Some list) config a ask looks none (inr is) = inr (more_looked list config a ask looks none is)

-- an ask that only looks
pub held_looked : (stopped : Bool) (told : Option (List (List ℕ))) (config : Config) (a : Administration) (ask : Ask) → is_keeping ask.command ≡ false → fault a.state ask ≡ None → IsKeptOr stopped told config a
    → IsKeptOr stopped told config (accepted a ask.command)
held_looked false told config a ask looks none is = told_looked told config a ask looks none is
held_looked true told config a ask looks none is = may_looked told config a ask looks none is

-- ---- where nothing is passed by yet

none_kept : (config : Config) → IsStart (started config) → start_fault config ≡ None → IsKeptBy config [] (started config)
unfolding Agree first_bad replayed
none_kept config start lawful = record { starts = start; lawful = lawful; good = refl; agrees = refl }

none_seen : (told : Option (List (List ℕ))) (next : Option (Listed ℕ)) (config : Config) → IsAt told 0 next → IsStart (started config) → start_fault config ≡ None → IsKept (seen told 0 next) config (started config)
none_seen None None config at start lawful = tt
none_seen None (Some next) config at start lawful = tt
none_seen (Some []) None config at start lawful = none_kept config start lawful
none_seen (Some (x ∷ list)) None config at start lawful = absurd (none-some x at)
none_seen (Some list) (Some next) config at start lawful = none_kept config start lawful

pub begins_held : (told new : Option (List (List ℕ))) (next : Option (Listed ℕ)) (config : Config) → new ≡ told → IsAt told 0 next → IsStart (started config) → start_fault config ≡ None → IsKept (seen new 0 next) config (started config)
begins_held told new next config stays at start lawful = subst (λ t. IsKept (seen t 0 next) config (started config)) (sym stays) (none_seen told next config at start lawful)

-- ---- an ask that is to be kept

module _ {K : Type 0} (kept : K → Option (List (List ℕ))) (old new : Recorded K) (ask : Ask) (a : Administration) where
  abbrev before : Option (List (List ℕ))
  before = seen (kept old.keeper) old.place old.next

  abbrev after : Option (List (List ℕ))
  after = seen (kept new.keeper) new.place new.next

  going : old.stopped ≡ false → IsHeld kept old a → IsKept before old.config a
  going on is = subst (λ b. IsKeptOr b before old.config a) on is

  more : old.stopped ≡ false → IsFitting before ask → Gains kept old (ask_text ask) new → IsHeld kept old a → fault a.state ask ≡ None → IsKept after new.config (accepted a ask.command)
  more on fits gains is none =
      subst (λ (c : Config). IsKept after c (accepted a ask.command)) (sym gains.config) (told_more before after old.config a ask fits none gains.gets (going on is))

  undone : old.stopped ≡ false → IsFitting before ask → Gains kept old (ask_text ask) new → IsHeld kept old a → fault a.state ask ≡ None → MayHaveOneMore after new.config a
  undone on fits gains is none =
      subst (λ (c : Config). MayHaveOneMore after c a) (sym gains.config) (told_undone before after old.config a ask fits none gains.gets (going on is))

  pub keeps_held : old.stopped ≡ false → Keeps kept old ask new → IsHeld kept old a → fault a.state ask ≡ None → IsHeld kept new (accepted a ask.command)
  keeps_held on keeps is none = subst (λ b. IsKeptOr b after new.config (accepted a ask.command)) (sym keeps.1.1) (more on keeps.0 keeps.1.0 is none)

  pub keeps_undone : old.stopped ≡ false → Keeps kept old ask new → IsHeld kept old a → fault a.state ask ≡ None → IsUndone kept new a
  keeps_undone on keeps is none = undone on keeps.0 keeps.1.0 is none

  may_stop : (stopped : Bool) → IsKept after new.config a → IsKeptOr stopped after new.config a
  may_stop false is = is
  may_stop true is = may_keep after new.config a is

  stays_held : Stays kept old new → IsKept before old.config a → IsHeld kept new a
  stays_held stays is =
      may_stop new.stopped (subst (λ (c : Config). IsKept after c a) (sym stays.config) (subst (λ t. IsKept t old.config a) (sym stays.seen_same) is))

  pub fails_held : old.stopped ≡ false → Fails kept old ask new → IsHeld kept old a → fault a.state ask ≡ None → IsHeld kept new a
  fails_held on fails is none = ⊎_elim
      (λ (stays : Stays kept old new). stays_held stays (going on is))
      (λ (gone : IsFitting before ask × Gains kept old (ask_text ask) new × (new.stopped ≡ true)).
      subst (λ b. IsKeptOr b after new.config a) (sym gone.2) (undone on gone.0 gone.1 is none))
      fails
