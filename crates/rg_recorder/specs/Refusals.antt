-- For proofs alone: a refused ask changes nothing of what is kept.
use Rattle.std.specs.Prelude.{ℕ, Bool, true, false, List, Option, Some, None}
use Rattle.std.proofs.Common.{inl, inr}
use Rattle.rg_cmd.specs.declared.config.Config.{Config}
use Rattle.rg_admin_laws.specs.Logs.{Administration}
use Rattle.rg_admin_laws.specs.Steps.{refused}
use Rattle.rg_keep.specs.Keeping.{IsKept, IsKeptBy}
use Rattle.rg_keep.specs.Replay.{replayed}
use Rattle.rg_keep.proofs.Alike.{refused_alike}
use Rattle.rg_recorder.specs.Recorded.{HasOneMore, IsKeptOr, MayHaveOneMore}

list_refused : (list : List (List ℕ)) (config : Config) (a : Administration) → IsKeptBy config list a → IsKeptBy config list (refused a)
list_refused list config a is = record { starts = is.starts; lawful = is.lawful; good = is.good; agrees = refused_alike (replayed config list) a is.agrees }

more_refused : (list : List (List ℕ)) (config : Config) (a : Administration) → HasOneMore list config a → HasOneMore list config (refused a)
more_refused list config a (front, last, is, kept, good) = (front, last, is, list_refused front config a kept, good)

kept_refused : (told : Option (List (List ℕ))) (config : Config) (a : Administration) → IsKept told config a → IsKept told config (refused a)
kept_refused None config a is = is
kept_refused (Some list) config a is = list_refused list config a is

may_refused : (told : Option (List (List ℕ))) (config : Config) (a : Administration) → MayHaveOneMore told config a → MayHaveOneMore told config (refused a)
may_refused None config a is = is
may_refused (Some list) config a (inl is) = inl (list_refused list config a is)
may_refused (Some list) config a (inr is) = inr (more_refused list config a is)

pub held_refused : (stopped : Bool) (told : Option (List (List ℕ))) (config : Config) (a : Administration) → IsKeptOr stopped told config a → IsKeptOr stopped told config (refused a)
held_refused false told config a is = kept_refused told config a is
held_refused true told config a is = may_refused told config a is
