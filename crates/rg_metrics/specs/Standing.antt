-- What is printed of how a service stands.
use Rattle.std.specs.Prelude.{ℕ, List, [], ◌∷◌, Option, codes, option_map}
use Rattle.serde_json.specs.Data.{Data, string}
use Rattle.serde_json.specs.Written.{compact_text}
use Rattle.rg_json.specs.Printing.{bool_data, count_data, object_of, option_data}
use Rattle.rg_threads.specs.declared.halt.HaltCause.{HaltCause}
use Rattle.rg_threads.specs.declared.halt.HaltCause.TheVariants as cause
use Rattle.rg_metrics.specs.declared.standing.Standing.{Standing}
use Rattle.rg_metrics.specs.declared.standing.StandingKey.{StandingKey}
use Rattle.rg_metrics.specs.declared.standing.StandingKey.TheVariants as key
use Rattle.rg_metrics.specs.declared.watched.Newest.{Newest}

unfoldable pub name_of : StandingKey → List ℕ
name_of key.DroppedSinks = codes "droppedSinks"
name_of key.Epoch = codes "epoch"
name_of key.Kept = codes "keptCommands"
name_of key.PolicyVersion = codes "policyVersion"
name_of key.RoleVersion = codes "roleVersion"
name_of key.Seconds = codes "secondsSinceStart"
name_of key.Serial = codes "serial"
name_of key.Serving = codes "serving"
name_of key.Stopped = codes "stopped"
name_of key.TagVersion = codes "tagVersion"

unfoldable pub cause_word : HaltCause → List ℕ
cause_word cause.Failed = codes "keeper"
cause_word cause.Full = codes "full"

abbrev pub stopped_data : Option HaltCause → Data
stopped_data stopped = option_data (λ cause. string (cause_word cause)) stopped

-- a number of the newest publication; null where there is none
abbrev pub newest_data : (Newest → ℕ) → Option Newest → Data
newest_data number newest = option_data count_data (option_map number newest)

abbrev pub standing_members : Standing → List (StandingKey × Data)
standing_members s =
    (key.DroppedSinks, count_data s.inside.dropped_sinks)
    ∷ (key.Epoch, option_data count_data s.inside.epoch)
    ∷ (key.Kept, count_data s.kept)
    ∷ (key.PolicyVersion, newest_data (λ n. n.policy_version.0) s.inside.newest)
    ∷ (key.RoleVersion, newest_data (λ n. n.role_version.0) s.inside.newest)
    ∷ (key.Seconds, count_data s.seconds)
    ∷ (key.Serial, newest_data (λ n. n.serial.0) s.inside.newest)
    ∷ (key.Serving, bool_data s.serving)
    ∷ (key.Stopped, stopped_data s.stopped)
    ∷ (key.TagVersion, newest_data (λ n. n.tag_version.0) s.inside.newest)
    ∷ []

unfoldable pub standing_data : Standing → Data
standing_data s = object_of name_of (standing_members s)

unfoldable pub standing_text : Standing → List ℕ
standing_text s = compact_text (standing_data s)
