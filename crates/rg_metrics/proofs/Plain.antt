-- What is printed of how a service stands has no float, and nests one level.
use Rattle.std.proofs.Common.{◌≡◌, ℕ, Option, false, option_map, refl, arith}
use Rattle.serde_json.specs.Data.{string}
use Rattle.serde_json.specs.Written.{has_float}
use Rattle.rg_json.specs.Printing.{count_data, option_data}
use Rattle.rg_json.proofs.Plain.{Plain, bool_plain, count_plain, object_plain, option_plain}
use Rattle.rg_threads.specs.declared.halt.HaltCause.{HaltCause}
use Rattle.rg_metrics.specs.declared.standing.Standing.{Standing}
use Rattle.rg_metrics.specs.declared.watched.Newest.{Newest}
use Rattle.rg_metrics.specs.Standing.{cause_word, name_of, newest_data, standing_data, standing_members, stopped_data}

stopped_plain : (stopped : Option HaltCause) → Plain 0 (stopped_data stopped)
stopped_plain stopped = option_plain 0 (λ cause. string (cause_word cause)) stopped (λ cause. (refl, omega arith))

epoch_plain : (epoch : Option ℕ) → Plain 0 (option_data count_data epoch)
epoch_plain epoch = option_plain 0 count_data epoch (count_plain 0)

newest_plain : (number : Newest → ℕ) (newest : Option Newest) → Plain 0 (newest_data number newest)
newest_plain number newest = option_plain 0 count_data (option_map number newest) (count_plain 0)

standing_plain : (s : Standing) → Plain 1 (standing_data s)
unfolding standing_data
standing_plain s =
    object_plain name_of 0 1 (standing_members s) (omega arith) (
      count_plain 0 s.inside.dropped_sinks,
      (
        epoch_plain s.inside.epoch,
        (
          count_plain 0 s.kept,
          (
            newest_plain (λ (n : Newest). n.policy_version.0) s.inside.newest,
            (
              newest_plain (λ (n : Newest). n.role_version.0) s.inside.newest,
              (
                count_plain 0 s.seconds,
                (
                  newest_plain (λ (n : Newest). n.serial.0) s.inside.newest,
                  (
                    bool_plain 0 s.serving,
                    (stopped_plain s.stopped, (newest_plain (λ (n : Newest). n.tag_version.0) s.inside.newest, tt)),
                  ),
                ),
              ),
            ),
          ),
        ),
      ),
    )

pub standing_float : (s : Standing) → has_float (standing_data s) ≡ false
standing_float s = (standing_plain s).0

pub ruleset standings = (standing_float)
