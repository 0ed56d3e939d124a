use Rattle.std.proofs.Common.{◌++◌, None, refl, subst}
use Rattle.rg_script.specs.declared.cause.Place.TheVariants as place
use Rattle.rg_run_script.specs.Hooked.{hooked, with_enrichers}
use Rattle.rg_run_replay.specs.declared.replay.Stage.TheVariants.{Empty}
use Rattle.rg_run_replay.specs.Replay.{replay_step_with}
use Rattle.rg_run_grants.specs.Grants.{grants_step}
use Rattle.rg_run_report.specs.Report.{report_step}
use Rattle.rg_check.specs.declared.command.Command.TheVariants as command
use Rattle.rg_check.specs.Checking.{begun}
use Rattle.rg_check.specs.Naming.{EndsAtFirst}
use Rattle.rg_check.proofs.ByPlace.{grants_alike, keep_ends_at_first, replays_alike}
use Rattle.rg_check.proofs.Grants.{grants_place}
use Rattle.rg_check.proofs.Naming.{ends_at_first, serve_ends_at_first}
use Rattle.rg_check.proofs.Replays.{enriched_place}
use Rattle.rg_check.proofs.laws.scripts_end_at_first.Goals as goal

pub returns-clause-replay : goal.returns-clause-replay
returns-clause-replay c = λ es lines moments later output e.
    subst (EndsAtFirst output)
    (replays_alike c.zones_apart_by_pairs.ensures c.plugin_is_always_viewed.ensures.viewed c.sound_without_cause.ensures es lines (moments ++ later))
    (ends_at_first command.Replay (with_enrichers replay_step_with) enriched_place (λ place. refl) (hooked Empty es) 1 lines moments later output e)

pub returns-clause-grants : goal.returns-clause-grants
returns-clause-grants c = λ es lines moments later output e.
    subst (EndsAtFirst output) (grants_alike c.zones_apart_by_pairs.ensures c.plugin_is_always_viewed.ensures.viewed c.sound_without_cause.ensures es lines (moments ++ later))
    (ends_at_first command.Grants (with_enrichers grants_step) grants_place (λ place. refl) (hooked None es) 1 lines moments later output e)

pub returns-clause-report : goal.returns-clause-report
returns-clause-report c = λ lines moments later output e. ends_at_first command.Report report_step (begun place.Facts) (λ place. refl) None 1 lines moments later output e

pub returns-clause-serve : goal.returns-clause-serve
returns-clause-serve c = serve_ends_at_first

pub returns-clause-keep : goal.returns-clause-keep
returns-clause-keep c = λ es records lines moments later output e good.
    keep_ends_at_first c.zones_apart_by_pairs.ensures c.plugin_is_always_viewed.ensures.viewed c.sound_without_cause.ensures es records lines moments later output e good
