-- What is found goes by places alone, for every command.
use Rattle.std.proofs.Common.{◌≡◌, ◌∙◌, ◌++◌, ℕ, List, [], Some, None, is_none, refl, sym, subst}
use Rattle.rg_base.specs.Texts.{all_distinct}
use Rattle.rg_base.specs.declared.numbers.Moment.{Moment}
use Rattle.rg_defs.specs.declared.service_def.ServiceDef.{ServiceDef}
use Rattle.rg_facts.specs.Sound.{sound}
use Rattle.rg_facts.specs.declared.facts.Facts.{Facts}
use Rattle.rg_facts_check.specs.Causes.{no_cause, unsound_causes}
use Rattle.rg_zone_rules.specs.Overlap.{first_overlap, zones_overlap}
use Rattle.rg_zone_rules.specs.declared.row.ZoneRow.{ZoneRow}
use Rattle.rg_cmd.specs.declared.ask.AdminReply.{AdminReply}
use Rattle.rg_cmd.specs.declared.ask.Ask.{Ask}
use Rattle.rg_turn.specs.History.{state_at}
use Rattle.rg_turn.specs.declared.rule.Entry.{Entry}
use Rattle.rg_admin_laws.specs.Logs.{Administration}
use Rattle.rg_admin_laws.specs.Starts.{IsStart}
use Rattle.rg_admin_laws.specs.Steps.{step}
use Rattle.rg_admin_laws.specs.Views.{view}
use Rattle.rg_hook.specs.Enriching.{EnricherState}
use Rattle.rg_script.specs.declared.cause.Place.TheVariants as place
use Rattle.rg_run_script.specs.Follow.{Output}
use Rattle.rg_run_script.specs.Hooked.{Hooked, hooked, with_enrichers}
use Rattle.rg_run_replay.specs.declared.replay.Stage.TheVariants.{Empty}
use Rattle.rg_run_replay.specs.Replay.{replay_step, replay_step_with}
use Rattle.rg_run_grants.specs.Grants.{grants_step}
use Rattle.rg_run_report.specs.Report.{report_step}
use Rattle.rg_run_keep.specs.Keeps.{State as Keeping, at, keep_step, keeps}
use Rattle.rg_run_serve.specs.Serve.{serve_step}
use Rattle.rg_check.specs.declared.command.Command.{Command}
use Rattle.rg_check.specs.declared.command.Command.TheVariants as command
use Rattle.rg_check.specs.Checking.{begun, found, found_by, keep_place, replay_place}
use Rattle.rg_check.specs.Naming.{EndsAtFirst}
use Rattle.rg_check.specs.Walking.{found_from}
use Rattle.rg_check.proofs.Agreeing.{all_lines}
use Rattle.rg_check.proofs.Grants.{HasStarted, grants_agree, grants_place}
use Rattle.rg_check.proofs.Keeps.{IsFresh, keep_ends, keeps_agree}
use Rattle.rg_check.proofs.Replays.{HasPublished, HasPublishedSo, enriched_place, enriched_replays_agree, replays_agree}
use Rattle.rg_check.proofs.Reports.{IsAny as IsAnyReport, reports_agree}
use Rattle.rg_check.proofs.Serves.{IsAny as IsAnyAsk, serves_agree}

module _ (by_pairs : (service : List ℕ) (def : ServiceDef) (zones : List ZoneRow) → is_none (first_overlap service def zones) ≡ all_distinct (zones_overlap service def) zones)
    (viewed : (start : Administration) (h : List (Entry Ask AdminReply)) → IsStart start → (k : ℕ) → (f : Facts) × (view (state_at step start h k) start.state.plugin ≡ Some f))
    (decides : (facts : Facts) → no_cause (unsound_causes facts) ≡ sound facts) where
  pub by_place : (command : Command) (lines : List (List ℕ)) (moments : List Moment) → found_from command place.Start 1 lines moments ≡ found_by command lines moments
  by_place command.Replay = all_lines command.Replay replay_step replay_place HasPublished (replays_agree by_pairs viewed decides) Empty tt 1
  by_place command.Grants = all_lines command.Grants (with_enrichers grants_step) grants_place HasStarted (grants_agree by_pairs viewed) (hooked None []) tt 1
  by_place command.Report = all_lines command.Report report_step (begun place.Facts) IsAnyReport (reports_agree decides) None tt 1
  by_place command.Keep = all_lines command.Keep (with_enrichers keep_step) keep_place IsFresh (keeps_agree by_pairs viewed) (hooked (at None []) []) (refl, refl) 1
  by_place command.Serve = all_lines command.Serve serve_step (begun place.Config) IsAnyAsk serves_agree None tt 1

  -- whatever the enrichers
  pub replays_alike : (es : List EnricherState) (lines : List (List ℕ)) (moments : List Moment)
      → found command.Replay (with_enrichers replay_step_with) enriched_place (hooked Empty es) 1 lines moments ≡ found_by command.Replay lines moments
  replays_alike es lines moments =
      sym (all_lines command.Replay (with_enrichers replay_step_with) enriched_place HasPublishedSo (enriched_replays_agree by_pairs viewed decides) (hooked Empty es) tt 1 lines moments)
      ∙ by_place command.Replay lines moments

  pub grants_alike : (es : List EnricherState) (lines : List (List ℕ)) (moments : List Moment)
      → found command.Grants (with_enrichers grants_step) grants_place (hooked None es) 1 lines moments ≡ found_by command.Grants lines moments
  grants_alike es lines moments =
      sym (all_lines command.Grants (with_enrichers grants_step) grants_place HasStarted (grants_agree by_pairs viewed) (hooked None es) tt 1 lines moments)
      ∙ by_place command.Grants lines moments

  -- the same for the records that were found, where none is bad
  pub keep_ends_at_first : (es : List EnricherState) (records lines : List (List ℕ)) (ms later : List Moment) (o : Output (Hooked Keeping)) → keeps es records lines ms ≡ Some o
      → o.state.state.bad ≡ None → EndsAtFirst o (found_by command.Keep lines (ms ++ later))
  keep_ends_at_first es records lines ms later o e good =
      subst (EndsAtFirst o) (by_place command.Keep lines (ms ++ later)) (keep_ends by_pairs viewed (hooked (at None records) es) (refl, tt) 1 lines ms later o e good)
