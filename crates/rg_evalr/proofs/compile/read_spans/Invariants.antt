use Rattle.std.proofs.Common.{◌≡◌, true, map, take, drop}
use Rattle.std.specs.List.{list_all}
use Rattle.rg_base.specs.Listed.{listed}
use Rattle.rg_cond.specs.PolicyRules.{schedule_reads}
use Rattle.rg_cond.specs.Spans.{span_of}
use Rattle.rg_evalr.proofs.compile.read_spans.Given as goal

-- the spans so far, and the schedules to come read
abbrev pub invariant-loop-schedule : goal.invariant-loop-schedule
invariant-loop-schedule l = record {
  made : l.spans ≡ listed (map (span_of l.time_zones) (take l.schedule-index l.schedules));
  left : list_all (schedule_reads l.time_zones) (drop l.schedule-index l.schedules) ≡ true;
}
