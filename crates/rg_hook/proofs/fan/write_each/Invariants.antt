use Rattle.std.proofs.Common.{◌≡◌, ◌≤◌, drop, take, All}
use Rattle.std.specs.List.{AllZip, zip}
use Rattle.std.specs.Str.{chars}
use Rattle.rg_hook.specs.Sinks.{AfterLine, drop_at}
use Rattle.rg_hook.proofs.fan.write_each.Given as goal

-- the sinks before this place were given the line, and the others are as they were
abbrev pub invariant-loop-place : goal.invariant-loop-place
invariant-loop-place g l = record {
  given : AllZip (AfterLine (λ s. (goal.AuditSink-dyn g (s.vtable, s.value)).heard s.value) (λ s. (goal.AuditSink-dyn g (s.vtable, s.value)).sink_faults s.value) (chars l.line))
      (zip (take l.place l.fn.sinks) (take l.place l.fn.failures)) (zip (take l.place l.sinks) (take l.place l.failures));
  sinks : drop l.place l.sinks ≡ drop l.place l.fn.sinks;
  failures : drop l.place l.failures ≡ drop l.place l.fn.failures;
  within : All (λ n. n ≤ drop_at) l.failures;
}
