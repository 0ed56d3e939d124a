-- What contracts see of a fan and of enrichers. `D` and `Held` stand for the kinds of boxed objects.
use Rattle.std.specs.Prelude.{ℕ, List, map}
use Rattle.std.specs.List.{zip}
use Rattle.std.specs.declared.dyn_box.DynBox.{DynBox}
use Rattle.std.specs.declared.alloc.Global.{Global}
use Rattle.rg_policy.specs.declared.request.AccessRequest.{AccessRequest}
use Rattle.rg_hook.specs.Enriching.{Enriched, EnricherState, state_by}
use Rattle.rg_hook.specs.declared.enrichers.Enrichers.{Enrichers}
use Rattle.rg_hook.specs.declared.fan.AuditFan.{AuditFan}

-- the sinks, each with its number of failures
abbrev pub sinks_of : {D : Type 0} {Held : D → Type 0} → AuditFan D Held → List (DynBox D Global Held × ℕ)
sinks_of fan = zip fan.sinks.items fan.failures

-- the states of the enrichers, in their order. `meaning` and `remembered` are what an enricher tells
abbrev pub states_of : {D : Type 0} {Held : D → Type 0} → (DynBox D Global Held → List ℕ → AccessRequest → Enriched) → (DynBox D Global Held → List ℕ) → Enrichers D Held → List EnricherState
states_of meaning remembered es = map (state_by meaning remembered) es.list.items
