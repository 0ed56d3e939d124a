use Rattle.std.proofs.Common.{ℕ, ◌<◌, get_or}
use Rattle.rg_rest.specs.declared.route.Route.TheVariants as the
use Rattle.rg_rest.specs.Patterns.{AreRoutes, HasPattern, path_routes, pattern_of}
use Rattle.rg_rest.proofs.path.Paths.new.Given as goal

-- the paths before the route's are there
abbrev pub invariant-loop-route : goal.invariant-loop-route
invariant-loop-route l = record { routes : AreRoutes l.patterns; has : (k : ℕ) → k < l.route-index → HasPattern (pattern_of (get_or path_routes k the.PutDef)) l.patterns }
