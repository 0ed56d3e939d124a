use Rattle.std.proofs.Common.{arith, ◌≤◌, ◌∷◌, refl, subst, sym}
use Rattle.rg_facts.specs.declared.facts.Facts.{Facts}
use Rattle.rg_admin_laws.specs.Logs.{Administration}
use Rattle.rg_admin_laws.specs.Machine.{Events, IsOpened, administration, after_events}
use Rattle.rg_admin_laws.specs.World.{opening}
use Rattle.rg_admin_laws.specs.World as world
use Rattle.rg_admin_laws.proofs.Happening.{Holds, happens_holds, learnt_is_seen, opens, run_append, run_holds, run_start, seen_never_falls}
use Rattle.rg_admin_laws.proofs.Lawful.{Starts, laws}
use Rattle.rg_admin_laws.proofs.laws.world.Goals as goal

holds : (start : Administration) (facts : Facts) (events : Events start) → IsOpened start facts → Holds (administration start.state.plugin) (Starts start.state.plugin) (laws start.state.plugin) (after_events start facts events)
holds start facts events opened =
    let P = administration start.state.plugin in
    run_holds P (Starts start.state.plugin) (laws start.state.plugin) events (opening P start facts)
    (opens P (Starts start.state.plugin) (laws start.state.plugin) start facts (opened.starts, refl) opened.viewed)

pub returns-clause-start : goal.returns-clause-start
returns-clause-start c = λ start facts events opened. run_start (administration start.state.plugin) events (opening (administration start.state.plugin) start facts)

pub returns-clause-legal : goal.returns-clause-legal
returns-clause-legal c = λ start facts events opened. (holds start facts events opened).legal

pub returns-clause-right : goal.returns-clause-right
returns-clause-right c = λ start facts events opened. (holds start facts events opened).right

pub returns-clause-answered : goal.returns-clause-answered
returns-clause-answered c = λ start facts events opened. (holds start facts events opened).answers

pub returns-clause-never_falls : goal.returns-clause-never_falls
returns-clause-never_falls c = λ start facts events more opened pass.
    let P = administration start.state.plugin in
    subst (λ (w : world.World P). (after_events start facts events).seen pass ≤ w.seen pass) (sym (run_append P events more (opening P start facts)))
    (seen_never_falls P (Starts start.state.plugin) (laws start.state.plugin) more (after_events start facts events) pass (holds start facts events opened))

pub returns-clause-learnt : goal.returns-clause-learnt
returns-clause-learnt c = λ start facts events more opened pass which n is.
    let P = administration start.state.plugin in
    let w = after_events start facts events in
    let next = world.happens P w (world.Event.Learn pass which) in
    let learnt = learnt_is_seen P (Starts start.state.plugin) (laws start.state.plugin) w pass which n is in
    let later = seen_never_falls P (Starts start.state.plugin) (laws start.state.plugin) more next pass (happens_holds P (Starts start.state.plugin) (laws start.state.plugin) w (world.Event.Learn pass which) (holds start facts events opened)) in
    subst (λ (x : world.World P). n ≤ x.seen pass) (sym (run_append P events (world.Event.Learn pass which ∷ more) (opening P start facts))) (omega (arith, learnt, later))
