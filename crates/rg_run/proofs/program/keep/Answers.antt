use Rattle.std.proofs.Common.{◌∙◌, sym}
use Rattle.rg_run_keep.specs.Custody.{shelf}
use Rattle.rg_run.proofs.Hooks.{first_stays, kept_first, others_stay}
use Rattle.rg_run.proofs.program.keep.Goals as goal

pub returns-clause-run : goal.returns-clause-run
returns-clause-run g c =
    let before = c.unwrap-held.result in
    let after = c.keep_script-held.result.0 in
    rw (sym c.take.ensures.value ∙ c.unwrap-held.ensures)
    (kept_first g.H.RequestHooks.sinks g.H.RequestHooks.enrichers
    (shelf (g.P.Keeper.kept before) (g.P.Keeper.faults before)) (shelf (g.P.Keeper.kept after) (g.P.Keeper.faults after))
    c.args.hooks.now.items c.index_mut.result.now c.keep_script-held.new.hooks _ _ _
    c.requires.workers c.index_mut.ensures.value c.keep_script-held.ensures.run)

pub returns-clause-unheard : goal.returns-clause-unheard
returns-clause-unheard g c =
    λ why. first_stays c.args.hooks.now.items c.index_mut.result.now c.keep_script-held.new.hooks c.index_mut.ensures.value (c.keep_script-held.ensures.unread why).1

pub returns-clause-others : goal.returns-clause-others
returns-clause-others g c = others_stay c.args.hooks.now.items c.keep_script-held.new.hooks
