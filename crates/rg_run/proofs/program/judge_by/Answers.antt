use Rattle.rg_run.proofs.Hooks.{first_stays, others_stay, ran_first}
use Rattle.rg_run.proofs.program.judge_by.Goals as goal

pub returns-clause-run : goal.returns-clause-run
returns-clause-run g c =
    ran_first g.H.RequestHooks.sinks g.H.RequestHooks.enrichers g.W.HookedWorker.hooked_step c.args.worker c.args.hooks.now.items c.index_mut.result.now c.work_script_hooked-status.new.hooks
    _ _ _ c.requires c.index_mut.ensures.value c.work_script_hooked-status.ensures.run

pub returns-clause-unheard : goal.returns-clause-unheard
returns-clause-unheard g c =
    λ why. first_stays c.args.hooks.now.items c.index_mut.result.now c.work_script_hooked-status.new.hooks c.index_mut.ensures.value (c.work_script_hooked-status.ensures.unread why).1

pub returns-clause-others : goal.returns-clause-others
returns-clause-others g c = others_stay c.args.hooks.now.items c.work_script_hooked-status.new.hooks
