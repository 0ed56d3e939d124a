use Rattle.rg_recorder.proofs.Held.{begins_held}
use Rattle.rg_recorder.proofs.list_recorder.ListRecorder.new.Goals as goal

pub returns-clause-held : goal.returns-clause-held
returns-clause-held g c =
    begins_held (g.K.Keeper.kept c.args.keeper) (g.K.Keeper.kept c.fetch.new.self) c.in-Ok.next g.J.Configured.config c.fetch.ensures.same c.in-Ok.ensures.found c.requires.starts c.requires.lawful
