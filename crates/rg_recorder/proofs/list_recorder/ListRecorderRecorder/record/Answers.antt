use Rattle.std.proofs.Common.{sym, ◌∙◌}
use Rattle.std.proofs.lemmas.Result.{on_err_weaker, on_ok_weaker}
use Rattle.rg_recorder.specs.Recorded.{seen}
use Rattle.rg_recorder.specs.Recording.{Fails, Keeps}
use Rattle.rg_recorder.proofs.Held.{fails_held, held_looked, keeps_held, keeps_undone}
use Rattle.rg_recorder.proofs.list_recorder.ListRecorderRecorder.record.Goals as goal

pub returns-then-not-is_keeping-clause-kept : goal.returns-then-not-is_keeping-clause-kept
returns-then-not-is_keeping-clause-kept g c = λ a is none.
    let r = c.args.self.now in
    held_looked r.stopped (seen (g.K.Keeper.kept r.keeper) r.place r.next) r.config a c.args.ask.now (sym c.is_keeping.ensures ∙ c.if-not-is_keeping.true) none is

pub returns-clause-kept : goal.returns-clause-kept
returns-clause-kept g c =
    on_ok_weaker c.keep.result (λ (keeps : Keeps g.K.Keeper.kept c.args.self.now c.args.ask.now c.keep.new.self) a is none. keeps_held g.K.Keeper.kept c.args.self.now c.keep.new.self c.args.ask.now a c.keep.ensures.going keeps is none) c.keep.ensures.ok

pub returns-clause-undone : goal.returns-clause-undone
returns-clause-undone g c =
    on_ok_weaker c.keep.result (λ (keeps : Keeps g.K.Keeper.kept c.args.self.now c.args.ask.now c.keep.new.self) a is none. keeps_undone g.K.Keeper.kept c.args.self.now c.keep.new.self c.args.ask.now a c.keep.ensures.going keeps is none) c.keep.ensures.ok

pub returns-clause-unkept : goal.returns-clause-unkept
returns-clause-unkept g c =
    on_err_weaker c.keep.result (λ (fails : Fails g.K.Keeper.kept c.args.self.now c.args.ask.now c.keep.new.self) a is none. fails_held g.K.Keeper.kept c.args.self.now c.keep.new.self c.args.ask.now a c.keep.ensures.going fails is none) c.keep.ensures.err
