use Rattle.std.proofs.Common.{◌≡◌, ◌+◌, false, ap, sym, ◌∙◌, subst}
use Rattle.rg_record_store.specs.Keeping.{Gets}
use Rattle.rg_recorder.specs.Recorded.{Recorded, seen}
use Rattle.rg_recorder.specs.Recording.{IsNext}
use Rattle.rg_recorder.proofs.Places.{passed}
use Rattle.rg_recorder.proofs.list_recorder.ListRecorder.pass_by.Goals as goal

pub returns-in_ok-announce-in-Ok-clause-ok : goal.returns-in_ok-announce-in-Ok-clause-ok
returns-in_ok-announce-in-Ok-clause-ok g c = λ entry at.
    let kept = g.K.Keeper.kept in
    let going : c.self.inside.is_stopped ≡ false = ap (λ (r : Recorded g.row.K.Denot). r.stopped) c.self.view_is ∙ c.requires.going in
    let next : IsNext c.self.inside.next entry = subst (λ (r : Recorded g.row.K.Denot). IsNext r.next entry) (sym c.self.view_is) at in
    let gets : Gets (seen (kept c.self.inside.keeper) c.self.inside.place c.self.inside.next) entry (seen (kept c.fetch.new.self) (c.self.inside.place + 1) c.in-Ok.found) =
    passed (kept c.self.inside.keeper) (kept c.fetch.new.self) c.self.inside.place c.self.inside.next c.in-Ok.found entry c.fetch.ensures.same (c.self.invariant going) c.in-Ok.ensures.found next in (
      record {
        config = ap (λ (r : Recorded g.row.K.Denot). r.config) c.self.view_is;
        gets = subst (λ (r : Recorded g.row.K.Denot). Gets (seen (kept r.keeper) r.place r.next) entry (seen (kept c.fetch.new.self) (c.self.inside.place + 1) c.in-Ok.found)) c.self.view_is gets;
      },
      going,
    )
