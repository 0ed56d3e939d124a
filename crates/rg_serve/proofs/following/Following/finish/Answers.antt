use Rattle.std.proofs.Common.{◌∙◌, List, ℕ, ap, subst, sym}
use Rattle.rg_turn.proofs.Histories.{begins_trans}
use Rattle.rg_serve.specs.Trails.{Downloads}
use Rattle.rg_serve.proofs.Downloading.{has_last, one_download, published_more}
use Rattle.rg_serve.proofs.following.Following.finish.Goals as goal

pub returns-clause-more : goal.returns-clause-more
returns-clause-more g c =
    let r = c.self.inside.refresher in
    let has = c.in-Ok.ensures.refreshed in
    begins_trans g.J.Naming.published r.publisher.list c.refresh.new.self.publisher.list c.self.invariant.more
    (published_more c.refresh.new.self.seq has.present r.publisher.list _ c.refresh.new.self.publisher.list has.list)

pub returns-clause-downloads : goal.returns-clause-downloads
returns-clause-downloads g c =
    let r = c.self.inside.refresher in
    subst (λ (s : List ℕ). Downloads c.refresh.new.seat.history s g.J.Naming.before c.refresh.new.seat) (c.self.invariant.serves c.args.turn.now.start (ap (λ t. t.start) (sym c.self.invariant.seated) ∙ c.knows.ensures.opening.0))
    (one_download g.J.Naming.before c.self.inside.seat c.refresh.new.seat r.service r.publisher.list c.refresh.new.self.publisher.list c.refresh.new.self.seq
    c.in-Ok.ensures.downloaded c.in-Ok.ensures.begins (c.self.invariant.downloads c.if-is_short.false))

pub returns-clause-last : goal.returns-clause-last
returns-clause-last g c =
    let r = c.self.inside.refresher in
    has_last g.J.Naming.before c.self.inside.seat c.refresh.new.seat r.service r.publisher.list c.refresh.new.self.publisher.list c.refresh.new.self.seq c.in-Ok.ensures.downloaded
    c.args.turn.now.start (c.self.invariant.serves c.args.turn.now.start (ap (λ t. t.start) (sym c.self.invariant.seated) ∙ c.knows.ensures.opening.0)) _ c.in-Ok.ensures.refreshed

pub returns-clause-made : goal.returns-clause-made
returns-clause-made g c =
    let start = ap (λ t. t.start) (sym c.self.invariant.seated) ∙ c.knows.ensures.opening.0 in
    c.in-Ok.ensures.made (c.self.invariant.made c.args.turn.now.start start)
