use Rattle.std.proofs.Common.{◌≡◌, ◌∙◌, ◌+◌, List, ap, ℕ, length, arith, subst, sym}
use mathlib.Core.List.{IsPrefix}
use Rattle.rg_publish.specs.Publications.{Published}
use Rattle.rg_publish.specs.declared.history.Publication.{Publication}
use Rattle.rg_turn.proofs.Histories.{begins_length}
use Rattle.rg_session.specs.Right.{AreDownloadedFor, AreRightFor}
use Rattle.rg_serve.specs.Served.{IsCurrent}
use Rattle.rg_serve.specs.Trails.{AreServed}
use Rattle.rg_serve.proofs.Downloading.{is_current, same_service}
use Rattle.rg_serve.proofs.ending.end.Goals as goal

pub returns-clause-entries : goal.returns-clause-entries
returns-clause-entries g c =
    let longer = c.in_ok-publisher.ensures.longer in
    let more = begins_length c.in_ok-publisher.seat.history c.in_ok-totals.totals.past.history c.in_ok-totals.ensures.begins in
    omega (arith, longer, more)

pub returns-clause-published : goal.returns-clause-published
returns-clause-published g c =
    let e = c.in_ok-totals.ensures.published in
    let same = ap (λ (p : Published). p.list) (sym e.0) in (
      subst (λ (l : List Publication). IsPrefix g.J.Naming.published l) same c.in_ok-publisher.ensures.more,
      e.1 ∙ ap length same,
    )

pub returns-clause-right : goal.returns-clause-right
returns-clause-right g c =
    subst (λ (p : Published). AreRightFor c.args.common.turn.start c.in_ok-totals.totals.past.history p.list) (sym c.in_ok-totals.ensures.published.0) c.in_ok-totals.ensures.right

pub returns-clause-made : goal.returns-clause-made
returns-clause-made g c =
    subst (λ (p : Published). AreDownloadedFor c.args.common.turn.start c.in_ok-totals.totals.past.history p.list) (sym c.in_ok-totals.ensures.published.0) c.in_ok-totals.ensures.made

pub returns-clause-current : goal.returns-clause-current
returns-clause-current g c =
    let start = c.args.common.turn.start in
    let past = c.in_ok-totals.totals.past.history in
    let publisher = c.in_ok-publisher.publisher in
    let whole : length past ≡ c.in_ok-publisher.entries + 1 = omega (arith, c.if-all-entries.false, c.if-all-eq0.false, c.entries-all.ensures) in
    subst (λ (p : Published). IsCurrent start past p.list) (sym c.in_ok-totals.ensures.published.0)
    (is_current start c.in_ok-publisher.seat.history publisher.list c.in_ok-publisher.entries past c.in_ok-publisher.ensures.last c.in_ok-totals.ensures.begins whole)

pub returns-clause-served : goal.returns-clause-served
returns-clause-served g c =
    let past = c.in_ok-totals.totals.past.history in
    let publisher = c.in_ok-publisher.publisher in
    let plugin = c.args.common.turn.start.state.plugin in
    let seats = length c.in_ok-seats.seats.items in
    let are : List ℕ → ℕ → List Publication → Type 0 = λ s n l.
    AreServed g.J.Naming.turn g.J.Naming.opening s g.J.Naming.before n c.args.links past l c.in_ok-totals.totals.decisions
    in
    subst (λ (p : Published). are plugin (length c.args.places.items) p.list) (sym c.in_ok-totals.ensures.published.0)
    (subst (λ n. are plugin n publisher.list) c.in_ok-seats.ensures.number
    (subst (λ s. are s seats publisher.list) (sym c.requires.plugin) c.in_ok-totals.ensures.served))

pub settle-requires-clause-downloads : goal.settle-requires-clause-downloads
settle-requires-clause-downloads g c =
    let seat = c.in_ok-publisher.seat in
    same_service seat.history c.args.common.turn.start.state.plugin g.J.Naming.plugin g.J.Naming.before seat c.requires.plugin c.in_ok-publisher.ensures.downloads
