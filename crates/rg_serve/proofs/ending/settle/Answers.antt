use Rattle.std.proofs.Common.{◌≡◌, ◌∙◌, All, ℕ, List, length, subst, sym}
use mathlib.Core.List.{IsPrefix}
use Rattle.rg_turn.specs.Counting.{once_below}
use Rattle.rg_turn.specs.Values.{calls_at}
use Rattle.rg_session.specs.Right.{AreRightFor}
use Rattle.rg_serve.specs.Trails.{Seated}
use Rattle.rg_serve.proofs.Alls.{all_front, all_last, all_more}
use Rattle.rg_serve.proofs.Downloading.{downloads_further}
use Rattle.rg_serve.proofs.Gathering.{all_served}
use Rattle.rg_serve.proofs.ending.settle.Goals as goal

pub close-requires-clause-seats : goal.close-requires-clause-seats
close-requires-clause-seats g c =
    let P : Seated → Type 0 = λ s. s.turn ≡ c.args.turn.turn in
    let turn = c.requires.turn in
    subst (λ (l : List Seated). All P l) (sym {A = List Seated} c.in_ok-add.ensures)
    (all_more P c.args.seats.items c.args.seat (λ k d lt. c.requires.worked.seated k d lt ∙ sym turn.0) (turn.1 ∙ sym turn.0))

pub close-requires-clause-passes : goal.close-requires-clause-passes
close-requires-clause-passes g c = λ k d lt. λ short. c.requires.worked.reads k d lt ∙ sym c.requires.book

pub returns-in-None-clause-right : goal.returns-in-None-clause-right
returns-in-None-clause-right g c =
    let start = c.args.turn.start in
    let list = c.args.publisher.list in
    let history = c.in-Ok.totals.past.history in
    let P : Seated → Type 0 = λ s. AreRightFor start s.history list → AreRightFor start history list in
    all_last P c.args.seats.items c.args.seat (subst (λ (l : List Seated). All P l) c.in_ok-add.ensures c.in-Ok.ensures.right) c.requires.right

pub returns-in-None-clause-begins : goal.returns-in-None-clause-begins
returns-in-None-clause-begins g c =
    let P : Seated → Type 0 = λ s. IsPrefix s.history c.in-Ok.totals.past.history in
    all_last P c.args.seats.items c.args.seat (subst (λ (l : List Seated). All P l) c.in_ok-add.ensures c.in-Ok.ensures.begins)

pub returns-in-None-clause-made : goal.returns-in-None-clause-made
returns-in-None-clause-made g c =
    let past = c.in-Ok.totals.past.history in
    let P : Seated → Type 0 = λ s. IsPrefix s.history past in
    c.downloaded_lists_stay.ensures.later c.args.turn.start c.args.seat.history past c.args.publisher.list
    (all_last P c.args.seats.items c.args.seat (subst (λ (l : List Seated). All P l) c.in_ok-add.ensures c.in-Ok.ensures.begins)) c.requires.made

pub returns-in-None-clause-served : goal.returns-in-None-clause-served
returns-in-None-clause-served g c =
    let past = c.in-Ok.totals.past.history in
    let P : Seated → Type 0 = λ s. IsPrefix s.history past in
    let begins = subst (λ (l : List Seated). All P l) c.in_ok-add.ensures c.in-Ok.ensures.begins in
    all_served g.J.Naming.turn g.J.Naming.opening g.J.Naming.plugin c.args.seats.items c.args.passes.items c.args.links c.requires.worked
    g.J.Naming.before c.args.seat past c.args.publisher c.in-Ok.totals.decisions
    (downloads_further c.args.seat.history past (all_last P c.args.seats.items c.args.seat begins) g.J.Naming.plugin g.J.Naming.before c.args.seat c.requires.downloads)
    (all_front P c.args.seats.items c.args.seat begins)
    (subst (λ (l : List Seated). (p : ℕ) → calls_at p l ≡ once_below p (length past)) c.in_ok-add.ensures c.in-Ok.ensures.once)
    (c.in-Ok.ensures.known c.in-None.is) c.in-Ok.ensures.decisions
