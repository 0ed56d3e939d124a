use Rattle.std.proofs.Common.{rules, ◌≡◌, List, [], ◌∷◌, ◌++◌, All, arith, sym, ap, ◌∙◌, subst, append_assoc, append-nil}
use Rattle.rg_turn.specs.Values.{SeatValue}
use Rattle.rg_turn.specs.Seats.{HasJoined}
use Rattle.rg_turn.proofs.Sharing.{takes_over}
use Rattle.rg_turn.proofs.Joining.{all_at, joined_none, joined_one}
use Rattle.rg_turn.proofs.seats.join_seats.Goals as goal

pub join_seat-requires : goal.join_seat-requires
join_seat-requires g c =
    let Seen : Type 0 = SeatValue g.row.M-Ask.Denot g.row.M-Reply.Denot g.row.M-State.Denot in
    let i = c.loop-next.invariant in
    let s = c.next.invariant.0 in
    let w = i.2.4 in
    let split : c.args.seats.items ≡ (c.pop.new.self.items ++ c.in-Some.next ∷ []) ++ i.0 = i.1 ∙ ap (λ (l : List Seen). l ++ i.0) c.in-Some.ensures.items in
    let turn : c.in-Some.next.turn.table ≡ c.args.table.now.table_id = all_at (λ (x : Seen). x.turn.table ≡ c.args.table.now.table_id) c.pop.new.self.items i.0 c.in-Some.next (subst (All (λ (x : Seen). x.turn.table ≡ c.args.table.now.table_id)) split c.requires.seats) in (
      i.2.0 ∙ c.requires.table.0,
      ap (λ (x : Seen). x.turn.table) c.next.view_is ∙ turn,
      s.0,
      omega (arith, c.requires.table.1),
      takes_over g.M.Machine.state g.M.Machine.transition _ _ c.loop-next.kept.id c.loop-next.kept.me.0 c.next.inside.seat.id c.next.inside.seat.me.0 i.2.2 i.2.3 (omega (arith, w, c.requires.idle.3)) s.1,
    )

pub loop-next-preserved : goal.loop-next-preserved
loop-next-preserved g c =
    let Seen : Type 0 = SeatValue g.row.M-Ask.Denot g.row.M-Reply.Denot g.row.M-State.Denot in
    let i = c.loop-next.invariant in
    let e = c.join_seat.ensures in (
      c.in-Some.next ∷ i.0,
      i.1 ∙ ap (λ (l : List Seen). l ++ i.0) c.in-Some.ensures.items ∙ append_assoc c.pop.new.self.items (c.in-Some.next ∷ []) i.0,
      joined_one _ _ _ _ c.args.seat c.loop-next.kept c.join_seat.new.seat c.next.inside.seat i.0 c.in-Some.next i.2 e.0 e.2 c.next.invariant.0.3 c.next.view_is,
    )

pub returns : goal.returns
returns g c =
    let i = c.loop-next.invariant in
    let empty : c.loop-next.seats.items ≡ [] = search rules in
    subst (λ l. HasJoined c.args.seat l c.loop-next.kept) (sym (i.1 ∙ ap (λ l. l ++ i.0) empty)) i.2

pub loop-next-init : goal.loop-next-init
loop-next-init g c = let p = c.requires.idle in ([], sym (append-nil c.args.seats.items), joined_none _ _ _ _ c.args.seat p.0 p.1 p.2)
