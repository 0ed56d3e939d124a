use Rattle.std.proofs.Common.{◌≡◌, Some, None, map, ap, sym, ◌∙◌, subst}
use Rattle.std.proofs.lemmas.Result.{on_ok_weaker}
use Rattle.rg_base.specs.Listed.{Listed, listed}
use Rattle.rg_base.specs.Places.{IsIndex, place_in}
use Rattle.rg_admin.specs.InPlace.{put_at}
use Rattle.rg_admin.proofs.Firsts.{put_by_name}
use Rattle.rg_admin.proofs.Placed.{placed, renamed, within}
use Rattle.rg_admin.proofs.places.put_placed.Goals as goal

pub replace_at-requires : goal.replace_at-requires
replace_at-requires g c =
    let it = g.T.Named.named in
    let xs = c.args.list.now.items in
    within it (it c.args.item) xs c.in-Some.place (ap (place_in (map it xs)) (sym c.name.ensures) ∙ sym (c.place_at.ensures (map it xs) c.requires.placed) ∙ c.in-Some.is)

pub returns-in-Some-clause-ok : goal.returns-in-Some-clause-ok
returns-in-Some-clause-ok g c =
    let it = g.T.Named.named in
    let item = c.args.item in
    let xs = c.args.list.now.items in
    let found : place_in (map it xs) (it item) ≡ Some c.in-Some.place = ap (place_in (map it xs)) (sym c.name.ensures) ∙ sym (c.place_at.ensures (map it xs) c.requires.placed) ∙ c.in-Some.is in
    c.replace_at.ensures ∙ ap listed (sym (put_by_name it (it item) item xs c.requires.tight.distinct ∙ ap (λ o. put_at o item xs) (sym (placed it (it item) xs) ∙ found)))

pub returns-in-Some-clause-placed : goal.returns-in-Some-clause-placed
returns-in-Some-clause-placed g c =
    let it = g.T.Named.named in
    let item = c.args.item in
    let xs = c.args.list.now.items in
    let found : place_in (map it xs) (it item) ≡ Some c.in-Some.place = ap (place_in (map it xs)) (sym c.name.ensures) ∙ sym (c.place_at.ensures (map it xs) c.requires.placed) ∙ c.in-Some.is in
    subst (IsIndex c.args.places.now) (sym (ap (λ (l : Listed _). map it l.items) c.replace_at.ensures ∙ renamed it item xs c.in-Some.place found)) c.requires.placed

pub add_placed-requires-clause-new : goal.add_placed-requires-clause-new
add_placed-requires-clause-new g c =
    let it = g.T.Named.named in
    let xs = c.args.list.now.items in
    ap (place_in (map it xs)) (sym c.name.ensures) ∙ sym (c.place_at.ensures (map it xs) c.requires.placed) ∙ c.in-None.is

pub returns-in-None-clause-ok : goal.returns-in-None-clause-ok
returns-in-None-clause-ok g c =
    let it = g.T.Named.named in
    let item = c.args.item in
    let xs = c.args.list.now.items in
    let none : place_in (map it xs) (it item) ≡ None = ap (place_in (map it xs)) (sym c.name.ensures) ∙ sym (c.place_at.ensures (map it xs) c.requires.placed) ∙ c.in-None.is in
    on_ok_weaker c.add_placed.result (λ e. e ∙ ap listed (sym (put_by_name it (it item) item xs c.requires.tight.distinct ∙ ap (λ o. put_at o item xs) (sym (placed it (it item) xs) ∙ none)))) c.add_placed.ensures.ok
