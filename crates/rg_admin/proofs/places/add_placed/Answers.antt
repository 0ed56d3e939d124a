use Rattle.std.proofs.Common.{◌≡◌, ◌∷◌, ◌++◌, [], None, map, ap, sym, ◌∙◌, subst}
use Rattle.std.specs.Str.{chars}
use Rattle.std.proofs.lemmas.List.{length-map, map-append}
use Rattle.std.proofs.lemmas.Result.{on_ok_weaker}
use Rattle.rg_base.specs.Listed.{Listed}
use Rattle.rg_base.specs.Places.{IsIndex, place_in}
use Rattle.rg_admin.proofs.places.add_placed.Goals as goal

pub returns-clause-placed : goal.returns-clause-placed
returns-clause-placed g c =
    let it = g.T.Named.named in
    let xs = c.args.list.now.items in
    let name = chars c.name.result.now in
    let none : place_in (map it xs) name ≡ None = ap (place_in (map it xs)) c.name.ensures ∙ c.requires.new in
    let index : IsIndex c.insert.new.places (map it xs ++ name ∷ []) = c.in_ok-insert.ensures (map it xs) c.requires.placed none (c.len.ensures ∙ sym (length-map xs it)) in
    let names : map it xs ++ name ∷ [] ≡ map it (xs ++ c.args.item ∷ []) = ap (λ t. map it xs ++ t ∷ []) c.name.ensures ∙ sym (map-append it xs (c.args.item ∷ [])) in
    on_ok_weaker c.append.result (λ e. subst (IsIndex c.insert.new.places) (names ∙ sym (ap (λ (l : Listed _). map it l.items) e)) index) c.append.ensures.ok
