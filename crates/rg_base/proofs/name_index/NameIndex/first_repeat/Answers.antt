use Rattle.std.proofs.Common.{◌≡◌, ◌<◌, [], get_or, length, sym, ap, subst, ◌∙◌, arith}
use Rattle.std.specs.Str.{chars}
use Rattle.rg_base.specs.Names.{first_repeat, repeats}
use Rattle.rg_base.specs.Places.{place_in}
use Rattle.rg_base.proofs.Firsts.{first_none, none_more, some_first}
use Rattle.rg_base.proofs.Names.{not_repeated, repeated, not_same_place, same_place}
use Rattle.std.proofs.lemmas.List.{get_or_default}
use Rattle.rg_base.proofs.name_index.NameIndex.first_repeat.Goals as goal

pub returns-then-ne : goal.returns-then-ne
returns-then-ne c =
    let names = c.self.inside.names.items in
    let place = c.loop-place.place in
    let listed = c.deref-name-items.ensures.value in
    let within : place < length names = subst (λ ns. place < length ns) listed (omega arith) in
    let name : chars c.as_str.result.now ≡ get_or names place [] = c.as_str.ensures.read ∙ c.name-item.is ∙ (λ i. get_or (listed i) place c.name-item.result) ∙ get_or_default names place c.name-item.result [] within in
    let found : c.place_at.result ≡ place_in names (get_or names place []) = c.place_at.ensures names c.self.invariant.0 ∙ ap (place_in names) name in
    let again = repeated names place within (λ same. not_same_place c.place_at.result place (sym c.ne.ensures ∙ c.if-ne.true) (found ∙ same)) in
    sym (some_first (repeats names) (length names) place within again (first_none (repeats names) place c.loop-place.invariant)) ∙ ap first_repeat c.self.view_is

pub loop-place-preserved : goal.loop-place-preserved
loop-place-preserved c =
    let names = c.self.inside.names.items in
    let place = c.loop-place.place in
    let listed = c.deref-name-items.ensures.value in
    let within : place < length names = subst (λ ns. place < length ns) listed (omega arith) in
    let name : chars c.as_str.result.now ≡ get_or names place [] = c.as_str.ensures.read ∙ c.name-item.is ∙ (λ i. get_or (listed i) place c.name-item.result) ∙ get_or_default names place c.name-item.result [] within in
    let found : c.place_at.result ≡ place_in names (get_or names place []) = c.place_at.ensures names c.self.invariant.0 ∙ ap (place_in names) name in
    none_more (repeats names) place c.loop-place.invariant (not_repeated names place within (sym found ∙ same_place c.place_at.result place (sym c.ne.ensures ∙ c.if-ne.false)))
