use Rattle.std.proofs.Common.{◌<◌, ◌∷◌, ◌++◌, [], length, take, not, refl, sym, ap, subst, ◌∙◌, arith}
use Rattle.std.specs.Option.{is_some}
use Rattle.std.specs.Str.{chars}
use Rattle.std.proofs.lemmas.List.{length-take-le, take_more}
use Rattle.rg_base.specs.Places.{IsIndex}
use Rattle.rg_base.proofs.Names.{index_same, none_from, some_from}
use Rattle.rg_base.proofs.name_index.places_of.Goals as goal
use Rattle.rg_base.proofs.name_index.places_of.Goals.{then-is_none+in_ok-insert, else-is_none}

pub loop-place-preserved : goal.loop-place-preserved
loop-place-preserved c =
    let before = take c.loop-place.place c.args.names.now in
    let within : c.loop-place.place < length c.args.names.now = omega arith in
    let more = ap (λ t. before ++ t ∷ []) (c.as_str-text.ensures.read ∙ c.index-names-place.is) ∙ sym (take_more c.args.names.now c.loop-place.place c.index-names-place.result within) in
    let found = sym (c.place_at.ensures before c.loop-place.invariant) in
    elim c.if-is_none.branch [
      | then-is_none+in_ok-insert w ↦
          let none = none_from _ (ap is_some found ∙ c.is_none.ensures ∙ ap not w.if-is_none.true) in
          subst (IsIndex c.if-is_none.places) more (subst (λ m. IsIndex m (before ++ chars c.as_str-text.result.now ∷ [])) (sym w.places-is)
          (w.in_ok-insert.ensures before c.loop-place.invariant (none ∙ refl) (sym (length-take-le c.loop-place.place c.args.names.now (omega arith)))))
      | else-is_none w ↦
          let some = some_from _ w.if-is_none.ensures in
          subst (IsIndex c.if-is_none.places) more (subst (λ m. IsIndex m (before ++ chars c.as_str-text.result.now ∷ [])) (sym w.places-is)
          (index_same c.loop-place.places before (chars c.as_str-text.result.now) some.0 (found ∙ some.1) c.loop-place.invariant))
    ]
