use Rattle.std.proofs.Common.{◌≡◌, ◌<◌, ◌∷◌, ◌++◌, [], List, Some, map, length, true, false, option_map, sym, ap, ◌∙◌, inr, arith}
use Rattle.std.specs.List.{list_any}
use Rattle.std.proofs.lemmas.List.{map_more, map_push}
use Rattle.rg_roles.specs.declared.fault.RoleFault.TheVariants.{Unknown}
use Rattle.rg_roles.specs.declared.row.RoleRow.{RoleRow}
use Rattle.rg_roles.specs.Faults.{is_absent, names_absent}
use Rattle.rg_roles.specs.Members.{names_of}
use Rattle.rg_roles.specs.Places.{place_in}
use Rattle.rg_base.proofs.Firsts.{first_none, none_more, some_first}
use Rattle.rg_roles.proofs.Rows.{roles_is}
use Rattle.rg_roles.proofs.chart.chart_of.Goals as goal

pub returns-in_default-clause-err : goal.returns-in_default-clause-err
returns-in_default-clause-err c =
    let rows = c.args.rows.now in
    let place = c.loop-place.place in
    let within : place < length rows = omega arith in
    let told = ap (λ ns. list_any (is_absent ns) c.as_slice.result.now) (sym c.requires.indexed) ∙ rw c.in_default.is at c.in_ok-places.ensures in
    let roles = roles_is rows place c.index-rows-place.result within (sym c.index-rows-place.is) ∙ sym c.as_slice.ensures in
    let absent : names_absent rows place ≡ true = ap (list_any (is_absent (names_of rows))) roles ∙ told in
    inr (ap (option_map Unknown) (some_first (names_absent rows) (length rows) place within absent (first_none (names_absent rows) place c.loop-place.invariant.1)))

pub loop-place-preserved : goal.loop-place-preserved
loop-place-preserved c =
    let rows = c.args.rows.now in
    let place = c.loop-place.place in
    let row = c.index-rows-place.result in
    let named : RoleRow → List _ = λ r. map (place_in (names_of rows)) r.roles.items in
    let within : place < length rows = omega arith in
    let same = sym c.requires.indexed in
    let found = rw c.in-Some.is at c.in_ok-places.ensures in
    let told : (list_any (is_absent (names_of rows)) c.as_slice.result.now ≡ false) × (map (place_in (names_of rows)) c.as_slice.result.now ≡ map Some c.in-Some.places.items) =
    (ap (λ ns. list_any (is_absent ns) c.as_slice.result.now) same ∙ found.0, ap (λ ns. map (place_in ns) c.as_slice.result.now) same ∙ found.1) in
    let roles = roles_is rows place row within (sym c.index-rows-place.is) ∙ sym c.as_slice.ensures in
    let present : names_absent rows place ≡ false = ap (list_any (is_absent (names_of rows))) roles ∙ told.0 in
    let here = ap named (sym c.index-rows-place.is) ∙ ap (map (place_in (names_of rows))) (sym c.as_slice.ensures) ∙ told.1 in (
      map_more named rows place row within ∙ (λ i. c.loop-place.invariant.0 i ++ here i ∷ [])
          ∙ sym (map_push (map Some) c.loop-place.chart c.in-Some.places.items) ∙ ap (map (map Some)) (sym c.in_ok-push.ensures),
      none_more (names_absent rows) place c.loop-place.invariant.1 present,
    )
