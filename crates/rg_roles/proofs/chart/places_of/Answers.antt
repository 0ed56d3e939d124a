use Rattle.std.proofs.Common.{◌≡◌, ◌<◌, ◌∷◌, ◌++◌, [], Some, map, length, sym, ap, ◌∙◌, arith, rules}
use Rattle.std.proofs.lemmas.Bool.{or_from}
use Rattle.std.proofs.lemmas.List.{map_more, map_push}
use Rattle.std.proofs.lemmas.List.Folds.{list_any_at, list_any_more}
use Rattle.rg_roles.specs.Faults.{is_absent}
use Rattle.rg_roles.specs.Places.{place_in}
use Rattle.rg_roles.proofs.Lookup.{absent, present}
use Rattle.rg_roles.proofs.chart.places_of.Goals as goal

pub returns-in_default : goal.returns-in_default
returns-in_default c =
    let names = c.args.index.now in
    let within : c.loop-role.role-index < length c.args.roles.now = omega arith in
    list_any_at (is_absent names) c.args.roles.now c.loop-role.role-index c.role-item.result within
    (ap (is_absent names) (sym c.role-item.is ∙ sym c.as_str.ensures.read) ∙ absent names _ (sym c.place_of.ensures ∙ c.in_default.is))

pub loop-role-preserved : goal.loop-role-preserved
loop-role-preserved c =
    let names = c.args.index.now in
    let within : c.loop-role.role-index < length c.args.roles.now = omega arith in
    let before = c.loop-role.invariant in
    let role = sym c.role-item.is ∙ sym c.as_str.ensures.read in
    let here = ap (place_in names) role ∙ sym c.place_of.ensures ∙ c.in-Some.is in
    let pushed : c.push.new.self.items ≡ c.loop-role.places.items ++ c.in-Some.place ∷ [] = search rules in (
      list_any_more (is_absent names) c.args.roles.now c.loop-role.role-index c.role-item.result within ∙ or_from _ _ before.0 (present names _ c.in-Some.place here),
      map_more (place_in names) c.args.roles.now c.loop-role.role-index c.role-item.result within
          ∙ (λ i. before.1 i ++ here i ∷ []) ∙ sym (map_push Some c.loop-role.places.items c.in-Some.place) ∙ ap (map Some) (sym pushed),
    )
