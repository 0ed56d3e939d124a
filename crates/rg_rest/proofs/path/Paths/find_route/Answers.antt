use Rattle.std.proofs.Common.{◌≡◌, ◌∙◌, List, ℕ, Some, length, drop, true, ap, sym, subst}
use Rattle.std.specs.Str.{chars}
use Rattle.rg_rest.specs.Paths.{end_of, route_of}
use Rattle.rg_rest.specs.Query.{is_number}
use Rattle.rg_rest.proofs.Exclusive.{known_by, route_same}
use Rattle.rg_rest.proofs.Paths.{route_id}
use Rattle.rg_rest.proofs.path.Paths.find_route.Goals as goal

pub returns : goal.returns
returns c =
    let plugin : List ℕ = chars c.args.plugin.now in
    let path : List ℕ = c.args.path.now in
    let method : List ℕ = c.args.method.now in
    let asked : route_of plugin path method ≡ Some c.in-Some-with_method.route = sym (route_same plugin path method c.in-Some.shared c.in-Some.ensures) ∙ sym c.with_method.ensures ∙ c.in-Some-with_method.is in
    let end : c.in-Some-stripped.end.now ≡ end_of c.in-Some-with_method.route path = c.in-Some-stripped.ensures.1 ∙ ap (λ (t : List ℕ). drop (length t) path) c.row.ensures.text in
    record {
      known = known_by plugin path c.in-Some.shared c.in-Some.ensures;
      route = asked;
      end_is = end;
      id = λ is. subst (λ (t : List ℕ). is_number 18 t ≡ true) (sym end) (route_id plugin path method c.in-Some-with_method.route asked is);
    }
