-- What the route of a path says of the path.
use Rattle.std.proofs.Common.{◌≡◌, ◌∙◌, ℕ, List, length, drop, true, false, nat_eq, Option, Some, None, MatchOption, Bor, ap, subst, sym}
use Rattle.std.specs.List.{starts_with}
use Rattle.std.specs.Str.{IsCharBoundary}
use Rattle.std.specs.Str.Pattern.{FindsTextPrefix, StripsPrefix}
use Rattle.std.proofs.lemmas.Str.Pattern.{starts_text}
use Rattle.rg_base.proofs.Lists.{find_contained}
use Rattle.rg_rest.specs.declared.route.Route.{Route}
use Rattle.rg_rest.specs.declared.route.Tail.TheVariants.{Id}
use Rattle.rg_rest.specs.Paths.{end_of, ends_as, fits, is_route, route_of}
use Rattle.rg_rest.specs.Query.{is_number}
use Rattle.rg_rest.specs.Table.{all_routes, row_of}
use Rattle.rg_rest.proofs.Both.{both_true}

pub strips : (text path : List ℕ) (r : Option (Bor (List ℕ))) → MatchOption r (FindsTextPrefix text path None) (λ x. StripsPrefix (FindsTextPrefix text) path x.now)
    → MatchOption r (starts_with nat_eq path text ≡ false) (λ x. (starts_with nat_eq path text ≡ true) × (x.now ≡ drop (length text) path))
strips text path None h = sym (starts_text false text path h)
strips text path (Some x) h =
    (sym (starts_text true text path (h.0, h.1, subst (IsCharBoundary path) (sym h.1.0) h.1.2)), h.2 ∙ ap (λ n. drop n path) h.1.0)

-- a route that was found has the path
route_fits : (plugin path method : List ℕ) (r : Route) → route_of plugin path method ≡ Some r → fits plugin path r ≡ true
unfolding route_of
route_fits plugin path method r found = (both_true (fits plugin path r) _ (find_contained (is_route plugin path method) all_routes r found).1).0

route_parts : (plugin path method : List ℕ) (r : Route) → route_of plugin path method ≡ Some r
    → (starts_with nat_eq path (row_of r).text ≡ true) × (ends_as plugin (row_of r).tail (end_of r path) ≡ true)
unfolding fits
route_parts plugin path method r found = both_true _ _ (route_fits plugin path method r found)

pub route_begins : (plugin path method : List ℕ) (r : Route) → route_of plugin path method ≡ Some r → starts_with nat_eq path (row_of r).text ≡ true
route_begins plugin path method r found = (route_parts plugin path method r found).0

number_end : (plugin end : List ℕ) → ends_as plugin Id end ≡ true → is_number 18 end ≡ true
unfolding ends_as
number_end plugin end h = h

pub route_id : (plugin path method : List ℕ) (r : Route) → route_of plugin path method ≡ Some r → (row_of r).tail ≡ Id → is_number 18 (end_of r path) ≡ true
route_id plugin path method r found is =
    number_end plugin (end_of r path) (subst (λ tail. ends_as plugin tail (end_of r path) ≡ true) is (route_parts plugin path method r found).1)

pub ruleset paths = (route_begins, route_id)
