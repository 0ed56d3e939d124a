-- Which routes a path fits. Paths are bytes, and nothing in them is decoded.
use Rattle.std.specs.Prelude.{ℕ, ◌==◌, ◌&&◌, not, nat_lt, Bool, List, drop, length, find, nat_eq, Option}
use Rattle.std.specs.List.{list_any, starts_with}
use Rattle.std.specs.Str.{bytes_eq, chars}
use Rattle.rg_rest.specs.declared.route.Route.{Route}
use Rattle.rg_rest.specs.declared.route.Tail.{Tail}
use Rattle.rg_rest.specs.declared.route.Tail.TheVariants.{Nothing, Name, Id, Plugin}
use Rattle.rg_rest.specs.Query.{is_number}
use Rattle.rg_rest.specs.Table.{all_routes, row_of}

-- one segment that isn't empty: there are bytes, and none of them is a slash
abbrev pub is_segment : List ℕ → Bool
is_segment end = nat_lt 0 (length end) && not (list_any (λ b. b == 47) end)

-- the end of a path is what the route wants: no byte, a name, 1 to 18 digits, or the name of the plugin's service
unfoldable pub ends_as : List ℕ → Tail → List ℕ → Bool
ends_as plugin Nothing end = length end == 0
ends_as plugin Name end = is_segment end
ends_as plugin Id end = is_number 18 end
ends_as plugin Plugin end = is_segment end && bytes_eq (chars end) plugin

-- what follows the route's text in a path
abbrev pub end_of : Route → List ℕ → List ℕ
end_of r path = drop (length (row_of r).text) path

-- the path is the route's text, and an end that the route wants
unfoldable pub fits : List ℕ → List ℕ → Route → Bool
fits plugin path r = starts_with nat_eq path (row_of r).text && ends_as plugin (row_of r).tail (end_of r path)

-- some route has this path
unfoldable pub is_known : List ℕ → List ℕ → Bool
is_known plugin path = list_any (fits plugin path) all_routes

-- it is the route with this path and this method, whose letters are told apart by their case
abbrev pub is_route : List ℕ → List ℕ → List ℕ → Route → Bool
is_route plugin path method r = fits plugin path r && bytes_eq (row_of r).method method

unfoldable pub route_of : List ℕ → List ℕ → List ℕ → Option Route
route_of plugin path method = find (is_route plugin path method) all_routes
