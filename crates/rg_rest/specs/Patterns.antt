-- What only proofs need: patterns as `matchit` keeps them, and the paths that they take.
use Rattle.std.specs.Prelude.{◌≡◌, ◌⊎◌, ◌<◌, ◌==◌, ◌&&◌, ℕ, Bool, true, false, not, cond, List, [], ◌∷◌, ◌++◌, codes, MatchOption, Option, Some, None}
use Rattle.std.specs.Str.{bytes_eq}
use Rattle.matchit.specs.Rows.{RowsOf}
use Rattle.matchit.specs.Router.{RouteOf}
use Rattle.matchit.specs.Seek.{has_slash}
use Rattle.rg_rest.specs.declared.route.Route.{Route}
use Rattle.rg_rest.specs.declared.route.Tail.{Tail}
use Rattle.rg_rest.specs.declared.route.Tail.TheVariants.{Nothing, Name, Id, Plugin}
use Rattle.rg_rest.specs.declared.route.Route.TheVariants as the
use Rattle.rg_rest.specs.declared.path.Missing.{Missing}
use Rattle.rg_rest.specs.declared.path.Missing.TheVariants.{Path, Method}
use Rattle.rg_rest.specs.Table.{row_of}
use Rattle.rg_rest.specs.Query.{is_number}
use Rattle.rg_rest.specs.Paths.{end_of, is_known, route_of}

-- a route's pattern as it is inserted: what follows the text is a parameter
abbrev pub end_text : Tail → List ℕ
end_text Nothing = []
end_text Name = codes "{end}"
end_text Id = codes "{end}"
end_text Plugin = codes "{end}"

abbrev pub pattern_text : Route → List ℕ
pattern_text r = (row_of r).text ++ end_text (row_of r).tail

-- and in tokens: bytes, and 256 for a parameter
abbrev pub end_tokens : Tail → List ℕ
end_tokens Nothing = []
end_tokens Name = 256 ∷ []
end_tokens Id = 256 ∷ []
end_tokens Plugin = 256 ∷ []

abbrev pub pattern_of : Route → List ℕ
pattern_of r = (row_of r).text ++ end_tokens (row_of r).tail

-- the tokens are bytes, and a parameter may stand at their end
abbrev pub IsPattern : List ℕ → Type 0
IsPattern [] = Unit {0}
IsPattern (x ∷ t) = ((x < 256) × IsPattern t) ⊎ ((x ≡ 256) × (t ≡ []))

-- each row is of this kind
abbrev pub EachRow : {K : Type 0} → (List ℕ → K → Type 0) → RowsOf K → Type 0
EachRow Q [] = Unit {0}
EachRow Q (r ∷ rs) = Q r.0 r.1 × EachRow Q rs

abbrev pub ArePatterns : {K : Type 0} → RowsOf K → Type 0
ArePatterns rs = EachRow (λ t k. IsPattern t) rs

-- some row has the pattern
abbrev pub HasPattern : {K : Type 0} → List ℕ → RowsOf K → Type 0
HasPattern t [] = ⊥
HasPattern t (r ∷ rs) = (r.0 ≡ t) ⊎ HasPattern t rs

-- the pattern takes the path: the bytes are its, and a parameter is one segment that isn't empty
abbrev pub takes : List ℕ → List ℕ → Bool
takes [] [] = true
takes [] (b ∷ p) = false
takes (x ∷ t) [] = false
takes (x ∷ t) (b ∷ p) = cond (x == 256) (not (has_slash (b ∷ p))) (cond (x == b) (takes t p) false)

-- two routes have the same path
abbrev pub same_tail : Tail → Tail → Bool
same_tail Nothing Nothing = true
same_tail Name Name = true
same_tail Id Id = true
same_tail Plugin Plugin = true
same_tail _ _ = false

abbrev pub same_path : Route → Route → Bool
same_path r s = bytes_eq (row_of r).text (row_of s).text && same_tail (row_of r).tail (row_of s).tail

-- rows of routes, each with its pattern
pub record AreRoutes (rs : RowsOf (RouteOf Route)) : Type 0 where
  pub patterns : ArePatterns rs
  pub own : EachRow (λ t e. t ≡ pattern_of e.value) rs

-- and of all routes
pub record KnowsRoutes (rs : RowsOf (RouteOf Route)) : Type 0 where
  pub routes : AreRoutes rs
  pub all : (r : Route) → HasPattern (pattern_of r) rs

-- a route for each path
abbrev pub path_routes : List Route
path_routes =
    the.PutDef ∷
    the.CreateService ∷
    the.UpdateService ∷
    the.CreatePolicy ∷
    the.GetPolicy ∷
    the.ListPolicies ∷
    the.PutRole ∷
    the.DeleteRole ∷
    the.PutZone ∷
    the.DeleteZone ∷
    the.PutTags ∷
    the.PutUser ∷
    the.DownloadPolicies ∷
    the.DownloadTags ∷
    the.DownloadRoles ∷
    the.Decide ∷ []

-- what is true of the rows after a route was inserted
pub record Inserts (r : Route) (old new : RowsOf (RouteOf Route)) : Type 0 where
  pub routes : AreRoutes old → AreRoutes new
  pub has : HasPattern (pattern_of r) new
  pub keeps : (t : List ℕ) → HasPattern t old → HasPattern t new

-- what misses: no route has the path, or none with the path has the method
abbrev pub Misses : List ℕ → List ℕ → List ℕ → Missing → Type 0
Misses plugin path method Path = is_known plugin path ≡ false
Misses plugin path method Method = (is_known plugin path ≡ true) × (route_of plugin path method ≡ None)

-- the route, and the end of its path
pub record IsRoute (plugin path method : List ℕ) (r : Route) (end : List ℕ) : Type 0 where
  pub known : is_known plugin path ≡ true
  pub route : route_of plugin path method ≡ Some r
  pub end_is : end ≡ end_of r path
  pub id : (row_of r).tail ≡ Id → is_number 18 end ≡ true

-- a route whose pattern takes the path, and None where there is none
abbrev pub Takes : Option Route → List ℕ → Type 0
Takes found path = MatchOption found ((r : Route) → takes (pattern_of r) path ≡ false) (λ r. takes (pattern_of r) path ≡ true)
