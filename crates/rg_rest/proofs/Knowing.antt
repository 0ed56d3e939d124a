-- The paths of all routes, in the rows of `matchit`.
use Rattle.std.proofs.Common.{◌≡◌, ◌<◌, ◌+◌, inl, inr, ℕ, suc, Fits, w8, List, [], ◌∷◌, get_or, true, false, Option, Some, None, IfSome, subst, arith}
use Rattle.std.proofs.lemmas.Bool.{cases_lt}
use Rattle.matchit.specs.Rows.{RowsOf}
use Rattle.matchit.specs.Router.{RouteOf}
use Rattle.matchit.specs.Seek.{first}
use Rattle.rg_rest.specs.declared.route.Route.{Route}
use Rattle.rg_rest.specs.declared.route.Route.TheVariants as the
use Rattle.rg_rest.specs.Table.{row_of}
use Rattle.rg_rest.specs.Patterns.{EachRow, HasPattern, Inserts, KnowsRoutes, path_routes, pattern_of, takes}
use Rattle.rg_rest.proofs.Seek.{AreBytes, Found, complete, sound}

-- where a route of each path is there, all are
pub all_known : (rs : RowsOf (RouteOf Route)) → ((k : ℕ) → k < 16 → HasPattern (pattern_of (get_or path_routes k the.PutDef)) rs) → (r : Route) → HasPattern (pattern_of r) rs
unfolding row_of
all_known rs h the.PutDef = h 0 (omega arith)
all_known rs h the.CreateService = h 1 (omega arith)
all_known rs h the.UpdateService = h 2 (omega arith)
all_known rs h the.DeleteService = h 2 (omega arith)
all_known rs h the.CreatePolicy = h 3 (omega arith)
all_known rs h the.GetPolicy = h 4 (omega arith)
all_known rs h the.UpdatePolicy = h 4 (omega arith)
all_known rs h the.DeletePolicy = h 4 (omega arith)
all_known rs h the.ListPolicies = h 5 (omega arith)
all_known rs h the.PutRole = h 6 (omega arith)
all_known rs h the.DeleteRole = h 7 (omega arith)
all_known rs h the.PutZone = h 8 (omega arith)
all_known rs h the.DeleteZone = h 9 (omega arith)
all_known rs h the.PutTags = h 10 (omega arith)
all_known rs h the.DeleteTags = h 10 (omega arith)
all_known rs h the.PutUser = h 11 (omega arith)
all_known rs h the.DeleteUser = h 11 (omega arith)
all_known rs h the.DownloadPolicies = h 12 (omega arith)
all_known rs h the.DownloadTags = h 13 (omega arith)
all_known rs h the.DownloadRoles = h 14 (omega arith)
all_known rs h the.Decide = h 15 (omega arith)

-- a route more is there
pub held_next : (old new : RowsOf (RouteOf Route)) (n : ℕ) (r : Route) → Inserts r old new → r ≡ get_or path_routes n the.PutDef
    → ((k : ℕ) → k < n → HasPattern (pattern_of (get_or path_routes k the.PutDef)) old) → (k : ℕ) → k < n + 1 → HasPattern (pattern_of (get_or path_routes k the.PutDef)) new
held_next old new n r i e h k l = elim (cases_lt k n) [
  | inl before ↦ i.keeps (pattern_of (get_or path_routes k the.PutDef)) (h k before)
  | inr there ↦ let same : n ≡ k = omega (arith, there, l) in subst (λ m. HasPattern (pattern_of (get_or path_routes m the.PutDef)) new) same (subst (λ s. HasPattern (pattern_of s) new) e i.has)
]

none_takes : {K : Type 0} (t p : List ℕ) (rs : RowsOf K) → HasPattern t rs → EachRow (λ u k. takes u p ≡ false) rs → takes t p ≡ false
none_takes t p [] h each = absurd h
none_takes t p (r ∷ rs) (inl e) each = subst (λ u. takes u p ≡ false) e each.0
none_takes t p (r ∷ rs) (inr h) each = none_takes t p rs h each.1

found_takes : (o : Option (RouteOf Route)) (e : RouteOf Route) (p : List ℕ) → IfSome o (Found (λ t e. t ≡ pattern_of e.value) p) → o ≡ Some e → takes (pattern_of e.value) p ≡ true
found_takes o e p f is = let g = subst (λ x. IfSome x (Found (λ t e. t ≡ pattern_of e.value) p)) is f in subst (λ u. takes u p ≡ true) g.1 g.2

pub at_takes : (rs : RowsOf (RouteOf Route)) (e : RouteOf Route) (p : List ℕ) → AreBytes p → KnowsRoutes rs → first rs p ≡ Some e → takes (pattern_of e.value) p ≡ true
at_takes rs e p bs knows is = found_takes (first rs p) e p (sound (λ t e. t ≡ pattern_of e.value) rs p bs knows.routes.patterns knows.routes.own) is

pub at_none : (rs : RowsOf (RouteOf Route)) (p : List ℕ) → KnowsRoutes rs → first rs p ≡ None → (r : Route) → takes (pattern_of r) p ≡ false
at_none rs p knows none r = none_takes (pattern_of r) p rs (knows.all r) (complete rs p knows.routes.patterns none)

pub bytes_from : (p : List ℕ) → ((i : ℕ) → Fits w8 (get_or p i 0)) → AreBytes p
bytes_from [] h = tt
bytes_from (b ∷ p) h = (omega (arith, h 0), bytes_from p (λ i. h (suc i)))

pub ruleset taking = (at_takes, at_none)
