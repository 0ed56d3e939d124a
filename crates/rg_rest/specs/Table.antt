-- The table of the routes.
use Rattle.std.specs.Prelude.{ℕ, List, [], ◌∷◌, codes}
use Rattle.rg_rest.specs.declared.route.Route.{Route}
use Rattle.rg_rest.specs.declared.route.Route.TheVariants as the
use Rattle.rg_rest.specs.declared.route.Tail.{Tail}
use Rattle.rg_rest.specs.declared.route.Tail.TheVariants.{Nothing, Name, Id, Plugin}

-- a route's method, the text that its path begins with, and what follows that text
pub record Row : Type 0 where
  pub method : List ℕ
  pub text : List ℕ
  pub tail : Tail

abbrev pub get : List ℕ → Tail → Row
get text tail = record { method = codes "GET"; text = text; tail = tail }

abbrev pub post : List ℕ → Tail → Row
post text tail = record { method = codes "POST"; text = text; tail = tail }

abbrev pub put : List ℕ → Tail → Row
put text tail = record { method = codes "PUT"; text = text; tail = tail }

abbrev pub delete : List ℕ → Tail → Row
delete text tail = record { method = codes "DELETE"; text = text; tail = tail }

-- the routes, each called by the command that it asks
unfoldable pub row_of : Route → Row
row_of the.PutDef = post (codes "/service/public/v2/api/servicedef") Nothing
row_of the.CreateService = post (codes "/service/public/v2/api/service") Nothing
row_of the.UpdateService = put (codes "/service/public/v2/api/service/name/") Name
row_of the.DeleteService = delete (codes "/service/public/v2/api/service/name/") Name
row_of the.CreatePolicy = post (codes "/service/public/v2/api/policy") Nothing
row_of the.GetPolicy = get (codes "/service/public/v2/api/policy/") Id
row_of the.UpdatePolicy = put (codes "/service/public/v2/api/policy/") Id
row_of the.DeletePolicy = delete (codes "/service/public/v2/api/policy/") Id
row_of the.ListPolicies = get (codes "/service/public/v2/api/policies/") Name
row_of the.PutRole = post (codes "/service/public/v2/api/roles") Nothing
row_of the.DeleteRole = delete (codes "/service/public/v2/api/roles/name/") Name
row_of the.PutZone = post (codes "/service/public/v2/api/zones") Nothing
row_of the.DeleteZone = delete (codes "/service/public/v2/api/zones/name/") Name
row_of the.PutTags = put (codes "/service/tags/resources/") Id
row_of the.DeleteTags = delete (codes "/service/tags/resources/") Id
row_of the.PutUser = put (codes "/service/users/") Name
row_of the.DeleteUser = delete (codes "/service/users/") Name
row_of the.DownloadPolicies = get (codes "/service/plugins/policies/download/") Name
row_of the.DownloadTags = get (codes "/service/tags/download/") Name
row_of the.DownloadRoles = get (codes "/service/roles/download/") Name
row_of the.Decide = post (codes "/service/decide/") Plugin

abbrev pub all_routes : List Route
all_routes =
    the.PutDef ∷
    the.CreateService ∷
    the.UpdateService ∷
    the.DeleteService ∷
    the.CreatePolicy ∷
    the.GetPolicy ∷
    the.UpdatePolicy ∷
    the.DeletePolicy ∷
    the.ListPolicies ∷
    the.PutRole ∷
    the.DeleteRole ∷
    the.PutZone ∷
    the.DeleteZone ∷
    the.PutTags ∷
    the.DeleteTags ∷
    the.PutUser ∷
    the.DeleteUser ∷
    the.DownloadPolicies ∷
    the.DownloadTags ∷
    the.DownloadRoles ∷
    the.Decide ∷ []
