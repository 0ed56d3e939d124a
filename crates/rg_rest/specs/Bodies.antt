-- What the router answers by itself.
use Rattle.std.specs.Prelude.{ℕ, Bool, List, [], ◌∷◌, codes}
use Rattle.serde_json.specs.Data.{Data, string}
use Rattle.serde_json.specs.Written.{compact_text}
use Rattle.rg_base.specs.Listed.{listed}
use Rattle.rg_http.specs.declared.message.Response.{Response}
use Rattle.rg_json.specs.Printing.{object_of, text_data}
use Rattle.rg_json.specs.declared.fault.Fault.{Fault}
use Rattle.rg_json.specs.declared.fault.WireKind.{WireKind}
use Rattle.rg_json.specs.declared.fault.WireKind.TheVariants.{Syntax, Mistyped, Missing, Range}
use Rattle.rg_rest.specs.declared.fault_text.FaultKey.{FaultKey}
use Rattle.rg_rest.specs.declared.fault_text.FaultKey.TheVariants.{Kind, Path}

abbrev pub answer : ℕ → List ℕ → Bool → Response
answer status body close = record { status = status; body = listed body; close = close }

-- no path fits
abbrev pub no_path : Bool → Response
no_path close = answer 404 (codes "{\"error\":\"path\"}") close

-- no route with this path has the method
abbrev pub no_method : Bool → Response
no_method close = answer 405 (codes "{\"error\":\"method\"}") close

-- there is no actor
abbrev pub no_user : Bool → Response
no_user close = answer 401 (codes "{\"error\":\"x-user\"}") close

-- ---- a body that doesn't read

unfoldable pub name_of : FaultKey → List ℕ
name_of Kind = codes "kind"
name_of Path = codes "path"

unfoldable pub word_of : WireKind → List ℕ
word_of Syntax = codes "syntax"
word_of Mistyped = codes "type"
word_of Missing = codes "missing"
word_of Range = codes "range"

abbrev pub fault_members : Fault → List (FaultKey × Data)
fault_members fault = (Kind, string (word_of fault.kind)) ∷ (Path, text_data fault.path) ∷ []

-- what is wrong, and where
unfoldable pub fault_data : Fault → Data
fault_data fault = object_of name_of (fault_members fault)

unfoldable pub fault_text : Fault → List ℕ
fault_text fault = compact_text (fault_data fault)

abbrev pub no_record : Fault → Bool → Response
no_record fault close = answer 400 (fault_text fault) close
