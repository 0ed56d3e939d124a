-- The texts of a decision.
use Rattle.std.specs.Prelude.{ℕ, zero, suc, Bool, List, [], ◌∷◌, ◌++◌, map, take, Option, Some, None, option_and_then, option_map, unwrap_or, if◌then◌else◌}
use Rattle.std.specs.List.{filter_map, find, join_with_byte, last_or, slice_get}
use Rattle.std.specs.Str.{bytes_eq}
use Rattle.rg_base.specs.declared.numbers.Serial.{Serial}
use Rattle.rg_base.specs.declared.numbers.Version.{Version}
use Rattle.rg_policy.specs.declared.policy.MaskInfo.{MaskInfo}
use Rattle.rg_policy.specs.declared.request.AccessRequest.{AccessRequest}
use Rattle.rg_policy.specs.declared.request.Element.{Element}
use Rattle.rg_defs.specs.declared.service_def.Level.{Level}
use Rattle.rg_defs.specs.declared.service_def.MaskType.{MaskType}
use Rattle.rg_defs.specs.declared.service_def.ServiceDef.{ServiceDef}
use Rattle.rg_defs.specs.PathTests.{path_for}
use Rattle.rg_resmatch.specs.Tests.{value_at}
use Rattle.rg_evalr.specs.PolicyRules.{custom}
use Rattle.rg_evalr.specs.declared.frame.Side.{Side}
use Rattle.rg_evalr.specs.declared.frame.Side.TheVariants.{Resource, Tag}
use Rattle.rg_facts.specs.Choices.{Choice, filter_of, mask_of}
use Rattle.rg_facts.specs.Flow.{Outcome, outcome, verdict_of}
use Rattle.rg_facts.specs.declared.decision.Decision.{Decision}
use Rattle.rg_facts.specs.declared.decision.MaskText.{MaskText}
use Rattle.rg_facts.specs.declared.facts.Facts.{Facts}

-- the value of the level at this place, None where the elements don't name it
abbrev pub value_of_place : List Level → List Element → ℕ → Option (List ℕ)
value_of_place levels elements place = option_and_then (λ (l : Level). value_at elements l.name) (slice_get levels place)

-- on a path the values of the named levels from the root, else all values in the order of the elements
abbrev pub values_along : List Level → List Element → Option (List ℕ) → List (List ℕ)
values_along levels elements (Some path) = filter_map (value_of_place levels elements) path
values_along levels elements None = map (λ (e : Element). e.value) elements

abbrev pub named_values : ServiceDef → List Element → List (List ℕ)
named_values def elements = values_along def.levels.items elements (path_for def.levels.items (map (λ (e : Element). e.level) elements))

-- the resource as text: the values joined by `/`
abbrev pub path_text : ServiceDef → List Element → List ℕ
path_text def elements = join_with_byte 47 (named_values def elements)

-- the value of the deepest level: the last of them, empty where there is none
abbrev pub column_of : ServiceDef → List Element → List ℕ
column_of def elements = unwrap_or (last_or None (named_values def elements)) []

-- `{col}`
abbrev pub col_mark : List ℕ
col_mark = 123 ∷ 99 ∷ 111 ∷ 108 ∷ 125 ∷ []

-- the text begins with `{col}`
abbrev pub begins_with_mark : List ℕ → Bool
begins_with_mark t = bytes_eq (take 5 t) col_mark

-- the same past the first skip characters, which belong to a mark that was read
abbrev pub replaced_past : List ℕ → ℕ → List ℕ → List ℕ
replaced_past column skip [] = []
replaced_past column (suc skip) (c ∷ t) = replaced_past column skip t
replaced_past column zero (c ∷ t) = if begins_with_mark (c ∷ t) then column ++ replaced_past column 4 t else c ∷ replaced_past column 0 t

-- read from the left, each `{col}` becomes the column; what was put in isn't read again
abbrev pub replaced : List ℕ → List ℕ → List ℕ
replaced template column = replaced_past column 0 template

-- the transformer of the definition's mask type of this name, empty where there is none
abbrev pub transformer_of : List ℕ → ServiceDef → List ℕ
transformer_of kind def = unwrap_or (option_map (λ (m : MaskType). m.transformer) (find (λ (m : MaskType). bytes_eq m.name kind) def.masks.items)) []

-- a mask's expression before its column is put in: CUSTOM brings its own, any other kind takes its transformer
abbrev pub template_of : ServiceDef → MaskInfo → List ℕ
template_of def m = if bytes_eq m.kind custom then m.value_expr else transformer_of m.kind def

abbrev pub masked : ServiceDef → List ℕ → MaskInfo → MaskText
masked def column m = record { kind = m.kind; expr = replaced (template_of def m) column }

-- what is published with a decision: the definitions, the versions and the serial
pub record Published : Type 0 where
  pub def : ServiceDef
  pub tag_def : Option ServiceDef
  pub serial : Serial
  pub policy_version : Version
  pub tag_version : Version
  pub role_version : Version

abbrev pub published : Facts → Serial → Published
published facts serial = record {
  def = facts.def;
  tag_def = facts.tag_def;
  serial = serial;
  policy_version = facts.policy_version;
  tag_version = facts.tag_version;
  role_version = facts.role_version;
}

-- the definition of the policies of a side
abbrev pub def_on : Published → Side → ServiceDef
def_on p Resource = p.def
def_on p Tag = unwrap_or p.tag_def p.def

-- the mask of the chosen item as text; a tag policy's takes the tag definition's transformer
abbrev pub mask_text : Published → List Element → Choice → Option MaskText
mask_text p elements c = option_map (masked (def_on p c.side) (column_of p.def elements)) (mask_of c)

-- an outcome with its texts
abbrev pub decision_of : Published → AccessRequest → Outcome → Decision
decision_of p q o = record {
  access = o.access;
  policy = (verdict_of o).policy;
  audited = (verdict_of o).audited;
  filter = option_and_then filter_of o.filter;
  mask = option_and_then (mask_text p q.resource.elements.items) o.mask;
  serial = p.serial;
  policy_version = p.policy_version;
  tag_version = p.tag_version;
  role_version = p.role_version;
  path = path_text p.def q.resource.elements.items;
}

-- the decision on a request, published under this serial
abbrev pub decide : Facts → AccessRequest → Serial → Decision
decide facts q serial = decision_of (published facts serial) q (outcome facts q)
