-- The kind of a condition, why a condition doesn't compile, and the rule of one that does.
use Rattle.std.specs.Prelude.{ℕ, ◌||◌, ◌&&◌, ◌==◌, not, Bool, true, false, List, [], ◌∷◌, length, codes, Option, Some, None, is_none, unwrap_or, if◌then◌else◌}
use Rattle.std.specs.List.{find}
use Rattle.std.specs.Option.{option_or}
use Rattle.std.specs.Str.{bytes_eq}
use Rattle.rg_base.specs.Listed.{Listed, listed}
use Rattle.rg_base.specs.Pairs.{value_of}
use Rattle.rg_defs.specs.declared.service_def.ConditionDef.{ConditionDef}
use Rattle.rg_defs.specs.declared.service_def.ServiceDef.{ServiceDef}
use Rattle.rg_policy.specs.declared.policy.PolicyCondition.{PolicyCondition}
use Rattle.rg_cond.specs.declared.faults.CondFault.{CondFault}
use Rattle.rg_cond.specs.declared.faults.CondFault.TheVariants.{Unknown, Unsupported, BadValues}
use Rattle.rg_cond.specs.declared.kinds.Kind.{Kind}
use Rattle.rg_cond.specs.declared.kinds.Kind.TheVariants as kind
use Rattle.rg_cond.specs.declared.rules.Rule.{Rule}
use Rattle.rg_cond.specs.declared.rules.Rule.TheVariants.{Expired, Address, Context}
use Rattle.rg_cond.specs.Words.{yes_word, true_word, no_word, false_word, attribute_option}

-- the name of a kind
unfoldable pub name_of : Kind → List ℕ
name_of kind.AccessedAfterExpiry = codes "accessed-after-expiry"
name_of kind.IpRange = codes "ip-range"
name_of kind.ContextValueIn = codes "context-value-in"
name_of kind.ContextValueNotIn = codes "context-value-not-in"

abbrev pub all_kinds : List Kind
all_kinds = kind.AccessedAfterExpiry ∷ kind.IpRange ∷ kind.ContextValueIn ∷ kind.ContextValueNotIn ∷ []

-- the kind of this name
unfoldable pub kind_named : List ℕ → Option Kind
kind_named name = find (λ k. bytes_eq name (name_of k)) all_kinds

-- the kind of the evaluator's text, else of the condition's name
unfoldable pub kind_of : ConditionDef → Option Kind
kind_of def = option_or (kind_named def.evaluator) (kind_named def.name)

-- the key of the context that the definition names
abbrev pub key_of : ConditionDef → Option (List ℕ)
key_of def = value_of attribute_option def.options.items

-- the kind asks for a key of the context
abbrev pub asks_context : Kind → Bool
asks_context kind.AccessedAfterExpiry = false
asks_context kind.IpRange = false
asks_context kind.ContextValueIn = true
asks_context kind.ContextValueNotIn = true

-- one text says yes, and one says no
abbrev pub says_yes : List ℕ → Bool
says_yes value = bytes_eq value yes_word || bytes_eq value true_word

abbrev pub says_no : List ℕ → Bool
says_no value = bytes_eq value no_word || bytes_eq value false_word

-- exactly one value, which says yes or no
unfoldable pub is_answer : List (List ℕ) → Bool
is_answer [] = false
is_answer (value ∷ []) = says_yes value || says_no value
is_answer (value ∷ other ∷ more) = false

-- the kind takes these values
abbrev pub takes : Kind → List (List ℕ) → Bool
takes kind.AccessedAfterExpiry values = is_answer values
takes kind.IpRange values = not (length values == 0)
takes kind.ContextValueIn values = not (length values == 0)
takes kind.ContextValueNotIn values = not (length values == 0)

abbrev pub fault_of_kind : Option Kind → ConditionDef → List (List ℕ) → Option CondFault
fault_of_kind None def values = Some Unsupported
fault_of_kind (Some kind) def values =
    if asks_context kind && is_none (key_of def) then Some Unsupported
    else (if not (takes kind values) then Some BadValues else None)

abbrev pub fault_of_row : Option ConditionDef → List (List ℕ) → Option CondFault
fault_of_row None values = Some Unknown
fault_of_row (Some def) values = fault_of_kind (kind_of def) def values

-- the definition's first condition of this name
abbrev pub row_named : ServiceDef → List ℕ → Option ConditionDef
row_named def name = find (λ (c : ConditionDef). bytes_eq c.name name) def.conditions.items

-- why a condition doesn't compile: the first cause in this order
unfoldable pub condition_fault : ServiceDef → PolicyCondition → Option CondFault
condition_fault def condition = fault_of_row (row_named def condition.name) condition.values.items

-- the first value says yes
unfoldable pub begins_with_yes : List (List ℕ) → Bool
begins_with_yes [] = false
begins_with_yes (value ∷ more) = says_yes value

-- the rule of a condition of this kind
abbrev pub rule_of_kind : Kind → ConditionDef → Listed (List ℕ) → Rule
rule_of_kind kind.AccessedAfterExpiry def values = Expired (begins_with_yes values.items)
rule_of_kind kind.IpRange def values = Address values
rule_of_kind kind.ContextValueIn def values = Context (unwrap_or (key_of def) []) values true
rule_of_kind kind.ContextValueNotIn def values = Context (unwrap_or (key_of def) []) values false

-- a rule that never holds, for a condition of no kind, which doesn't compile
abbrev pub never : Rule
never = Address (listed [])

abbrev pub rule_of_any : Option Kind → ConditionDef → Listed (List ℕ) → Rule
rule_of_any None def values = never
rule_of_any (Some kind) def values = rule_of_kind kind def values

abbrev pub rule_of_row : Option ConditionDef → Listed (List ℕ) → Rule
rule_of_row None values = never
rule_of_row (Some def) values = rule_of_any (kind_of def) def values

-- the rule of a condition
unfoldable pub rule_of : ServiceDef → PolicyCondition → Rule
rule_of def condition = rule_of_row (row_named def condition.name) condition.values
