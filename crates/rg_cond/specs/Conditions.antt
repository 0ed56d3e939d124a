-- When a condition holds, for a request and the tag that is asked, if there is one.
use Rattle.std.specs.Prelude.{ℕ, ℤ, ◌||◌, ◌&&◌, ◌-◌, ◌==◌, int_lt, not, Bool, false, List, [], ◌∷◌, ◌++◌, length, take, Option, option_map, option_and_then, unwrap_or, if◌then◌else◌}
use Rattle.std.specs.List.{list_any}
use Rattle.std.specs.Option.{option_or}
use Rattle.std.specs.Str.{bytes_eq, encode_utf8_all}
use Rattle.rg_base.specs.Pairs.{value_of}
use Rattle.rg_base.specs.Texts.{is_among}
use Rattle.rg_base.specs.declared.numbers.Moment.{Moment}
use Rattle.rg_base.specs.declared.pair.Pair.{Pair}
use Rattle.rg_defs.specs.declared.service_def.ServiceDef.{ServiceDef}
use Rattle.rg_policy.specs.declared.policy.PolicyCondition.{PolicyCondition}
use Rattle.rg_policy.specs.declared.request.AccessRequest.{AccessRequest}
use Rattle.rg_policy.specs.declared.tags.Tag.{Tag}
use Rattle.rg_cond.specs.declared.rules.Rule.{Rule}
use Rattle.rg_cond.specs.declared.rules.Rule.TheVariants.{Expired, Address, Context}
use Rattle.rg_cond.specs.Dates.{Shown, moment_of, day_of}
use Rattle.rg_cond.specs.Kinds.{rule_of}
use Rattle.rg_cond.specs.Words.{expiry_attribute}

-- the instant that an expiry date writes, in UTC: with a time of day, or else the beginning of the day
unfoldable pub expiry_second : List ℕ → Option ℤ
expiry_second date = option_map (λ (shown : Shown). shown.second) (option_or (moment_of date) (day_of date))

-- the tag's expiry date as it is written: the first attribute of that name
abbrev pub expiry_date : Tag → Option (List ℕ)
expiry_date tag = value_of expiry_attribute tag.attributes.items

-- the instant at which the tag expires, where there is a tag and its date reads
unfoldable pub expiry_of : Option Tag → Option ℤ
expiry_of tag = option_and_then (λ date. expiry_second (encode_utf8_all date)) (option_and_then expiry_date tag)

-- the tag has an expiry date, and the moment is later
unfoldable pub is_expired : Moment → Option Tag → Bool
is_expired moment tag = unwrap_or (option_map (λ second. int_lt second moment.0) (expiry_of tag)) false

-- the character is a `*` with nothing after it
abbrev pub is_lone_star : ℕ → List ℕ → Bool
is_lone_star c rest = c == 42 && bytes_eq rest []

-- the value is the address, or is a front of it followed by `*`
unfoldable pub is_in_range : List ℕ → List ℕ → Bool
is_in_range value address = bytes_eq value address || bytes_eq value (take (length value - 1) address ++ 42 ∷ [])

-- a value stands for the address, which isn't empty
abbrev pub has_address : List (List ℕ) → List ℕ → Bool
has_address values address = not (bytes_eq address []) && list_any (λ value. is_in_range value address) values

-- the context has the key, and its first value is one of these
unfoldable pub has_value : List ℕ → List (List ℕ) → List Pair → Bool
has_value key values context = unwrap_or (option_map (λ value. is_among value values) (value_of key context)) false

-- as it is where it is wanted, else the contrary
abbrev pub as_wanted : Bool → Bool → Bool
as_wanted wanted fact = if wanted then fact else not fact

-- a rule holds
unfoldable pub rule_holds : Rule → AccessRequest → Option Tag → Bool
rule_holds (Expired wanted) request tag = as_wanted wanted (is_expired request.moment tag)
rule_holds (Address values) request tag = has_address values.items request.address
rule_holds (Context key values wanted) request tag = as_wanted wanted (has_value key values.items request.context.items)

-- a condition holds: the rule of the definition's condition of its name does
abbrev pub condition_holds : ServiceDef → PolicyCondition → AccessRequest → Option Tag → Bool
condition_holds def condition request tag = rule_holds (rule_of def condition) request tag
