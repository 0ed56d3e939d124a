-- What is printed for facts has no float, and nests a few levels.
use Rattle.std.proofs.Common.{◌≡◌, ℕ, ◌≤◌, ◌++◌, false, arith}
use Rattle.serde_json.specs.Data.{depth}
use Rattle.serde_json.specs.Read.{max_depth}
use Rattle.serde_json.specs.Written.{has_float}
use Rattle.rg_base.specs.Listed.{Listed}
use Rattle.rg_facts.specs.declared.facts.Facts.{Facts}
use Rattle.rg_policy.specs.declared.policy.Policy.{Policy}
use Rattle.rg_policy.specs.declared.policy.TimeZoneRow.{TimeZoneRow}
use Rattle.rg_json.specs.Printing.{list_data}
use Rattle.rg_json.proofs.Plain.{Plain, object_plain, list_plain, text_plain, bool_plain, count_plain, option_plain}
use Rattle.rg_wire.specs.Printing.{policy_data}
use Rattle.rg_wire.proofs.Plain.{policy_plain}
use Rattle.rg_cmd_wire.specs.PrintedNames.{name_of}
use Rattle.rg_cmd_wire.specs.PrintedRows.{def_data, role_data, tag_row_data, time_zone_data, time_zone_members, zone_data}
use Rattle.rg_cmd_wire.proofs.Plain.{def_plain, role_plain, tag_row_plain, zone_plain}
use Rattle.rg_download_wire.specs.PrintedFacts.{facts_data, row_members, rule_members}

pub time_zones_plain : (n : ℕ) (ts : Listed TimeZoneRow) → 2 ≤ n → Plain n (list_data time_zone_data ts)
unfolding time_zone_data
time_zones_plain n ts h = list_plain 1 n time_zone_data ts h (λ t. object_plain name_of 0 1 (time_zone_members t) (omega arith) (text_plain 0 t.name, (text_plain 0 t.rule, tt)))

pub policies_plain : (n : ℕ) (ps : Listed Policy) → 7 ≤ n → Plain n (list_data policy_data ps)
policies_plain n ps h = list_plain 6 n policy_data ps h policy_plain

facts_plain : (f : Facts) → Plain 8 (facts_data f)
unfolding facts_data
facts_plain f = object_plain name_of 7 8 (rule_members f ++ row_members f) (omega arith) (
  text_plain 7 f.service,
  (
    bool_plain 7 f.fallback,
    (
      def_plain 7 f.def (omega arith),
      (
        option_plain 7 def_data f.tag_def (λ d. def_plain 7 d (omega arith)),
        (
          policies_plain 7 f.policies (omega arith),
          (
            policies_plain 7 f.tag_policies (omega arith),
            (
              list_plain 6 7 zone_data f.zones (omega arith) zone_plain,
              (
                list_plain 2 7 role_data f.roles (omega arith) role_plain,
                (
                  list_plain 4 7 tag_row_data f.tag_rows (omega arith) tag_row_plain,
                  (
                    time_zones_plain 7 f.time_zones (omega arith),
                    (
                      count_plain 7 f.policy_version.0,
                      (
                        count_plain 7 f.tag_version.0,
                        (
                          count_plain 7 f.role_version.0,
                          tt,
                        ),
                      ),
                    ),
                  ),
                ),
              ),
            ),
          ),
        ),
      ),
    ),
  ),
)

pub facts_have_no_float : (f : Facts) → has_float (facts_data f) ≡ false
facts_have_no_float f = (facts_plain f).0

pub facts_are_shallow : (f : Facts) → depth (facts_data f) ≤ max_depth
facts_are_shallow f = omega (arith, (facts_plain f).1)

pub ruleset facts = (facts_have_no_float, facts_are_shallow)
