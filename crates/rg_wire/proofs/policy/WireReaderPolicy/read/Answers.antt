use Rattle.std.proofs.Common.{◌≡◌, w64, to_z, of_z, sym, subst, rules}
use Rattle.rg_json.specs.Own.{IsInteger}
use Rattle.rg_wire.proofs.policy.WireReaderPolicy.read.Goals as goal

pub returns-clause-owned : goal.returns-clause-owned
returns-clause-owned c =
    let same : to_z w64 (of_z w64 c.i64_at-id.result) ≡ c.i64_at-id.result = search rules in
    let same_type : to_z w64 (of_z w64 c.i64_at-policy_type.result) ≡ c.i64_at-policy_type.result = search rules in
    let same_priority : to_z w64 (of_z w64 c.i64_at-priority.result) ≡ c.i64_at-priority.result = search rules in
    record {
      id = subst IsInteger (sym same) c.i64_at-id.ensures.owned;
      guid = c.in_ok-text_at.ensures.owned;
      service = c.in_ok-text_at-2.ensures.owned;
      name = c.in_ok-text_at-3.ensures.owned;
      policy_type = subst IsInteger (sym same_type) c.i64_at-policy_type.ensures.owned;
      priority = subst IsInteger (sym same_priority) c.i64_at-priority.ensures.owned;
      resources = c.in_ok-resources_at.ensures.owned;
      additional = c.in_ok-list_at.ensures.owned;
      conditions = c.in_ok-list_at-2.ensures.owned;
      items = c.in_ok-list_at-3.ensures.owned;
      deny_items = c.in_ok-list_at-4.ensures.owned;
      allow_exceptions = c.in_ok-list_at-5.ensures.owned;
      deny_exceptions = c.in_ok-list_at-6.ensures.owned;
      mask_items = c.in_ok-list_at-7.ensures.owned;
      filter_items = c.in_ok-list_at-8.ensures.owned;
      schedules = c.in_ok-list_at-9.ensures.owned;
      zone = c.in_ok-text_at-4.ensures.owned;
    }
