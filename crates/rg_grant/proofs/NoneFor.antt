-- A row has no policy where none has its print.
use Rattle.std.proofs.Common.{◌≡◌, ◌&&◌, ℕ, List, Option, Some, None, refl}
use Rattle.std.specs.List.{find}
use Rattle.std.proofs.lemmas.Bool.{and_parts}
use Rattle.rg_base.proofs.Lists.{find_contained}
use Rattle.rg_policy.specs.Maps.{maps_of}
use Rattle.rg_policy.specs.declared.policy.Policy.{Policy}
use Rattle.rg_cmd.specs.declared.state.State.{State}
use Rattle.rg_same_resources.specs.Counts.{IsCounted, count_of}
use Rattle.rg_same_resources.specs.Prints.{print_of}
use Rattle.rg_same_resources.specs.Twins.{same_maps}
use Rattle.rg_same_resources.proofs.Counting.{none_same}
use Rattle.rg_same_resources.proofs.OnePrint.{one_print}
use Rattle.rg_grant.specs.Planning.{is_for, is_of_kind, map_of, policy_for}
use Rattle.rg_grant.specs.declared.row.GrantRow.{GrantRow}

pub none_counted : (counts : List (ℕ × ℕ)) (s : State) (g : GrantRow) → IsCounted counts s.policies.items → count_of counts (print_of (map_of g)) ≡ 0 → policy_for s g ≡ None
none_counted counts s g counted none = at (policy_for s g) refl
  where
    at : (found : Option Policy) → policy_for s g ≡ found → policy_for s g ≡ None
    at None is = is
    at (Some p) is =
        let there = find_contained (is_for g) s.policies.items p is in
        let maps = (and_parts (is_of_kind g p) (same_maps (map_of g) (maps_of p)) (and_parts p.enabled (is_of_kind g p && same_maps (map_of g) (maps_of p)) there.1).1).1 in
        absurd (none_same counts s.policies.items (print_of (map_of g)) p counted none there.0 (one_print (map_of g) (maps_of p) maps))
