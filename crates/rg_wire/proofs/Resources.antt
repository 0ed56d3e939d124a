-- The levels that come from a map stand in order.
use Rattle.std.proofs.Common.{◌≡◌, ℕ, List, [], ◌∷◌, map, sym, ap₂, ◌∙◌, subst}
use Rattle.std.specs.Ordering.{nat_cmp}
use Rattle.std.specs.Cmp.Lexicographic.{slice_cmp}
use Rattle.std.proofs.lemmas.Str.{encodes-chars}
use Rattle.serde_json.specs.Data.{Data}
use Rattle.rg_base.specs.Listed.{Listed}
use Rattle.rg_policy.specs.declared.policy.PolicyResource.{PolicyResource}
use Rattle.rg_json.specs.Fields.{map_at, map_of, members_in, within}
use Rattle.rg_json.specs.Own.{IsSorted, OwnList}
use Rattle.rg_wire.specs.Own.{IsInOrder, IsResource, OwnResources}
use Rattle.rg_wire.specs.Records.{policy_resource_of}

in_order : (ms : List (List ℕ × Data)) → IsSorted ms → IsInOrder (map policy_resource_of ms)
unfolding policy_resource_of
in_order [] h = tt
in_order (m ∷ []) h = (tt, tt)
in_order (m ∷ n ∷ ms) h = (ap₂ (slice_cmp nat_cmp) (encodes-chars m.0 h.0) (encodes-chars n.0 h.2.0) ∙ h.1, in_order (n ∷ ms) h.2)

pub resources_own : (rs : Listed PolicyResource) (key : List ℕ) (d : Data) → rs ≡ map_at policy_resource_of key d → IsSorted (members_in (within key d))
    → OwnList IsResource rs → OwnResources rs
unfolding map_at map_of
resources_own rs key d read sorted own = record {
  each = own.0;
  ordered = subst (λ (xs : Listed PolicyResource). IsInOrder xs.items) (sym read) (in_order (members_in (within key d)) sorted);
  whole = own.1;
}

pub map_own : (rs : Listed PolicyResource) (d : Data) → rs ≡ map_of policy_resource_of d → IsSorted (members_in d) → OwnList IsResource rs → OwnResources rs
unfolding map_of
map_own rs d read sorted own = record {
  each = own.0;
  ordered = subst (λ (xs : Listed PolicyResource). IsInOrder xs.items) (sym read) (in_order (members_in d) sorted);
  whole = own.1;
}

pub ruleset resources = (resources_own, map_own)
