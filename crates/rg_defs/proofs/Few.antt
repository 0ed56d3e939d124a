-- What the rules of a definition bound.
use Rattle.std.proofs.Common.{◌≡◌, ◌∷◌, [], ℕ, List, true, false, Bool, None, drop, option_map, refl}
use Rattle.std.specs.List.{find, list_all}
use Rattle.std.specs.Prelude.{not}
use Rattle.std.proofs.lemmas.Bool.{and_from, and_parts}
use Rattle.rg_defs.specs.declared.service_def.ServiceDef.{ServiceDef}
use Rattle.rg_defs.specs.Rules.{def_fault, levels_rule, name_rule, parents_rule, rules_of}

-- where no rule fails, neither does the first, nor one of the others
one_more : (n : ℕ) (b : Bool) (rules : List (ℕ × Bool)) → option_map (λ (r : ℕ × Bool). r.0) (find (λ (r : ℕ × Bool). not r.1) ((n, b) ∷ rules)) ≡ None
    → (b ≡ true) × (option_map (λ (r : ℕ × Bool). r.0) (find (λ (r : ℕ × Bool). not r.1) rules) ≡ None)
one_more n true rules e = (refl, e)
one_more n false rules e = absurd (cc)

each_holds : (rules : List (ℕ × Bool)) → option_map (λ (r : ℕ × Bool). r.0) (find (λ (r : ℕ × Bool). not r.1) rules) ≡ None → list_all (λ (r : ℕ × Bool). r.1) rules ≡ true
each_holds [] e = refl
each_holds (r ∷ rules) e = let k = one_more r.0 r.1 rules e in and_from r.1 (list_all (λ (r : ℕ × Bool). r.1) rules) k.0 (each_holds rules k.1)

rules_hold : (def : ServiceDef) → def_fault def ≡ None → list_all (λ (r : ℕ × Bool). r.1) (rules_of def) ≡ true
unfolding def_fault
rules_hold def h = each_holds (rules_of def) h

later_rules : ServiceDef → ℕ → Bool
later_rules def n = list_all (λ (r : ℕ × Bool). r.1) (drop n (rules_of def))

pub levels_hold : (def : ServiceDef) → def_fault def ≡ None → (levels_rule def.levels.items ≡ true) × (parents_rule def.levels.items ≡ true)
unfolding later_rules
levels_hold def h =
    let first = and_parts (name_rule def) (later_rules def 1) (rules_hold def h) in
    let second = and_parts (levels_rule def.levels.items) (later_rules def 2) first.1 in
    let third = and_parts (parents_rule def.levels.items) (later_rules def 3) second.1 in
    (second.0, third.0)
