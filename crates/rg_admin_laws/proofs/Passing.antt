-- For proofs alone: what it says of a command that no rule fails.
use Rattle.std.proofs.Common.{◌≡◌, ◌<◌, ◌^◌, ℕ, ltb, true, false, not, cond, List, [], ◌∷◌, ◌++◌, Option, Some, None, slice_get, zero, suc, refl, sym, subst}
use Rattle.std.specs.Option.{option_map, option_or}
use Rattle.std.specs.List.{find}
use Rattle.std.proofs.lemmas.Bool.{ltb-true}
use Rattle.std.proofs.lemmas.Option.{none-some, same_Some}
use Rattle.rg_cmd.specs.declared.ask.AdminCommand.{AdminCommand}
use Rattle.rg_cmd.specs.declared.ask.Ask.{Ask}
use Rattle.rg_cmd.specs.declared.rule.Rule.TheVariants.{L1}
use Rattle.rg_cmd.specs.declared.state.State.{State}
use Rattle.rg_delegate.specs.Rules.{authority_fault}
use Rattle.rg_validate.specs.Failing.{Tested, first_failing}
use Rattle.rg_validate.specs.Rules.{command_rules, first_fault, limit_rules, only_reads}
use Rattle.rg_admin_laws.specs.Steps.{fault}
use Rattle.rg_admin_laws.proofs.Lists.{case}

-- the first rule is passed, and no later one fails
pub passed_first : (t : Tested) (rules : List Tested) → first_failing (t ∷ rules) ≡ None → (t.1 ≡ true) × (first_failing rules ≡ None)
passed_first t rules h = case (λ b. t.1 ≡ b → option_map (λ (r : Tested). r.0) (cond (not b) (Some t) (find (λ (r : Tested). not r.1) rules)) ≡ None → (b ≡ true) × (first_failing rules ≡ None)) t.1
    (λ _ _ rest. (refl, rest)) (λ _ _ bad. absurd (none-some t.0 (sym bad))) refl h

-- the rule at this place is passed where none fails
pub passed_at : (rules : List Tested) → first_failing rules ≡ None → (k : ℕ) (t : Tested) → slice_get rules k ≡ Some t → t.1 ≡ true
passed_at [] h k t at = absurd (none-some t at)
passed_at (r ∷ rules) h zero t at = subst (λ (x : Tested). x.1 ≡ true) (same_Some r t at) (passed_first r rules h).0
passed_at (r ∷ rules) h (suc k) t at = passed_at rules (passed_first r rules h).1 k t at

-- none of both fails
pub none_of_both : (rules more : List Tested) → first_failing (rules ++ more) ≡ None → (first_failing rules ≡ None) × (first_failing more ≡ None)
none_of_both [] more h = (refl, h)
none_of_both (r ∷ rules) more h =
    case (λ b. option_map (λ (t : Tested). t.0) (cond (not b) (Some r) (find (λ (t : Tested). not t.1) (rules ++ more))) ≡ None
    → (option_map (λ (t : Tested). t.0) (cond (not b) (Some r) (find (λ (t : Tested). not t.1) rules)) ≡ None) × (first_failing more ≡ None)) r.1
    (λ _ rest. none_of_both rules more rest) (λ _ bad. absurd (none-some r.0 (sym bad))) h

or_none : {X : Type 0} (a b : Option X) → option_or a b ≡ None → a ≡ None
or_none None b h = refl
or_none (Some x) b h = absurd (none-some x (sym h))

-- an ask that no rule refuses
pub record IsPassed (s : State) (c : AdminCommand) : Type 0 where
  pub limit : only_reads c ≡ false → s.count < 2 ^ 62
  pub rules : first_failing (command_rules s c) ≡ None

pub passed : (s : State) (ask : Ask) → fault s ask ≡ None → IsPassed s ask.command
passed s ask h =
    let both = none_of_both (limit_rules s ask.command) (command_rules s ask.command) (or_none (first_fault s ask) (authority_fault s ask) h) in record {
      limit = λ changes. ltb-true s.count (2 ^ 62) (passed_first (L1, ltb s.count (2 ^ 62)) [] (subst (λ b. first_failing (cond b [] ((L1, ltb s.count (2 ^ 62)) ∷ [])) ≡ None) changes both.0)).0;
      rules = both.1;
    }
