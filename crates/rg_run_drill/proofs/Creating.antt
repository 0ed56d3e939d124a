-- What the creation of one more policy makes of an administration that is running.
use Rattle.std.proofs.Common.{◌≡◌, ◌∙◌, ℕ, ◌+◌, Bool, true, false, Option, Some, ap, sym, option_map, option_and_then}
use Rattle.std.proofs.Math.Numerals.{suc-eq-add-one}
use Rattle.rg_base.specs.declared.numbers.Serial.{Serial}
use Rattle.rg_policy.specs.declared.policy.Policy.{Policy}
use Rattle.rg_cmd.specs.declared.ask.Ask.{Ask}
use Rattle.rg_drill.specs.Workload.{policies_of, policy_of}
use Rattle.rg_publish.specs.Passes.{Ends}
use Rattle.rg_run_replay.specs.Running.{IsRefreshed, Running, asked, refreshed}
use Rattle.rg_run_drill.specs.Drill.{created, creation, is_due, prepared, refreshed_newest}

module _ (due : Bool) (old then_asked : Running) (p : Policy) (ask : Ask) (is : ask ≡ creation p) (after : then_asked ≡ asked old ask) where
  same : asked old (creation p) ≡ then_asked
  same = sym (after ∙ ap (asked old) is)

  pub not_refreshed : due ≡ false → created due old p ≡ Some then_asked
  not_refreshed off = ap (λ b. created b old p) off ∙ ap Some same

  pub refreshed_then : (new : Running) (given : Option Serial) → due ≡ true → Ends then_asked.published (λ q. IsRefreshed then_asked q given new) → created due old p ≡ Some new
  refreshed_then new given on ends =
      ap (λ b. created b old p) on ∙ ap refreshed_newest same ∙ ap (option_map (refreshed then_asked)) ends.1 ∙ ap Some (sym ends.2.after)

pub one_more_policy : (start : Option Running) (policies k x g : ℕ) (r new : Running) (p : Policy) → prepared start policies k x ≡ Some r → g ≡ (policies_of k x).next
    → p ≡ (policy_of (k + 1) g).value → created (is_due policies (k + 1)) r p ≡ Some new → prepared start policies (k + 1) x ≡ Some new
one_more_policy start policies k x g r new p so_far drawn is made =
    ap (λ n. prepared start policies n x) (sym (suc-eq-add-one k))
    ∙ ap (option_and_then (λ z. created (is_due policies (k + 1)) z (policy_of (k + 1) (policies_of k x).next).value)) so_far
    ∙ ap (created (is_due policies (k + 1)) r) (sym (is ∙ ap (λ n. (policy_of (k + 1) n).value) drawn)) ∙ made

-- the number behind one more policy
pub policies_go_on : (k x : ℕ) → (policy_of (k + 1) (policies_of k x).next).next ≡ (policies_of (k + 1) x).next
policies_go_on k x = ap (λ n. (policies_of n x).next) (suc-eq-add-one k)
