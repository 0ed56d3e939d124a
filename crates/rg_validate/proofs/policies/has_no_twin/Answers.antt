use Rattle.std.proofs.Common.{◌||◌, ◌≡◌, Bool, true, false, not, ap, refl, sym, ◌∙◌}
use Rattle.rg_same_resources.specs.Twins.{is_twin}
use Rattle.rg_validate.specs.Policies.{has_no_twin}
use Rattle.rg_validate.proofs.Alone.{twin_has}
use Rattle.rg_validate.proofs.policies.has_no_twin.Goals as goal

or_true : (b : Bool) → (b || true) ≡ true
or_true true = refl
or_true false = refl

pub returns-then-is_alone : goal.returns-then-is_alone
unfolding has_no_twin
returns-then-is_alone c =
    let p = c.args.policy.now in
    let none = c.is_alone.ensures (is_twin p) (λ q twin. twin_has c.print_of.result p q c.print_of.ensures twin) c.if-is_alone.true in
    sym (ap (λ b. not p.enabled || not b) none ∙ or_true (not p.enabled))
