use Rattle.std.proofs.Common.{not, ap, sym}
use Rattle.rg_validate.specs.Policies.{is_namesake}
use Rattle.rg_validate.proofs.Alone.{namesake_has}
use Rattle.rg_validate.proofs.policies.policy_name_is_new.Goals as goal

pub returns-then-is_alone : goal.returns-then-is_alone
returns-then-is_alone c =
    let p = c.args.policy.now in
    sym (ap not (c.is_alone.ensures (is_namesake p) (λ q same. namesake_has c.name_print_of.result p q c.name_print_of.ensures same) c.if-is_alone.true))
