use Rattle.std.proofs.Common.{◌≡◌, ◌↔◌, IsTrue, sym, subst}
use Rattle.std.proofs.lemmas.Result.{IfOk-weaker}
use Rattle.rg_validate.specs.Valid.{IsValid}
use Rattle.rg_validate.specs.ValidTest.{state_valid}
use Rattle.rg_validate.proofs.ValidExact.{valid_exact}
use Rattle.rg_validate.proofs.valid.is_valid.Goals as goal

pub returns : goal.returns
returns c =
    let s = c.args.state.now in
    record {
      exact = IfOk-weaker c.state_valid.result (λ valid. valid ≡ state_valid s) (λ valid. IsTrue valid ↔ IsValid s)
          (λ valid is. subst (λ b. IsTrue b ↔ IsValid s) (sym is) (valid_exact s)) c.state_valid.ensures;
    }
