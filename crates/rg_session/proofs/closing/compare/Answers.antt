use Rattle.std.proofs.Common.{◌≡◌, ◌∙◌, ℕ, List, None, ap, sym, subst}
use Rattle.rg_publish.specs.Passes.{Seeing}
use Rattle.rg_session.specs.Closing.{ahead_of}
use Rattle.rg_session.proofs.Settled.{none_ahead}
use Rattle.rg_session.proofs.closing.compare.Goals as goal

pub settle_all-requires : goal.settle_all-requires
settle_all-requires g c =
    let passes : List Seeing = c.args.passes.items in
    let told : ahead_of c.serial.result.0 passes ≡ None = ap (ahead_of c.serial.result.0) (sym c.as_slice.ensures.value) ∙ (sym c.first_ahead.ensures ∙ c.in-None.is) in
    none_ahead c.args.publisher.now passes (subst (λ (n : ℕ). ahead_of n passes ≡ None) c.serial.ensures told) c.requires
