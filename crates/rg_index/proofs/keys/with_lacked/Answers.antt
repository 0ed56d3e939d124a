use Rattle.std.proofs.Common.{◌≡◌, ◌++◌, ◌∷◌, [], ℕ, List, true, false, append-nil, sym, ap, ◌∙◌}
use Rattle.rg_resmatch.specs.Tests.{names_level}
use Rattle.rg_index.proofs.Filling.{is_lacked, not_lacked}
use Rattle.rg_index.proofs.keys.with_lacked.Goals as goal

pub returns-then-is_named : goal.returns-then-is_named
returns-then-is_named c =
    let keys : List (List ℕ) = c.args.keys.items in
    let named : names_level c.args.resources.now c.args.level.now.name ≡ true = ap (names_level c.args.resources.now) (sym c.as_str.ensures.read) ∙ sym c.is_named.ensures ∙ c.if-is_named.true in
    sym (ap (λ (ks : List (List ℕ)). keys ++ ks) (not_lacked c.args.reach c.args.level.now c.args.resources.now named) ∙ append-nil keys)

pub returns-in_ok-push-in-Down : goal.returns-in_ok-push-in-Down
returns-in_ok-push-in-Down c =
    let keys : List (List ℕ) = c.args.keys.items in
    let unnamed : names_level c.args.resources.now c.args.level.now.name ≡ false = ap (names_level c.args.resources.now) (sym c.as_str.ensures.read) ∙ sym c.is_named.ensures ∙ c.if-is_named.false in
    c.in_ok-push-in-Down.ensures.items ∙ ap (λ (k : List ℕ). keys ++ k ∷ []) c.empty.ensures
    ∙ ap (λ (ks : List (List ℕ)). keys ++ ks) (sym (is_lacked c.args.reach c.args.level.now c.args.resources.now c.in-Down.is unnamed))
