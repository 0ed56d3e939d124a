-- A policy that is put leaves the others as they are.
use Rattle.std.proofs.Common.{◌≡◌, ◌++◌, Bool, true, not, cond, List, [], ◌∷◌, sym, ap, ◌∙◌}
use Rattle.std.proofs.lemmas.List.{append-nil}
use Rattle.std.proofs.lemmas.List.Elements.{filter-append}
use Rattle.rg_cmd.specs.Lists.{put, without}
use Rattle.rg_admin_laws.proofs.Lists.{filter_put_out}

-- the one that is put is the same as those in whose place it is put
pub put_alone : {X : Type 0} (same : X → Bool) (x : X) (xs : List X) → same x ≡ true → without same (put same x xs) ≡ without same xs
put_alone same x xs own = filter_put_out same (λ y. not (same y)) x xs (ap not own) (λ y _ its. ap not its ∙ sym (ap not own))

pub added_alone : {X : Type 0} (same : X → Bool) (x : X) (xs : List X) → same x ≡ true → without same (xs ++ x ∷ []) ≡ without same xs
added_alone same x xs own =
    filter-append (λ y. not (same y)) xs (x ∷ [])
    ∙ ap (λ b. without same xs ++ cond (not b) (x ∷ []) []) own
    ∙ append-nil (without same xs)
