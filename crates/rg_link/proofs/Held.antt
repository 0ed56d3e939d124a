-- What a sink holds that never failed.
use Rattle.std.proofs.Common.{◌≡◌, ◌<◌, ◌≤◌, ◌+◌, ◌⊎◌, inl, inr, ℕ, List, [], ◌∷◌, ◌++◌, Option, Some, sym, ap, ◌∙◌, subst, arith, append_assoc, append-nil}
use Rattle.std.proofs.lemmas.Bool.{cases_lt}
use Rattle.rg_hook.specs.Sinks.{Added, drop_at}
use Rattle.rg_hook.specs.Told.{IsGiven, SinkState}
use Rattle.rg_link.specs.Audits.{AfterLines}

abbrev Grows : SinkState × ℕ → SinkState × ℕ → Type 0
Grows old new = (old.0.faults ≤ new.0.faults) × (new.1 ≤ drop_at)

under : (line : List ℕ) (old new : SinkState × ℕ) → old.1 < drop_at
    → (Added old.0.heard new.0.heard line × (new.0.faults ≡ old.0.faults) × (new.1 ≡ old.1)) ⊎ ((new.0.heard ≡ old.0.heard) × (old.0.faults < new.0.faults) × (new.1 ≡ old.1 + 1)) → Grows old new
under line old new l (inl x) = (omega (arith, x.1), omega (arith, l, x.2))
under line old new l (inr x) = (omega (arith, x.1), omega (arith, l, x.2))

-- a line never lowers the count, and leaves the number within its bound
grows : (line : List ℕ) (old new : SinkState × ℕ) → old.1 ≤ drop_at → IsGiven line old new → Grows old new
grows line old new within g = elim (cases_lt old.1 drop_at) [
  | inl l ↦ under line old new l (g.given l)
  | inr l ↦ subst (Grows old) (sym (g.dropped (omega (arith, within, l)))) (omega arith, within)
]

all_grow : (lines : List (List ℕ)) (old new : SinkState × ℕ) → old.1 ≤ drop_at → AfterLines lines old new → old.0.faults ≤ new.0.faults
all_grow [] old new within x = subst (λ (s : SinkState × ℕ). old.0.faults ≤ s.0.faults) (sym x) (omega arith)
all_grow (line ∷ lines) old new within x =
    let y = grows line old x.0 within x.1 in
    let z = all_grow lines x.0 new y.1 x.2 in
    omega (arith, y.0, z)

heard_more : (before after : Option (List (List ℕ))) (line : List ℕ) (held : List (List ℕ)) → Added before after line → before ≡ Some held → after ≡ Some (held ++ line ∷ [])
heard_more before after line held a e = subst (λ k. Added k after line) e a

more_held : (line : List ℕ) (lines : List (List ℕ)) (old mid new : SinkState × ℕ) (held : List (List ℕ)) → old.1 < drop_at → new.0.faults ≡ old.0.faults → old.0.heard ≡ Some held → AfterLines lines mid new
    → ((more : List (List ℕ)) → AfterLines lines mid new → mid.1 < drop_at → new.0.faults ≡ mid.0.faults → mid.0.heard ≡ Some more → new.0.heard ≡ Some (more ++ lines))
    → (Added old.0.heard mid.0.heard line × (mid.0.faults ≡ old.0.faults) × (mid.1 ≡ old.1)) ⊎ ((mid.0.heard ≡ old.0.heard) × (old.0.faults < mid.0.faults) × (mid.1 ≡ old.1 + 1)) → new.0.heard ≡ Some (held ++ line ∷ lines)
more_held line lines old mid new held l f e rest more (inl x) =
    more (held ++ line ∷ []) rest (omega (arith, l, x.2)) (f ∙ sym x.1) (heard_more old.0.heard mid.0.heard line held x.0 e) ∙ ap Some (append_assoc held (line ∷ []) lines)
more_held line lines old mid new held l f e rest more (inr x) = let y = all_grow lines mid new (omega (arith, l, x.2)) rest in absurd (omega (arith, f, x.1, y))

pub lines_held : (lines : List (List ℕ)) (old new : SinkState × ℕ) (held : List (List ℕ)) → AfterLines lines old new → old.1 < drop_at → new.0.faults ≡ old.0.faults → old.0.heard ≡ Some held → new.0.heard ≡ Some (held ++ lines)
lines_held [] old new held x l f e = subst (λ (s : SinkState × ℕ). s.0.heard ≡ Some (held ++ [])) (sym x) (e ∙ ap Some (sym (append-nil held)))
lines_held (line ∷ lines) old new held x l f e = more_held line lines old x.0 new held l f e x.2 (λ more y m n o. lines_held lines x.0 new more y m n o) (x.1.given l)
