-- Time that goes on through one call after another.
use Rattle.std.proofs.Common.{inl, inr, ⊎_elim, ℕ, List, arith}
use Rattle.rg_record_store.specs.Keeping.{Passes}

pub stands : (now : ℕ) (since : ℕ → List (List ℕ) → Type 0) (between : List (List ℕ) → Type 0) → Passes now now since since between
stands now since between = record { later = omega arith; nothing_else = λ t left le h. inl h; keeps = λ t left le h. h }

-- what a crash leaves in a call is among what one leaves in the whole
pub wider : (before now : ℕ) (past since : ℕ → List (List ℕ) → Type 0) (narrow wide : List (List ℕ) → Type 0) → ((left : List (List ℕ)) → narrow left → wide left)
    → Passes before now past since narrow → Passes before now past since wide
wider before now past since narrow wide into h = record {
  later = h.later;
  nothing_else = λ t left le is. ⊎_elim (λ old. inl old) (λ new. inr (into left new)) (h.nothing_else t left le is);
  keeps = h.keeps;
}

pub passes_on : (first mid last : ℕ) (a b c : ℕ → List (List ℕ) → Type 0) (between : List (List ℕ) → Type 0) → Passes first mid a b between → Passes mid last b c between → Passes first last a c between
passes_on first mid last a b c between one two = record {
  later = omega (arith, one.later, two.later);
  nothing_else = λ t left le is. ⊎_elim (λ in_mid. one.nothing_else t left le in_mid) (λ new. inr new) (two.nothing_else t left (omega (arith, le, one.later)) is);
  keeps = λ t left le is. two.keeps t left (omega (arith, le, one.later)) (one.keeps t left le is);
}

pub ruleset passing = (stands)
