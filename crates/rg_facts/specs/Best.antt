-- For proofs: the best so far, while candidates are asked one after the other.
use Rattle.std.specs.Prelude.{ℕ, int_lt, eqb, nat_lt, Bool, ◌&&◌, ◌||◌, List, [], ◌∷◌, fold, Option, Some, None, option_map, if◌then◌else◌}
use Rattle.rg_policy.specs.declared.policy.Policy.{Policy}
use Rattle.rg_facts.specs.Candidates.{Candidate, Setting}
use Rattle.rg_facts.specs.Choices.{Choice, goes_before, offered}
use Rattle.rg_facts.specs.Flow.{Outcome, cell_at, outcome_from}
use Rattle.rg_facts.specs.declared.best.Pass.{Pass}
use Rattle.rg_facts.specs.declared.best.Pass.TheVariants.{Access, Choices, All}
use Rattle.rg_facts.specs.declared.choice.Kind.TheVariants.{Mask, Filter}

-- the new one where it goes before the best so far, else the best so far
abbrev pub better : {X : Type 0} → (X → X → Bool) → Option X → X → X
better before None x = x
better before (Some b) x = if before x b then x else b

-- the best of these, from the best so far
abbrev pub best_from : {X : Type 0} → (X → X → Bool) → Option X → List X → Option X
best_from before best [] = best
best_from before best (x ∷ xs) = best_from before (Some (better before best x)) xs

-- the best so far after one more, if there is one
abbrev pub better_of : {X : Type 0} → (X → X → Bool) → Option X → Option X → Option X
better_of before best None = best
better_of before best (Some x) = Some (better before best x)

-- by the cell, then by the id
abbrev pub ranks_before : ℕ × Policy → ℕ × Policy → Bool
ranks_before r b = nat_lt r.0 b.0 || (eqb r.0 b.0 && int_lt r.1.id.0 b.1.id.0)

-- the cell in which a candidate stands, and its policy
unfoldable pub ranked : Setting → Candidate → Option (ℕ × Policy)
ranked s c = option_map (λ n. (n, c.source.policy)) (cell_at s c)

pub record Best : Type 0 where
  pub decider : Option (ℕ × Policy)
  pub filter : Option Choice
  pub mask : Option Choice

abbrev pub none_yet : Best
none_yet = record { decider = None; filter = None; mask = None }

-- after one more was asked what access it gives
abbrev pub access_asked : Setting → Best → Candidate → Best
access_asked s b c = record { decider = better_of ranks_before b.decider (ranked s c); filter = b.filter; mask = b.mask }

-- after one more was asked what row filter and mask it offers
abbrev pub choices_asked : Setting → Best → Candidate → Best
choices_asked s b c = record {
  decider = b.decider;
  filter = better_of goes_before b.filter (offered s Filter c);
  mask = better_of goes_before b.mask (offered s Mask c);
}

-- after one more was asked what a pass asks
abbrev pub asked : Pass → Setting → Best → Candidate → Best
asked Access s b c = access_asked s b c
asked Choices s b c = choices_asked s b c
asked All s b c = choices_asked s (access_asked s b c) c

-- after each of these
abbrev pub after : Pass → Setting → List Candidate → Best → Best
after pass s cs b = fold (asked pass s) b cs

-- what the best so far gives
abbrev pub outcome_by : Bool → Best → Outcome
outcome_by fallback b = outcome_from fallback b.decider b.filter b.mask
