-- Histories of a machine, which is seen as one function from a state and an ask to the new state and the reply.
use Rattle.std.specs.Prelude.{◌≡◌, ℕ, List, [], ◌∷◌, take, Some, slice_get}
use Rattle.rg_turn.specs.declared.rule.Entry.{Entry}

module _ {A R X : Type 0} (transition : X → A → X × R) where
  -- the state after the calls of these entries, from the state s
  abbrev pub state_after : X → List (Entry A R) → X
  state_after s [] = s
  state_after s (e ∷ h) = state_after (transition s e.ask).0 h

  -- the state after the first k entries of h
  abbrev pub state_at : X → List (Entry A R) → ℕ → X
  state_at s h k = state_after s (take k h)

  -- each reply is the machine's, in the state that the entries before it leave
  abbrev pub IsLegal : X → List (Entry A R) → Type 0
  IsLegal s h = (k : ℕ) (e : Entry A R) → slice_get h k ≡ Some e → (transition (state_at s h k) e.ask).1 ≡ e.reply
