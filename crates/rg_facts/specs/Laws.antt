-- Which candidates lists have, whatever their order.
use Rattle.std.specs.Prelude.{◌≡◌, ◌↔◌, Bool, Contains, List, true}
use Rattle.std.specs.Ordering.{int_eq}
use Rattle.rg_facts.specs.Candidates.{Candidate}

-- the two lists have the same things of those that pass
abbrev pub HaveSame : {X : Type 0} → (X → Bool) → List X → List X → Type 0
HaveSame {X = X} test xs ys = (x : X) → test x ≡ true → Contains xs x ↔ Contains ys x

-- policies of one side that have one id are one policy
abbrev pub AreTold : List Candidate → Type 0
AreTold cs = (c d : Candidate) → Contains cs c → Contains cs d → int_eq c.source.policy.id.0 d.source.policy.id.0 ≡ true → c.source.side ≡ d.source.side
    → c.source.policy ≡ d.source.policy
