-- What a tree holds under a key.
use Rattle.std.specs.Prelude.{◌≡◌, ℕ, zero, suc, ◌==◌, ◌/◌, ◌%◌, not, Bool, List, [], ◌∷◌, ◌++◌, filter, Option, Some, None, if◌then◌else◌}
use Rattle.rg_tree.specs.declared.tree.Placed.{Placed}
use Rattle.rg_tree.specs.declared.tree.Tree.{Tree}
use Rattle.rg_tree.specs.declared.tree.Tree.TheVariants.{Leaf, Fork'}

-- the value of the first of these that has the key
abbrev pub value_of : {V : Type 0} → ℕ → List (Placed V) → Option V
value_of key [] = None
value_of key (p ∷ ps) = if p.key == key then Some p.value else value_of key ps

-- one of four
abbrev pub way : {X : Type 0} → ℕ → X → X → X → X → X
way bits a b c d =
    if bits % 4 == 0 then a else if bits % 4 == 1 then b else if bits % 4 == 2 then c else d

-- what stands under the key, of which these bits are left
abbrev pub found : {V : Type 0} → Tree V → ℕ → ℕ → Option V
found (Leaf placed) key bits = value_of key placed.items
found (Fork' p a q b r c s d) key bits =
    way bits (found a key (bits / 4)) (found b key (bits / 4)) (found c key (bits / 4)) (found d key (bits / 4))

-- the bits of a key that are left at this depth
abbrev pub left_at : ℕ → ℕ → ℕ
left_at zero key = key
left_at (suc depth) key = left_at depth key / 4

-- those of which this way leads on from this depth
abbrev pub going : {V : Type 0} → ℕ → ℕ → List (Placed V) → List (Placed V)
going depth number placed = filter (λ p. left_at depth p.key % 4 == number) placed

-- those that have another key
abbrev pub others : {V : Type 0} → ℕ → List (Placed V) → List (Placed V)
others key placed = filter (λ p. not (p.key == key)) placed

-- those with this value, or none, under the key
abbrev pub set_in : {V : Type 0} → ℕ → Option V → List (Placed V) → List (Placed V)
set_in key None placed = others key placed
set_in key (Some value) placed = others key placed ++ (record { key = key; value = value }) ∷ []

-- a fork of these, but for the one of this number, in whose place the next one stands
abbrev pub IsForked : {V : Type 0} → ℕ → Tree V → Tree V → Tree V → Tree V → Tree V → Tree V → Type 0
IsForked number a b c d next tree = (key bits : ℕ) → found tree key bits ≡
    way bits
    (found (if number == 0 then next else a) key (bits / 4))
    (found (if number == 1 then next else b) key (bits / 4))
    (found (if number == 2 then next else c) key (bits / 4))
    (found (if number == 3 then next else d) key (bits / 4))

-- at this depth the new tree holds the value, or none, under the key, and else what the old one holds
abbrev pub Holds : {V : Type 0} → ℕ → ℕ → Option V → Tree V → Tree V → Type 0
Holds depth key value old new =
    (k : ℕ) → found new k (left_at depth k) ≡ (if k == key then value else found old k (left_at depth k))

-- at this depth the tree holds what stands in the list
abbrev pub HoldsAll : {V : Type 0} → ℕ → List (Placed V) → Tree V → Type 0
HoldsAll depth placed tree = (k : ℕ) → found tree k (left_at depth k) ≡ value_of k placed

-- what stands under the key in the whole tree
abbrev pub at : {V : Type 0} → ℕ → Tree V → Option V
at key tree = found tree key key
