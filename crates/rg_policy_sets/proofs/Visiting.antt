-- What the slots of candidates hold.
use Rattle.std.proofs.Common.{◌≡◌, ◌≤◌, ◌++◌, ◌||◌, ℤ, Bool, true, false, cond, List, [], ◌∷◌, Option, Some, None, IfSome, MatchOption, Contains, length, option_map, option_to_list, inl, inr, refl, sym, ap, subst, ◌∙◌, arith}
use Rattle.std.proofs.lemmas.Bool.{and_parts, false≢true}
use Rattle.std.proofs.lemmas.List.{length-append}
use Rattle.std.proofs.lemmas.Option.{none-some, same_Some}
use Rattle.std.specs.List.{find, list_all}
use Rattle.std.specs.Ordering.{int_eq}
use Rattle.rg_base.proofs.Lists.{Contains-cases, Contains-first, Contains-flat_map, Contains-flat_mapped, Contains-map, Contains-none, any_from, find_contained}
use Rattle.rg_policy_sets.specs.Kept.{Placed, all_held, are_rising, held_at, held_in, is_held}
use Rattle.rg_policy_sets.proofs.Rising.{holds_it, same_number, same_ordinal}

module _ {X : Type 0} (slots : List (Placed X)) where
  -- an ordinal that is held leads to its slot
  pub held_there : (ordinal : ℤ) → is_held slots ordinal ≡ true → (x : X) × (held_at slots ordinal ≡ Some x)
  held_there ordinal = at slots where
    at : (slots : List (Placed X)) → is_held slots ordinal ≡ true → (x : X) × (held_at slots ordinal ≡ Some x)
    at [] h = absurd (false≢true h)
    at (s ∷ slots) h = both (int_eq s.ordinal ordinal) h (at slots) where
      both : (b : Bool) → (b || is_held slots ordinal) ≡ true → (is_held slots ordinal ≡ true → (x : X) × (held_at slots ordinal ≡ Some x))
          → (x : X) × (option_map (λ (s : Placed X). s.held) (cond b (Some s) (find (λ (s : Placed X). int_eq s.ordinal ordinal) slots)) ≡ Some x)
      both true h rest = (s.held, refl)
      both false h rest = rest h

  pub few_held : (ordinals : List ℤ) → length (all_held slots ordinals) ≤ length ordinals
  few_held [] = omega arith
  few_held (o ∷ ordinals) =
      let rest = few_held ordinals in
      let both = length-append (option_to_list (held_at slots o)) (all_held slots ordinals) in
      let first = one (held_at slots o) in
      omega (arith, rest, both, first) where
        one : (o : Option X) → length (option_to_list o) ≤ 1
        one None = omega arith
        one (Some x) = omega arith

  in_option : (o : Option X) (x : X) → Contains (option_to_list o) x → o ≡ Some x
  in_option None x h = absurd (Contains-none x h)
  in_option (Some y) x h = elim (Contains-cases y [] x h) [
    | inl same ↦ ap Some same
    | inr on ↦ absurd (Contains-none x on)
  ]

  pub found_held : (o : Option (Placed X)) (x : X) → option_map (λ (s : Placed X). s.held) o ≡ Some x → (s : Placed X) × (o ≡ Some s) × (s.held ≡ x)
  found_held None x e = absurd (none-some x e)
  found_held (Some s) x e = (s, refl, same_Some s.held x e)

  -- what is visited is held
  pub among_held : (ordinals : List ℤ) (x : X) → Contains (all_held slots ordinals) x → Contains (held_in slots) x
  among_held ordinals x h =
      let o = Contains-flat_mapped (λ (ordinal : ℤ). option_to_list (held_at slots ordinal)) ordinals x h in
      let s = found_held (find (λ (s : Placed X). int_eq s.ordinal o.0) slots) x (in_option (held_at slots o.0) x o.2) in
      subst (Contains (held_in slots)) s.2 (Contains-map (λ (s : Placed X). s.held) slots s.0 (find_contained (λ (s : Placed X). int_eq s.ordinal o.0) slots s.0 s.1).0)

  -- a slot whose ordinal is visited is visited
  pub visited : are_rising slots ≡ true → (ordinals : List ℤ) (s : Placed X) → Contains slots s → Contains ordinals s.ordinal → Contains (all_held slots ordinals) s.held
  visited up ordinals s there asked =
      Contains-flat_map (λ (ordinal : ℤ). option_to_list (held_at slots ordinal)) ordinals s.ordinal s.held asked
      (subst (λ (o : Option X). Contains (option_to_list o) s.held) (sym (holds_it slots up s there)) (Contains-first s.held []))

  -- an ordinal of a form of a slot is held
  pub is_there : (ordinal : ℤ) (s : Placed X) → Contains slots s → s.ordinal ≡ ordinal → is_held slots ordinal ≡ true
  is_there ordinal s there e = any_from (λ (s : Placed X). int_eq s.ordinal ordinal) slots s there (same_ordinal s.ordinal ordinal e)

  -- the slot of the first ordinal comes next
  pub next_held : (o : ℤ) (rest : List ℤ) → list_all (is_held slots) (o ∷ rest) ≡ true → (result : Option X) → result ≡ held_at slots o
      → MatchOption result ((all_held slots (o ∷ rest) ≡ []) × (all_held slots rest ≡ [])) (λ (x : X). all_held slots (o ∷ rest) ≡ x ∷ all_held slots rest)
  next_held o rest held result is =
      let x = held_there o (and_parts (is_held slots o) (list_all (is_held slots) rest) held).0 in
      subst (λ (r : Option X). MatchOption r ((all_held slots (o ∷ rest) ≡ []) × (all_held slots rest ≡ [])) (λ (x : X). all_held slots (o ∷ rest) ≡ x ∷ all_held slots rest)) (sym (is ∙ x.1))
      (ap (λ (p : Option X). option_to_list p ++ all_held slots rest) x.1)

  pub rest_held : (o : ℤ) (rest : List ℤ) → list_all (is_held slots) (o ∷ rest) ≡ true → list_all (is_held slots) rest ≡ true
  rest_held o rest held = (and_parts (is_held slots o) (list_all (is_held slots) rest) held).1

-- where a slot holds something, there is one
pub held_some : {X : Type 0} (ordinal : ℤ) (slots : List (Placed X)) (x : X) → held_at slots ordinal ≡ Some x → is_held slots ordinal ≡ true
held_some {X = X} ordinal slots x e =
    let s = found_held slots (find (λ (s : Placed X). int_eq s.ordinal ordinal) slots) x e in
    let there = find_contained (λ (s : Placed X). int_eq s.ordinal ordinal) slots s.0 s.1 in
    any_from (λ (s : Placed X). int_eq s.ordinal ordinal) slots s.0 there.0 there.1

-- what a slot holds by itself, if that has the ordinal, is what the slots hold at the ordinal
pub held_alone : {X : Type 0} (ordinal : ℤ) (slots : List (Placed X)) → are_rising slots ≡ true → (s : Placed X) → Contains slots s → (held : Option X) → held ≡ held_at (s ∷ []) ordinal
    → IfSome held (λ (x : X). held_at slots ordinal ≡ Some x)
held_alone {X = X} ordinal slots up s there held is = subst (λ (o : Option X). IfSome o (λ (x : X). held_at slots ordinal ≡ Some x)) (sym is) (at (int_eq s.ordinal ordinal) refl) where
  at : (b : Bool) → int_eq s.ordinal ordinal ≡ b → IfSome (option_map (λ (s : Placed X). s.held) (cond b (Some s) None)) (λ (x : X). held_at slots ordinal ≡ Some x)
  at true e = ap (held_at slots) (sym (same_number s.ordinal ordinal e)) ∙ holds_it slots up s there
  at false e = tt
