-- What covers a pattern is found among those that begin as it does.
use Rattle.std.proofs.Common.{◌≡◌, ◌<◌, ◌&&◌, ℕ, Bool, true, false, List, [], ◌∷◌, Option, Some, None, Contains, length, map, filter, nat_eq, slice_get, refl, sym, ap, subst, ◌∙◌, arith}
use Rattle.std.proofs.lemmas.Bool.{and_from, and_parts, false≢true}
use Rattle.std.proofs.lemmas.Option.{slice_get-get_or}
use Rattle.std.specs.List.{list_any, starts_with}
use Rattle.std.specs.Option.{option_map_or}
use Rattle.rg_base.proofs.Lists.{Contains-filter, Contains-map, Contains-slice_get, any_from, any_holds, same_truth}
use Rattle.rg_base.specs.Folding.{folded_char}
use Rattle.rg_pattern.specs.declared.atoms.Atom.{Atom}
use Rattle.rg_pattern.specs.declared.atoms.Atom.TheVariants.{Character, One, Any, User}
use Rattle.rg_pattern.specs.Atoms.{literal_prefix}
use Rattle.rg_pattern.specs.Tests.{covers}
use Rattle.rg_trie.specs.declared.pair.Filed.{Filed}
use Rattle.rg_trie.specs.declared.pair.Pair.{Pair}
use Rattle.rg_trie.specs.Walked.{entries_under, is_under}
use Rattle.rg_delegate.specs.Covering.{some_covers}
use Rattle.rg_delegate.specs.Filing.{HoldsFirst, covers_at, filed_at}

-- the literal prefix of a pattern that covers another begins the other's
covering_begins : (fold : Bool) (q p : List Atom) → covers fold q p ≡ true → starts_with nat_eq (literal_prefix fold p) (literal_prefix fold q) ≡ true
covering_begins fold [] p h = refl
covering_begins fold (One ∷ q) p h = refl
covering_begins fold (Any ∷ q) p h = refl
covering_begins fold (User ∷ q) p h = refl
covering_begins fold (Character c ∷ q) [] h = absurd (false≢true h)
covering_begins fold (Character c ∷ q) (One ∷ p) h = absurd (false≢true h)
covering_begins fold (Character c ∷ q) (Any ∷ p) h = absurd (false≢true h)
covering_begins fold (Character c ∷ q) (User ∷ p) h = absurd (false≢true h)
covering_begins fold (Character c ∷ q) (Character d ∷ p) h =
    let k = and_parts (nat_eq (folded_char fold c) (folded_char fold d)) (covers fold q p) h in
    and_from (nat_eq (folded_char fold c) (folded_char fold d)) (starts_with nat_eq (literal_prefix fold p) (literal_prefix fold q)) k.0 (covering_begins fold q p k.1)

module _ (fold : Bool) (patterns : List (List Atom)) (trie : List Pair) (p : List Atom) (holds : HoldsFirst fold patterns trie (length patterns)) where
  abbrev found : List Filed
  found = entries_under (literal_prefix fold p) trie

  found_covers : list_any (covers_at fold patterns p) found ≡ true → some_covers fold patterns p ≡ true
  found_covers h = let e = any_holds (covers_at fold patterns p) found h in at e.0.place (slice_get patterns e.0.place) refl e.2 where
    at : (place : ℕ) (o : Option (List Atom)) → slice_get patterns place ≡ o → option_map_or (λ q. covers fold q p) (slice_get patterns place) false ≡ true → some_covers fold patterns p ≡ true
    at place None k g = absurd (false≢true (sym (ap (λ o. option_map_or (λ q. covers fold q p) o false) k) ∙ g))
    at place (Some q) k g = any_from (λ q. covers fold q p) patterns q (Contains-slice_get patterns place q k) (sym (ap (λ o. option_map_or (λ q. covers fold q p) o false) k) ∙ g)

  covering_found : some_covers fold patterns p ≡ true → list_any (covers_at fold patterns p) found ≡ true
  covering_found h =
      let q = any_holds (λ q. covers fold q p) patterns h in
      let place = q.1.0 in
      let there : slice_get patterns place ≡ Some q.0 = slice_get-get_or patterns place q.0 q.1.1 ∙ ap Some q.1.2 in
      let pair = filed_at fold q.0 place in
      let under = Contains-filter (is_under (literal_prefix fold p)) trie pair (holds place q.0 q.1.1 there) (covering_begins fold q.0 p q.2) in
      any_from (covers_at fold patterns p) found pair.entry
      (Contains-map (λ (x : Pair). x.entry) (filter (is_under (literal_prefix fold p)) trie) pair under)
      (ap (λ o. option_map_or (λ q. covers fold q p) o false) there ∙ q.2)

  -- so it is enough to look at what is found
  pub filed_suffice : list_any (covers_at fold patterns p) found ≡ some_covers fold patterns p
  filed_suffice = same_truth (list_any (covers_at fold patterns p) found) (some_covers fold patterns p) found_covers covering_found
