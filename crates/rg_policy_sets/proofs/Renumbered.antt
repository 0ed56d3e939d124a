-- That the ids of forms play no part in how often they are filed.
use Rattle.std.proofs.Common.{◌≡◌, ◌+◌, ℕ, ℤ, true, false, cond, List, [], ◌∷◌, Option, Some, None, filter, length, map, unwrap_or, refl, sym, ap, ◌∙◌, arith}
use Rattle.std.proofs.lemmas.List.{length-append}
use Rattle.std.proofs.lemmas.List.Elements.{filter-append}
use Rattle.std.proofs.lemmas.List.Sums.{sum_by-cons}
use Rattle.std.specs.List.{sum_by}
use Rattle.rg_base.specs.Folding.{folded}
use Rattle.rg_defs.specs.Paths.{level_of}
use Rattle.rg_defs.specs.declared.service_def.Level.{Level}
use Rattle.rg_defs.specs.declared.service_def.ServiceDef.{ServiceDef}
use Rattle.rg_policy.specs.declared.request.Element.{Element}
use Rattle.rg_resmatch.specs.Tests.{value_at}
use Rattle.rg_trie.specs.Walked.{is_under}
use Rattle.rg_trie.specs.declared.pair.Pair.{Pair}
use Rattle.rg_index.specs.Candidates.{bound, filed_number, least}
use Rattle.rg_index.specs.Filing.{all_pairs, filed_under, form_pairs, keys_at, numbered, pairs}
use Rattle.rg_index.specs.declared.form.Form.{Form}
use Rattle.rg_policy_sets.specs.Kept.{renumbered}

under_as_often : (text : List ℕ) (id other : ℤ) (place : ℕ) (keys : List (List ℕ)) → length (filter (is_under text) (numbered id place keys)) ≡ length (filter (is_under text) (numbered other place keys))
under_as_often text id other place [] = refl
under_as_often text id other place (key ∷ keys) =
    let rest = under_as_often text id other (place + 1) keys in
    let p : Pair = record { key = key; entry = record { id = id; place = place } } in
    let q : Pair = record { key = key; entry = record { id = other; place = place } } in
    let rest_p = filter (is_under text) (numbered id (place + 1) keys) in
    let rest_q = filter (is_under text) (numbered other (place + 1) keys) in
    elim (is_under text p) as (λ b. length (cond b (p ∷ rest_p) rest_p) ≡ length (cond b (q ∷ rest_q) rest_q)) [
      | true ↦ let e : length (p ∷ rest_p) ≡ length (q ∷ rest_q) = omega (arith, rest) in e
      | false ↦ rest
    ]

module _ {X : Type 0} (form : X → Form) (ordinal : X → ℤ) (def : ServiceDef) where
  abbrev again : X → Form
  again x = renumbered (ordinal x) (form x)

  all_under : (name text : List ℕ) (xs : List X) → length (filter (is_under text) (all_pairs def name (map again xs))) ≡ length (filter (is_under text) (all_pairs def name (map form xs)))
  all_under name text [] = refl
  all_under name text (x ∷ xs) =
      let first = form_pairs def name (again x) in
      let second = form_pairs def name (form x) in
      ap length (filter-append (is_under text) first (all_pairs def name (map again xs)))
      ∙ length-append (filter (is_under text) first) (filter (is_under text) (all_pairs def name (map again xs)))
      ∙ (λ i. under_as_often text (ordinal x) (form x).id 0 (keys_at def (form x) name) i + all_under name text xs i)
      ∙ sym (length-append (filter (is_under text) second) (filter (is_under text) (all_pairs def name (map form xs))))
      ∙ ap length (sym (filter-append (is_under text) second (all_pairs def name (map form xs))))

  filed_as_often : (o : Option Level) (name value : List ℕ) (xs : List X) → length (filed_under o value (all_pairs def name (map again xs))) ≡ length (filed_under o value (all_pairs def name (map form xs)))
  filed_as_often None name value xs = refl
  filed_as_often (Some l) name value xs = all_under name (folded l.fold value) xs

  mapped : {Y : Type 0} (f g : Y → ℕ) → ((y : Y) → f y ≡ g y) → (ys : List Y) → map f ys ≡ map g ys
  mapped f g e [] = refl
  mapped f g e (y ∷ ys) = λ i. e y i ∷ mapped f g e ys i

  pub same_bound : (elements : List Element) (xs : List X) → bound def (map again xs) elements ≡ bound def (map form xs) elements
  same_bound elements xs =
      ap least (mapped (filed_number def (map again xs) elements) (filed_number def (map form xs) elements)
      (λ (e : Element). filed_as_often (level_of def e.level) e.level (unwrap_or (value_at elements e.level) []) xs) elements)

  pub same_pairs : (xs : List X) → sum_by (pairs def) (map again xs) ≡ sum_by (pairs def) (map form xs)
  same_pairs [] = refl
  same_pairs (x ∷ xs) =
      sum_by-cons (pairs def) (again x) (map again xs) ∙ ap (λ n. pairs def (form x) + n) (same_pairs xs) ∙ sym (sum_by-cons (pairs def) (form x) (map form xs))
