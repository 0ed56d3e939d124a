-- A record of the list is passed by.
use Rattle.std.proofs.Common.{◌≡◌, ℕ, zero, suc, ◌+◌, List, [], ◌∷◌, ◌++◌, take, slice_get, Option, Some, None, refl, sym, ap, ◌∙◌, subst, arith}
use Rattle.std.proofs.lemmas.Option.{none-some, same_Some}
use Rattle.rg_base.specs.Listed.{Listed}
use Rattle.rg_record_store.specs.Keeping.{Gets, IsAt}
use Rattle.rg_recorder.specs.Recorded.{Stands, seen}
use Rattle.rg_recorder.specs.Recording.{IsNext}

-- ---- the first records of a list

take_more : (list : List (List ℕ)) (n : ℕ) (e : List ℕ) → slice_get list n ≡ Some e → take (suc n) list ≡ take n list ++ e ∷ []
take_more [] n e is = absurd (none-some e is)
take_more (x ∷ list) zero e is = ap (λ y. y ∷ []) (same_Some x e is)
take_more (x ∷ list) (suc n) e is = ap (λ ys. x ∷ ys) (take_more list n e is)

take_whole : (list : List (List ℕ)) (n : ℕ) → slice_get list n ≡ None → take n list ≡ list
take_whole [] zero is = refl
take_whole [] (suc n) is = refl
take_whole (x ∷ list) zero is = absurd (none-some x (sym is))
take_whole (x ∷ list) (suc n) is = ap (λ ys. x ∷ ys) (take_whole list n is)

-- ---- what is seen

seen_none : (place : ℕ) (next : Option (Listed ℕ)) → seen None place next ≡ None
seen_none place None = refl
seen_none place (Some next) = refl

seen_first : (list : List (List ℕ)) (place : ℕ) (next : Option (Listed ℕ)) → IsAt (Some list) place next → seen (Some list) place next ≡ Some (take place list)
seen_first list place None at = ap (λ xs. Some xs) (sym (take_whole list place (sym at)))
seen_first list place (Some next) at = refl

-- ---- one record more

next_seen : (told : Option (List (List ℕ))) (place : ℕ) (next : Listed ℕ) (found : Option (Listed ℕ)) → IsAt told place (Some next) → IsAt told (place + 1) found → Gets (seen told place (Some next)) next.items (seen told (place + 1) found)
next_seen None place next found at after = seen_none (place + 1) found
next_seen (Some list) place next found at after =
    let one : place + 1 ≡ suc place = omega arith in
    seen_first list (place + 1) found after ∙ ap (λ n. Some (take n list)) one ∙ ap (λ xs. Some xs) (take_more list place next.items (sym at))

pub passed : (told new : Option (List (List ℕ))) (place : ℕ) (next found : Option (Listed ℕ)) (entry : List ℕ) → new ≡ told → Stands told place next → IsAt told (place + 1) found → IsNext next entry
    → Gets (seen told place next) entry (seen new (place + 1) found)
passed told new place None found entry same is after at = absurd at
passed told new place (Some next) found entry same is after at =
    subst (λ t. Gets (seen told place (Some next)) entry (seen t (place + 1) found)) (sym same)
    (subst (λ e. Gets (seen told place (Some next)) e (seen told (place + 1) found)) (sym at) (next_seen told place next found is.ahead after))
