-- Slots in pages: which page has an ordinal.
use Rattle.std.proofs.Common.{◌≡◌, ◌<◌, ◌≤◌, ◌==◌, ◌++◌, ◌||◌, ◌&&◌, ℕ, zero, suc, ℤ, pos, ◌+ℤ◌, Bool, true, false, cond, int_lt, List, [], ◌∷◌, Option, Some, None, IfSome, Contains, length, get_or, option_to_list, inl, inr, refl, sym, ap, subst, ◌∙◌, arith, append-nil}
use Rattle.std.proofs.lemmas.Bool.{and_parts, false≢true}
use Rattle.std.proofs.lemmas.Grind.{flat_map-append}
use Rattle.std.proofs.lemmas.List.Folds.{find-append, list_any-append, list_all-append}
use Rattle.std.specs.List.{AllWithin, find, list_all, list_any, slice_get}
use Rattle.std.specs.List.Sorted.{IsPartitionedBy}
use Rattle.std.specs.Option.{option_or, unwrap_or}
use Rattle.std.specs.Ordering.{int_eq}
use Rattle.rg_base.proofs.Lists.{Contains-cases, Contains-flat_map, Contains-none, find_contained, list_any-map}
use Rattle.rg_index.specs.declared.form.Form.{Form}
use Rattle.rg_policy_sets.specs.Kept.{Placed, all_in, are_rising, held_at, is_filled, last_from, last_ordinal, rise_above, slot_id, slot_ids}
use Rattle.rg_policy_sets.specs.Moved.{are_below}
use Rattle.rg_policy_sets.proofs.Reshelved.{own_next, up_joined, up_parts}
use Rattle.rg_policy_sets.proofs.Rising.{below_not_same, holds_it, less_trans, none_found, rest_rises, same_number}
use Rattle.rg_policy_sets.proofs.Visiting.{found_held}

-- ---- the slots of all pages

pub one_or_none : {X : Type 0} (page : Option (List X)) → all_in (option_to_list page) ≡ unwrap_or page []
one_or_none None = refl
one_or_none (Some page) = append-nil page

pub all_more : {X : Type 0} (pages : List (List X)) (page : List X) → all_in (pages ++ page ∷ []) ≡ all_in pages ++ page
all_more pages page = flat_map-append (λ p. p) pages (page ∷ []) ∙ ap (λ l. all_in pages ++ l) (append-nil page)

pub filled_parts : {X : Type 0} (pages : List (List X)) (page : List X) → list_all is_filled (pages ++ page ∷ []) ≡ true → (list_all is_filled pages ≡ true) × (is_filled page ≡ true)
filled_parts pages page all =
    let parts = and_parts (list_all is_filled pages) (list_all is_filled (page ∷ [])) (sym (list_all-append is_filled pages (page ∷ [])) ∙ all) in
    (parts.0, (and_parts (is_filled page) true parts.1).0)

some_not_none : {X : Type 0} (x : X) (xs : List X) → (length (x ∷ xs) == 0) ≡ false
some_not_none x xs = grind arith

-- ---- the last ordinal

module _ {X : Type 0} where
  pub last_end : (n : ℤ) (slots : List (Placed X)) (s : Placed X) → last_from n (slots ++ s ∷ []) ≡ s.ordinal
  last_end n [] s = refl
  last_end n (t ∷ slots) s = last_end t.ordinal slots s

  last_on : (n : ℤ) (xs ys : List (Placed X)) → last_from n (xs ++ ys) ≡ last_from (last_from n xs) ys
  last_on n [] ys = refl
  last_on n (x ∷ xs) ys = last_on x.ordinal xs ys

  last_filled : (n : ℤ) (page : List (Placed X)) → is_filled page ≡ true → last_from n page ≡ last_ordinal page
  last_filled n [] filled = absurd (false≢true filled)
  last_filled n (s ∷ slots) filled = refl

  -- that of the last page
  pub last_of_pages : (pages : List (List (Placed X))) (page : List (Placed X)) → is_filled page ≡ true → last_ordinal (all_in (pages ++ page ∷ [])) ≡ last_ordinal page
  last_of_pages pages page filled = ap last_ordinal (all_more pages page) ∙ last_on (pos 0) (all_in pages) page ∙ last_filled (last_from (pos 0) (all_in pages)) page filled

  pub last_after : (pages : List (List (Placed X))) (slots : List (Placed X)) (s : Placed X) → last_ordinal (all_in pages ++ (slots ++ s ∷ [])) ≡ s.ordinal
  last_after pages slots s = last_on (pos 0) (all_in pages) (slots ++ s ∷ []) ∙ last_end (last_from (pos 0) (all_in pages)) slots s

  all_below : (n : ℤ) (slots : List (Placed X)) → rise_above (Some n) slots ≡ true → (int_lt n (last_from n slots +ℤ pos 1) ≡ true) × (are_below (last_from n slots +ℤ pos 1) slots ≡ true)
  all_below n [] up = (own_next n, refl)
  all_below n (s ∷ slots) up =
      let parts = up_parts (Some n) s slots up in
      let rest = all_below s.ordinal slots parts.1 in
      (less_trans n s.ordinal (last_from s.ordinal slots +ℤ pos 1) parts.0 rest.0, λ i. rest.0 i && rest.1 i)

  -- the next ordinal is above all
  pub next_above : (slots : List (Placed X)) → are_rising slots ≡ true → are_below (last_ordinal slots +ℤ pos 1) slots ≡ true
  next_above [] up = refl
  next_above (s ∷ slots) up = let rest = all_below s.ordinal slots up in λ i. rest.0 i && rest.1 i

  -- ---- slots that rise in pages

  first_rises : (least : Option ℤ) (xs ys : List (Placed X)) → rise_above least (xs ++ ys) ≡ true → rise_above least xs ≡ true
  first_rises least [] ys up = refl
  first_rises least (x ∷ xs) ys up =
      let parts = up_parts least x (xs ++ ys) up in
      up_joined least x xs parts.0 (first_rises (Some x.ordinal) xs ys parts.1)

  rest_up : (n : ℤ) (xs ys : List (Placed X)) → rise_above (Some n) (xs ++ ys) ≡ true → rise_above (Some (last_from n xs)) ys ≡ true
  rest_up n [] ys up = up
  rest_up n (x ∷ xs) ys up = rest_up x.ordinal xs ys (up_parts (Some n) x (xs ++ ys) up).1

  -- the pages after one rise above its last ordinal
  after_page : (least : Option ℤ) (page ys : List (Placed X)) → is_filled page ≡ true → rise_above least (page ++ ys) ≡ true → rise_above (Some (last_ordinal page)) ys ≡ true
  after_page least [] ys filled up = absurd (false≢true filled)
  after_page least (s ∷ slots) ys filled up = rest_up s.ordinal slots ys (up_parts least s (slots ++ ys) up).1

  from_rises : (least : Option ℤ) (slots : List (Placed X)) → rise_above least slots ≡ true → are_rising slots ≡ true
  from_rises None slots up = up
  from_rises (Some n) slots up = rest_rises n slots up

  last_rises : (least : Option ℤ) (xs ys : List (Placed X)) → rise_above least (xs ++ ys) ≡ true → are_rising ys ≡ true
  last_rises least [] ys up = from_rises least ys up
  last_rises least (x ∷ xs) ys up = last_rises (Some x.ordinal) xs ys (up_parts least x (xs ++ ys) up).1

  pub page_rises : (pages : List (List (Placed X))) (page : List (Placed X)) → are_rising (all_in pages) ≡ true → Contains pages page → are_rising page ≡ true
  page_rises [] page up there = absurd (Contains-none page there)
  page_rises (p ∷ pages) page up there = elim (Contains-cases p pages page there) [
    | inl same ↦ subst (λ (l : List (Placed X)). are_rising l ≡ true) same (first_rises None p (all_in pages) up)
    | inr on ↦ page_rises pages page (last_rises None p (all_in pages) up) on
  ]

  -- what a page holds at an ordinal is what all hold there
  pub page_holds : (pages : List (List (Placed X))) (page : List (Placed X)) → are_rising (all_in pages) ≡ true → Contains pages page → (x : ℤ) (h : X) → held_at page x ≡ Some h → held_at (all_in pages) x ≡ Some h
  page_holds pages page up there x h is =
      let s = found_held page (find (λ (s : Placed X). int_eq s.ordinal x) page) h is in
      let found = find_contained (λ (s : Placed X). int_eq s.ordinal x) page s.0 s.1 in
      let among = Contains-flat_map (λ (p : List (Placed X)). p) pages page s.0 there found.0 in
      ap (held_at (all_in pages)) (sym (same_number s.0.ordinal x found.1)) ∙ holds_it (all_in pages) up s.0 among ∙ ap Some s.2

  pub page_gives : (pages : List (List (Placed X))) (page : List (Placed X)) → are_rising (all_in pages) ≡ true → Contains pages page → (x : ℤ) (held : Option X) → held ≡ held_at page x
      → IfSome held (λ (h : X). held_at (all_in pages) x ≡ Some h)
  page_gives pages page up there x None is = tt
  page_gives pages page up there x (Some h) is = page_holds pages page up there x h (sym is)

  -- ---- the page of an ordinal

  first_below : (n x : ℤ) (slots : List (Placed X)) → rise_above (Some n) slots ≡ true → int_lt (last_from n slots) x ≡ true → int_lt n x ≡ true
  first_below n x [] up low = low
  first_below n x (s ∷ slots) up low =
      let parts = up_parts (Some n) s slots up in
      less_trans n s.ordinal x parts.0 (first_below s.ordinal x slots parts.1 low)

  none_after : (n x : ℤ) (slots : List (Placed X)) → rise_above (Some n) slots ≡ true → int_lt (last_from n slots) x ≡ true → find (λ (s : Placed X). int_eq s.ordinal x) slots ≡ None
  none_after n x [] up low = refl
  none_after n x (s ∷ slots) up low =
      let rest = (up_parts (Some n) s slots up).1 in
      ap (λ b. cond b (Some s) (find (λ (s : Placed X). int_eq s.ordinal x) slots)) (below_not_same s.ordinal x (first_below s.ordinal x slots rest low))
      ∙ none_after s.ordinal x slots rest low

  none_below : (least : Option ℤ) (x : ℤ) (slots : List (Placed X)) → rise_above least slots ≡ true → int_lt (last_ordinal slots) x ≡ true → find (λ (s : Placed X). int_eq s.ordinal x) slots ≡ None
  none_below least x [] up low = refl
  none_below least x (s ∷ slots) up low =
      let rest = (up_parts least s slots up).1 in
      ap (λ b. cond b (Some s) (find (λ (s : Placed X). int_eq s.ordinal x) slots)) (below_not_same s.ordinal x (first_below s.ordinal x slots rest low))
      ∙ none_after s.ordinal x slots rest low

  below_page : (n x : ℤ) (pages : List (List (Placed X))) → rise_above (Some n) (all_in pages) ≡ true → list_all is_filled pages ≡ true
      → (j : ℕ) (d : List (Placed X)) → j < length pages → int_lt (last_ordinal (get_or pages j d)) x ≡ true → int_lt n x ≡ true
  below_page n x [] up filled j d l t = absurd (omega arith)
  below_page n x ([] ∷ pages) up filled j d l t = absurd (false≢true filled)
  below_page n x ((s ∷ slots) ∷ pages) up filled zero d l t = first_below n x (s ∷ slots) (first_rises (Some n) (s ∷ slots) (all_in pages) up) t
  below_page n x ((s ∷ slots) ∷ pages) up filled (suc j) d l t =
      first_below n x (s ∷ slots) (first_rises (Some n) (s ∷ slots) (all_in pages) up)
      (below_page (last_from s.ordinal slots) x pages (after_page (Some n) (s ∷ slots) (all_in pages) refl up) filled j d (omega arith) t)

  pub pages_parted : (x : ℤ) (pages : List (List (Placed X))) → are_rising (all_in pages) ≡ true → list_all is_filled pages ≡ true
      → IsPartitionedBy (λ (p : List (Placed X)). int_lt (last_ordinal p) x) pages
  pages_parted x [] up filled i j d b l t = absurd (omega arith)
  pages_parted x (p ∷ pages) up filled zero zero d b l t = t
  pages_parted x (p ∷ pages) up filled zero (suc j) d b l t =
      let parts = and_parts (is_filled p) (list_all is_filled pages) filled in
      below_page (last_ordinal p) x pages (after_page None p (all_in pages) parts.0 up) parts.1 j d (omega arith) t
  pages_parted x (p ∷ pages) up filled (suc i) zero d b l t = absurd (omega arith)
  pages_parted x (p ∷ pages) up filled (suc i) (suc j) d b l t =
      let parts = and_parts (is_filled p) (list_all is_filled pages) filled in
      pages_parted x pages (last_rises None p (all_in pages) up) parts.1 i j d (omega arith) (omega arith) t

  first_none : (o : Option (Placed X)) (r : Option (Placed X)) → o ≡ None → option_or o r ≡ r
  first_none o r none = ap (λ q. option_or q r) none

  rest_none : (o : Option (Placed X)) (r : Option (Placed X)) → r ≡ None → option_or o r ≡ o
  rest_none None r none = none
  rest_none (Some s) r none = refl

  pub found_in_page : (x : ℤ) (pages : List (List (Placed X))) (i : ℕ) → are_rising (all_in pages) ≡ true → list_all is_filled pages ≡ true → i ≤ length pages
      → AllWithin (λ (p : List (Placed X)). int_lt (last_ordinal p) x ≡ true) pages 0 i → AllWithin (λ (p : List (Placed X)). int_lt (last_ordinal p) x ≡ false) pages i (length pages)
      → find (λ (s : Placed X). int_eq s.ordinal x) (all_in pages) ≡ find (λ (s : Placed X). int_eq s.ordinal x) (all_in (option_to_list (slice_get pages i)))
  found_in_page x [] i up filled l low high = refl
  found_in_page x (p ∷ pages) zero up filled l low high =
      let parts = and_parts (is_filled p) (list_all is_filled pages) filled in
      let q : Placed X → Bool = λ s. int_eq s.ordinal x in
      find-append q p (all_in pages)
      ∙ rest_none (find q p) (find q (all_in pages)) (none_found (last_ordinal p) x (all_in pages) (high 0 p (omega arith) (omega arith)) (after_page None p (all_in pages) parts.0 up))
      ∙ ap (find q) (sym (append-nil p))
  found_in_page x (p ∷ pages) (suc i) up filled l low high =
      let parts = and_parts (is_filled p) (list_all is_filled pages) filled in
      let q : Placed X → Bool = λ s. int_eq s.ordinal x in
      find-append q p (all_in pages)
      ∙ first_none (find q p) (find q (all_in pages)) (none_below None x p (first_rises None p (all_in pages) up) (low 0 p (omega arith) (omega arith)))
      ∙ found_in_page x pages i (last_rises None p (all_in pages) up) parts.1 (omega arith) (λ k d b m. low (suc k) d (omega arith) (omega arith)) (λ k d b m. high (suc k) d (omega arith) (omega arith))

  -- ---- all pages

  pub any_page : (form : X → Form) (id : ℤ) (pages : List (List (Placed X)))
      → list_any (λ (p : List (Placed X)). list_any (λ (s : Placed X). int_eq (slot_id form s) id) p) pages ≡ list_any (λ (i : ℤ). int_eq i id) (slot_ids form (all_in pages))
  any_page form id [] = refl
  any_page form id (p ∷ pages) =
      ap (λ b. list_any (λ (s : Placed X). int_eq (slot_id form s) id) p || b) (any_page form id pages ∙ list_any-map (λ (i : ℤ). int_eq i id) (slot_id form) (all_in pages))
      ∙ sym (list_any-append (λ (s : Placed X). int_eq (slot_id form s) id) p (all_in pages))
      ∙ sym (list_any-map (λ (i : ℤ). int_eq i id) (slot_id form) (p ++ all_in pages))

  pub none_in_pages : (pages : List (List (Placed X))) → list_all is_filled pages ≡ true → (length pages == 0) ≡ (length (all_in pages) == 0)
  none_in_pages [] filled = refl
  none_in_pages ([] ∷ pages) filled = absurd (false≢true filled)
  none_in_pages ((s ∷ slots) ∷ pages) filled = some_not_none (s ∷ slots) pages ∙ sym (some_not_none s (slots ++ all_in pages))
