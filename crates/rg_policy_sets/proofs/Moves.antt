-- Slots that move by what was said of their ids, some after others.
use Rattle.std.proofs.Common.{◌≡◌, ◌<◌, ◌+◌, ◌++◌, ◌||◌, ℕ, ℤ, Bool, true, false, cond, List, [], ◌∷◌, take, drop, fold, length, get_or, Option, Some, None, option_to_list, refl, sym, ap, subst, ◌∙◌, arith, append-nil, append_assoc, Contains}
use Rattle.std.proofs.lemmas.Bool.{and_parts}
use Rattle.std.proofs.lemmas.List.{drop_all, map-append, take_all}
use Rattle.std.proofs.lemmas.List.Elements.{Contains-append_right}
use Rattle.std.proofs.lemmas.List.Folds.{list_all-append}
use Rattle.std.proofs.lemmas.List.Sums.{sum_by-append}
use Rattle.std.specs.List.{cons_option, list_all, list_any, sum_by}
use Rattle.std.specs.Ordering.{int_eq}
use Rattle.rg_base.proofs.Lists.{Contains-first, drop_next, take_next}
use Rattle.rg_index.specs.declared.form.Form.{Form}
use Rattle.rg_policy_sets.specs.Kept.{Placed, all_in, slot_form, slot_forms, slot_id}
use Rattle.rg_policy_sets.specs.Moved.{is_touched, moved_slot, moved_slots, places_of}
use Rattle.rg_policy_sets.specs.Plan.{fate_of, is_kept, lost, put_at, put_there}
use Rattle.rg_policy_sets.specs.declared.plan.Fate.{Fate}
use Rattle.rg_policy_sets.specs.declared.plan.Fate.TheVariants.{Stays}
use Rattle.rg_policy_sets.specs.declared.plan.Place.{Place}
use Rattle.rg_policy_sets.proofs.Paged.{all_more}
use Rattle.rg_policy_sets.proofs.Weighing.{or_parts}

cons_append : {A : Type 0} (o : Option A) (xs ys : List A) → cons_option o (xs ++ ys) ≡ cons_option o xs ++ ys
cons_append None xs ys = refl
cons_append (Some a) xs ys = refl

cons_nil : {A : Type 0} (o : Option A) → cons_option o [] ≡ option_to_list o
cons_nil None = refl
cons_nil (Some a) = refl

none_of_both : {A : Type 0} (f g : A → Bool) (xs : List A) → list_any (λ x. f x || g x) xs ≡ false → (list_any f xs ≡ false) × (list_any g xs ≡ false)
none_of_both f g [] h = (refl, refl)
none_of_both f g (x ∷ xs) h =
    let parts = or_parts (f x || g x) (list_any (λ x. f x || g x) xs) h in
    let one = or_parts (f x) (g x) parts.0 in
    let rest = none_of_both f g xs parts.1 in
    (λ i. one.0 i || rest.0 i, λ i. one.1 i || rest.1 i)

plus_assoc : (a b c : ℕ) → a + (b + c) ≡ (a + b) + c
plus_assoc a b c = omega arith

zero_plus : (a : ℕ) → a ≡ 0 + a
zero_plus a = omega arith

plus_zero : (a : ℕ) → a + 0 ≡ a
plus_zero a = omega arith

-- nothing was said of the id
stays : {X : Type 0} (said : List (Place X)) (id : ℤ) (fate : Fate X) → list_any (λ (p : Place X). int_eq id p.id) said ≡ false
    → fold (λ (f : Fate X) (p : Place X). cond (int_eq id p.id) p.fate f) fate said ≡ fate
stays [] id fate none = refl
stays {X = X} (p ∷ said) id fate none =
    let parts = or_parts (int_eq id p.id) (list_any (λ (p : Place X). int_eq id p.id) said) none in
    ap (λ b. fold (λ (f : Fate X) (p : Place X). cond (int_eq id p.id) p.fate f) (cond b p.fate fate) said) parts.0 ∙ stays said id fate parts.1

module _ {X H : Type 0} (form : H → Form) (said : List (Place X)) where
  abbrev pub placed : List (Placed H) → List (Place X)
  placed slots = places_of form said slots

  abbrev pub moved : (X → H) → List (Placed H) → List (Placed H)
  moved hold slots = moved_slots hold (placed slots) slots

  moved_append : (hold : X → H) (xs ys : List (Placed H)) → moved hold (xs ++ ys) ≡ moved hold xs ++ moved hold ys
  moved_append hold [] ys = refl
  moved_append hold (x ∷ xs) ys =
      ap (cons_option (moved_slot hold (fate_of said (slot_id form x)) x)) (moved_append hold xs ys)
      ∙ cons_append (moved_slot hold (fate_of said (slot_id form x)) x) (moved hold xs) (moved hold ys)

  put_append : (xs ys : List (Placed H)) → put_at (placed (xs ++ ys)) ≡ put_at (placed xs) ++ put_at (placed ys)
  put_append [] ys = refl
  put_append (x ∷ xs) ys =
      ap (cons_option (put_there (fate_of said (slot_id form x)))) (put_append xs ys)
      ∙ cons_append (put_there (fate_of said (slot_id form x))) (put_at (placed xs)) (put_at (placed ys))

  lost_append : (u : Placed H → ℕ) (xs ys : List (Placed H)) → lost u (placed (xs ++ ys)) (xs ++ ys) ≡ lost u (placed xs) xs + lost u (placed ys) ys
  lost_append u [] ys = zero_plus (lost u (placed ys) ys)
  lost_append u (x ∷ xs) ys =
      ap (λ n. cond (is_kept (fate_of said (slot_id form x))) 0 (u x) + n) (lost_append u xs ys)
      ∙ plus_assoc (cond (is_kept (fate_of said (slot_id form x))) 0 (u x)) (lost u (placed xs) xs) (lost u (placed ys) ys)

  -- ---- nothing was said of them

  pub untouched_moved : (hold : X → H) (slots : List (Placed H)) → is_touched form said slots ≡ false → moved hold slots ≡ slots
  untouched_moved hold [] none = refl
  untouched_moved hold (s ∷ slots) none =
      let parts = none_of_both (λ (p : Place X). int_eq (slot_id form s) p.id) (λ (p : Place X). list_any (λ (t : Placed H). int_eq (slot_id form t) p.id) slots) said none in
      λ i. cons_option (moved_slot hold (stays said (slot_id form s) Stays parts.0 i) s) (untouched_moved hold slots parts.1 i)

  -- ---- one slot

  module _ (s : Placed H) (f : Fate X) (is_f : f ≡ fate_of said (slot_id form s)) where
    one_moved : (hold : X → H) → moved hold (s ∷ []) ≡ option_to_list (moved_slot hold f s)
    one_moved hold = cons_nil (moved_slot hold (fate_of said (slot_id form s)) s) ∙ ap (λ (g : Fate X). option_to_list (moved_slot hold g s)) (sym is_f)

    one_put : put_at (placed (s ∷ [])) ≡ option_to_list (put_there f)
    one_put = cons_nil (put_there (fate_of said (slot_id form s))) ∙ ap (λ (g : Fate X). option_to_list (put_there g)) (sym is_f)

    one_lost : (u : Placed H → ℕ) → lost u (placed (s ∷ [])) (s ∷ []) ≡ cond (is_kept f) 0 (u s)
    one_lost u = plus_zero (cond (is_kept (fate_of said (slot_id form s))) 0 (u s)) ∙ ap (λ (g : Fate X). cond (is_kept g) 0 (u s)) (sym is_f)

  -- ---- some slots, and those that are left after them

  module _ (all part rest : List (Placed H)) (left : all ≡ part ++ rest) where
    left_put : put_at (placed all) ≡ put_at (placed part) ++ put_at (placed rest)
    left_put = ap (λ l. put_at (placed l)) left ∙ put_append part rest

    left_forms : slot_forms form all ≡ slot_forms form part ++ slot_forms form rest
    left_forms = ap (slot_forms form) left ∙ map-append (slot_form form) part rest

    pub left_fit : (q : X → Bool) → list_all q (put_at (placed all)) ≡ true → (list_all q (put_at (placed part)) ≡ true) × (list_all q (put_at (placed rest)) ≡ true)
    left_fit q h =
        and_parts (list_all q (put_at (placed part))) (list_all q (put_at (placed rest)))
        (sym (list_all-append q (put_at (placed part)) (put_at (placed rest))) ∙ ap (list_all q) (sym left_put) ∙ h)

    pub left_sum : (w : X → ℕ) → sum_by w (put_at (placed all)) ≡ sum_by w (put_at (placed part)) + sum_by w (put_at (placed rest))
    left_sum w = ap (sum_by w) left_put ∙ sum_by-append w (put_at (placed part)) (put_at (placed rest))

    pub left_edits : (u : Placed H → ℕ) (v : X → ℕ) → lost u (placed all) all + sum_by v (put_at (placed all))
        ≡ (lost u (placed part) part + sum_by v (put_at (placed part))) + (lost u (placed rest) rest + sum_by v (put_at (placed rest)))
    left_edits u v =
        let gone = ap (λ l. lost u (placed l) l) left ∙ lost_append u part rest in
        let put = left_sum v in
        omega (arith, gone, put)

    -- the forms of some slots stand before those of the rest
    pub left_amid : (done : List Form) (forms : List Form) → forms ≡ done ++ slot_forms form all → forms ≡ done ++ (slot_forms form part ++ slot_forms form rest)
    left_amid done forms is = is ∙ ap (λ l. done ++ l) left_forms

  -- ---- one slot after the other

  module _ (slots : List (Placed H)) (n : ℕ) (s : Placed H) (within : n < length slots) (is_s : s ≡ get_or slots n s) (f : Fate X) (is_f : f ≡ fate_of said (slot_id form s)) where
    left_slots : drop n slots ≡ (s ∷ []) ++ drop (n + 1) slots
    left_slots = drop_next n slots s within is_s

    taken_slots : (hold : X → H) → moved hold (take (n + 1) slots) ≡ moved hold (take n slots) ++ option_to_list (moved_slot hold f s)
    taken_slots hold = ap (moved hold) (take_next n slots s within is_s) ∙ moved_append hold (take n slots) (s ∷ []) ∙ ap (λ l. moved hold (take n slots) ++ l) (one_moved s f is_f hold)

    pub slot_fits : (q : X → Bool) → list_all q (put_at (placed (drop n slots))) ≡ true → (list_all q (option_to_list (put_there f)) ≡ true) × (list_all q (put_at (placed (drop (n + 1) slots))) ≡ true)
    slot_fits q h =
        let parts = left_fit (drop n slots) (s ∷ []) (drop (n + 1) slots) left_slots q h in
        (ap (list_all q) (sym (one_put s f is_f)) ∙ parts.0, parts.1)

    pub slot_sum : (w : X → ℕ) → sum_by w (put_at (placed (drop n slots))) ≡ sum_by w (option_to_list (put_there f)) + sum_by w (put_at (placed (drop (n + 1) slots)))
    slot_sum w =
        left_sum (drop n slots) (s ∷ []) (drop (n + 1) slots) left_slots w
        ∙ ap (λ l. sum_by w l + sum_by w (put_at (placed (drop (n + 1) slots)))) (one_put s f is_f)

    pub slot_edits : (u : Placed H → ℕ) (v : X → ℕ) → lost u (placed (drop n slots)) (drop n slots) + sum_by v (put_at (placed (drop n slots)))
        ≡ (cond (is_kept f) 0 (u s) + sum_by v (option_to_list (put_there f))) + (lost u (placed (drop (n + 1) slots)) (drop (n + 1) slots) + sum_by v (put_at (placed (drop (n + 1) slots))))
    slot_edits u v =
        let rest = lost u (placed (drop (n + 1) slots)) (drop (n + 1) slots) + sum_by v (put_at (placed (drop (n + 1) slots))) in
        left_edits (drop n slots) (s ∷ []) (drop (n + 1) slots) left_slots u v
        ∙ (λ i. (one_lost s f is_f u i + sum_by v (one_put s f is_f i)) + rest)

    pub slot_moved : (hold : X → H) (first ms new : List (Placed H)) → ms ≡ first ++ moved hold (take n slots) → new ≡ ms ++ option_to_list (moved_slot hold f s)
        → new ≡ first ++ moved hold (take (n + 1) slots)
    slot_moved hold first ms new so_far is =
        is ∙ ap (λ l. l ++ option_to_list (moved_slot hold f s)) so_far
        ∙ append_assoc first (moved hold (take n slots)) (option_to_list (moved_slot hold f s))
        ∙ ap (λ l. first ++ l) (sym (taken_slots hold))

    module _ (hold : X → H) (before after forms : List Form)
        (so_far : forms ≡ before ++ (slot_forms form (moved hold (take n slots)) ++ (slot_forms form (drop n slots) ++ after))) where
      pub slot_between : forms ≡ (before ++ slot_forms form (moved hold (take n slots))) ++ slot_form form s ∷ (slot_forms form (drop (n + 1) slots) ++ after)
      slot_between =
          so_far
          ∙ ap (λ l. before ++ (slot_forms form (moved hold (take n slots)) ++ (slot_forms form l ++ after))) left_slots
          ∙ sym (append_assoc before (slot_forms form (moved hold (take n slots))) (slot_form form s ∷ (slot_forms form (drop (n + 1) slots) ++ after)))

      pub slot_among : Contains forms (slot_form form s)
      slot_among =
          subst (λ l. Contains l (slot_form form s)) (sym slot_between)
          (Contains-append_right (before ++ slot_forms form (moved hold (take n slots))) (slot_form form s ∷ (slot_forms form (drop (n + 1) slots) ++ after)) (slot_form form s)
          (Contains-first (slot_form form s) (slot_forms form (drop (n + 1) slots) ++ after)))

      pub slot_filed : (new : List Form)
          → new ≡ (before ++ slot_forms form (moved hold (take n slots))) ++ (slot_forms form (option_to_list (moved_slot hold f s)) ++ (slot_forms form (drop (n + 1) slots) ++ after))
          → new ≡ before ++ (slot_forms form (moved hold (take (n + 1) slots)) ++ (slot_forms form (drop (n + 1) slots) ++ after))
      slot_filed new is =
          let done = slot_forms form (moved hold (take n slots)) in
          let one = slot_forms form (option_to_list (moved_slot hold f s)) in
          let rest = slot_forms form (drop (n + 1) slots) ++ after in
          is ∙ append_assoc before done (one ++ rest)
          ∙ ap (λ l. before ++ l)
          (sym (append_assoc done one rest)
          ∙ ap (λ l. l ++ rest) (sym (map-append (slot_form form) (moved hold (take n slots)) (option_to_list (moved_slot hold f s))) ∙ ap (slot_forms form) (sym (taken_slots hold))))

  module _ (slots : List (Placed H)) (n : ℕ) (ended : n ≡ length slots) where
    all_taken : take n slots ≡ slots
    all_taken = take_all n slots (omega (arith, ended))

    pub slots_moved : (hold : X → H) (first ms : List (Placed H)) → ms ≡ first ++ moved hold (take n slots) → ms ≡ first ++ moved hold slots
    slots_moved hold first ms so_far = so_far ∙ ap (λ l. first ++ moved hold l) all_taken

    pub slots_filed : (hold : X → H) (before after forms : List Form) → forms ≡ before ++ (slot_forms form (moved hold (take n slots)) ++ (slot_forms form (drop n slots) ++ after))
        → forms ≡ before ++ (slot_forms form (moved hold slots) ++ after)
    slots_filed hold before after forms so_far =
        so_far
        ∙ ap (λ l. before ++ (slot_forms form (moved hold (take n slots)) ++ (slot_forms form l ++ after))) (drop_all n slots (omega (arith, ended)))
        ∙ ap (λ l. before ++ (slot_forms form (moved hold l) ++ after)) all_taken

  -- ---- one page after the other

  module _ (pages : List (List (Placed H))) (n : ℕ) (page : List (Placed H)) (within : n < length pages) (is_page : page ≡ get_or pages n page) where
    pub left_pages : all_in (drop n pages) ≡ page ++ all_in (drop (n + 1) pages)
    left_pages = ap all_in (drop_next n pages page within is_page)

    pub page_moved : (hold : X → H) (ms new : List (Placed H)) → ms ≡ moved hold (all_in (take n pages)) → new ≡ ms ++ moved hold page → new ≡ moved hold (all_in (take (n + 1) pages))
    page_moved hold ms new so_far is =
        is ∙ ap (λ l. l ++ moved hold page) so_far ∙ sym (moved_append hold (all_in (take n pages)) page)
        ∙ ap (moved hold) (sym (ap all_in (take_next n pages page within is_page) ∙ all_more (take n pages) page))

    pub page_filed : (hold : X → H) (ms new : List (Placed H)) (forms : List Form) → new ≡ ms ++ moved hold page
        → forms ≡ slot_forms form ms ++ (slot_forms form (moved hold page) ++ slot_forms form (all_in (drop (n + 1) pages)))
        → forms ≡ slot_forms form new ++ slot_forms form (all_in (drop (n + 1) pages))
    page_filed hold ms new forms is so =
        so
        ∙ sym (append_assoc (slot_forms form ms) (slot_forms form (moved hold page)) (slot_forms form (all_in (drop (n + 1) pages))))
        ∙ ap (λ l. l ++ slot_forms form (all_in (drop (n + 1) pages))) (sym (map-append (slot_form form) ms (moved hold page)) ∙ ap (slot_forms form) (sym is))

  module _ (pages : List (List (Placed H))) (n : ℕ) (ended : n ≡ length pages) where
    pub pages_moved : (hold : X → H) (ms : List (Placed H)) → ms ≡ moved hold (all_in (take n pages)) → ms ≡ moved hold (all_in pages)
    pages_moved hold ms so_far = so_far ∙ ap (λ l. moved hold (all_in l)) (take_all n pages (omega (arith, ended)))

    pub pages_filed : (ms : List (Placed H)) (forms : List Form) → forms ≡ slot_forms form ms ++ slot_forms form (all_in (drop n pages)) → forms ≡ slot_forms form ms
    pages_filed ms forms is = is ∙ ap (λ l. slot_forms form ms ++ slot_forms form (all_in l)) (drop_all n pages (omega (arith, ended))) ∙ append-nil (slot_forms form ms)
