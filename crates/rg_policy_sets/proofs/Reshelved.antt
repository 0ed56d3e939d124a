-- Slots that move with a plan: their order, what they hold, and how much of it is filed anew.
use Rattle.std.proofs.Common.{◌≡◌, ◌&&◌, ◌||◌, ◌<◌, ◌+◌, ◌++◌, ℕ, ℤ, pos, ◌+ℤ◌, int_lt, Bool, true, false, List, [], ◌∷◌, map, drop, length, get_or, Option, Some, None, refl, sym, ap, subst, ◌∙◌, arith, append-nil, append_assoc}
use Rattle.std.proofs.lemmas.Bool.{and_parts}
use Rattle.std.proofs.lemmas.Int.{ints}
use Rattle.std.proofs.lemmas.List.{drop_all}
use Rattle.std.proofs.lemmas.List.Sums.{sum_by-append, sum_by-cons}
use Rattle.std.specs.List.{cons_option, list_all, list_any, sum_by}
use Rattle.rg_base.specs.Counts.{Counts}
use Rattle.rg_base.proofs.Lists.{drop_next}
use Rattle.rg_defs.specs.declared.service_def.ServiceDef.{ServiceDef}
use Rattle.rg_index.specs.Changes.{form_fits, same_id}
use Rattle.rg_index.specs.Filing.{EditsWithin}
use Rattle.rg_index.specs.declared.form.Form.{Form}
use Rattle.rg_policy_sets.specs.Bounds.{WorkWithin}
use Rattle.rg_policy_sets.specs.Kept.{Placed, are_rising, held_in, rise_above, slot_forms}
use Rattle.rg_policy_sets.specs.Moved.{WorkLeft, are_below, is_compiled, moved_slot, moved_slots}
use Rattle.rg_policy_sets.specs.Plan.{Planned, left_of, lost, made_in, put_at, stood}
use Rattle.rg_policy_sets.specs.declared.plan.Fate.{Fate}
use Rattle.rg_policy_sets.specs.declared.plan.Fate.TheVariants.{Stays, Goes, Becomes}
use Rattle.rg_policy_sets.specs.declared.plan.Place.{Place}
use Rattle.rg_policy_sets.proofs.Counting.{more_allowed}
use Rattle.rg_policy_sets.proofs.Rising.{below_not_same, less_trans}

-- ---- numbers

pub own_next : (a : ℤ) → int_lt a (a +ℤ pos 1) ≡ true
own_next a = grind (arith, ints)

-- ---- rising slots

-- the ordinal is above this one, where it is given
abbrev pub Above : Option ℤ → ℤ → Type 0
Above None n = Unit {0}
Above (Some m) n = int_lt m n ≡ true

above_trans : (least : Option ℤ) (m n : ℤ) → Above least m → int_lt m n ≡ true → Above least n
above_trans None m n above less = tt
above_trans (Some l) m n above less = less_trans l m n above less

module _ {H : Type 0} where
  pub up_parts : (least : Option ℤ) (s : Placed H) (slots : List (Placed H)) → rise_above least (s ∷ slots) ≡ true → Above least s.ordinal × (rise_above (Some s.ordinal) slots ≡ true)
  up_parts None s slots up = (tt, up)
  up_parts (Some m) s slots up = and_parts (int_lt m s.ordinal) (rise_above (Some s.ordinal) slots) up

  pub up_joined : (least : Option ℤ) (s : Placed H) (slots : List (Placed H)) → Above least s.ordinal → rise_above (Some s.ordinal) slots ≡ true → rise_above least (s ∷ slots) ≡ true
  up_joined None s slots above up = up
  up_joined (Some m) s slots above up = λ i. above i && up i

  -- they rise above a lesser one
  weaker : (least : Option ℤ) (n : ℤ) (slots : List (Placed H)) → Above least n → rise_above (Some n) slots ≡ true → rise_above least slots ≡ true
  weaker least n [] above up = refl
  weaker least n (s ∷ slots) above up =
      let parts = up_parts (Some n) s slots up in
      up_joined least s slots (above_trans least n s.ordinal above parts.0) parts.1

  -- a slot whose ordinal is above all comes at the end
  rises_on : (least : Option ℤ) (slots : List (Placed H)) (s : Placed H) → Above least s.ordinal → rise_above least slots ≡ true → are_below s.ordinal slots ≡ true
      → rise_above least (slots ++ s ∷ []) ≡ true
  rises_on least [] s above up below = up_joined least s [] above refl
  rises_on least (t ∷ slots) s above up below =
      let parts = up_parts least t slots up in
      let less = and_parts (int_lt t.ordinal s.ordinal) (are_below s.ordinal slots) below in
      up_joined least t (slots ++ s ∷ []) parts.0 (rises_on (Some t.ordinal) slots s less.0 parts.1 less.1)

  pub rises_more : (slots : List (Placed H)) (s : Placed H) → are_rising slots ≡ true → are_below s.ordinal slots ≡ true → are_rising (slots ++ s ∷ []) ≡ true
  rises_more slots s up below = rises_on None slots s tt up below

  -- no form of the slots has an ordinal above them
  pub none_named : (form : H → Form) (new : Form) (slots : List (Placed H)) → are_below new.id slots ≡ true → list_any (same_id new) (slot_forms form slots) ≡ false
  none_named form new [] below = refl
  none_named form new (s ∷ slots) below =
      let parts = and_parts (int_lt s.ordinal new.id) (are_below new.id slots) below in
      λ i. below_not_same s.ordinal new.id parts.0 i || none_named form new slots parts.1 i

-- ---- slots after a plan

module _ {X H : Type 0} (hold : X → H) where
  moved_up : (least : Option ℤ) (ps : List (Place X)) (slots : List (Placed H)) → rise_above least slots ≡ true → rise_above least (moved_slots hold ps slots) ≡ true
  moved_up least [] slots up = refl
  moved_up least (p ∷ ps) [] up = refl
  moved_up least (p ∷ ps) (s ∷ slots) up =
      let parts = up_parts least s slots up in
      at p.fate parts.0 (moved_up (Some s.ordinal) ps slots parts.1) where
        at : (f : Fate X) → Above least s.ordinal → rise_above (Some s.ordinal) (moved_slots hold ps slots) ≡ true → rise_above least (cons_option (moved_slot hold f s) (moved_slots hold ps slots)) ≡ true
        at Stays above rest = up_joined least s (moved_slots hold ps slots) above rest
        at Goes above rest = weaker least s.ordinal (moved_slots hold ps slots) above rest
        at (Becomes x) above rest = up_joined least (record { ordinal = s.ordinal; held = hold x }) (moved_slots hold ps slots) above rest

  pub moved_rise : (ps : List (Place X)) (slots : List (Placed H)) → are_rising slots ≡ true → are_rising (moved_slots hold ps slots) ≡ true
  moved_rise ps slots up = moved_up None ps slots up

  pub moved_held : (ps : List (Place X)) (slots : List (Placed H)) (xs : List X) → held_in slots ≡ map hold xs → held_in (moved_slots hold ps slots) ≡ map hold (left_of ps xs)
  moved_held [] slots xs is = refl
  moved_held (p ∷ ps) [] [] is = refl
  moved_held (p ∷ ps) [] (x ∷ xs) is = let long = ap length is in absurd (omega (arith, long))
  moved_held (p ∷ ps) (s ∷ slots) [] is = let long = ap length is in absurd (omega (arith, long))
  moved_held (p ∷ ps) (s ∷ slots) (x ∷ xs) is = at p.fate (ap (λ l. get_or l 0 s.held) is) (moved_held ps slots xs (ap (drop 1) is)) where
    at : (f : Fate X) → s.held ≡ hold x → held_in (moved_slots hold ps slots) ≡ map hold (left_of ps xs)
        → held_in (cons_option (moved_slot hold f s) (moved_slots hold ps slots)) ≡ map hold (cons_option (stood f x) (left_of ps xs))
    at Stays same rest = λ i. same i ∷ rest i
    at Goes same rest = rest
    at (Becomes y) same rest = ap (λ l. hold y ∷ l) rest

-- ---- one slot after the other

pub work_first : (n m : ℕ) (c : Counts) → WorkLeft n m n m c c
work_first n m c = record { compiled = omega arith; edited = omega arith; tries = refl }

pub work_on : (a b n m p q : ℕ) (first now next : Counts) → WorkLeft n m p q first now → WorkWithin a b now next → (r t : ℕ) → n ≡ a + r → m ≡ b + t → WorkLeft r t p q first next
work_on a b n m p q first now next left work r t is_n is_m =
    let compiled = left.compiled in
    let edited = left.edited in
    let more = work.compiled in
    let filed = work.edited in
    record {
      compiled = omega (arith, compiled, more, is_n);
      edited = omega (arith, edited, filed, is_m);
      tries = work.tries ∙ left.tries;
    }

pub work_done : (n m p q : ℕ) (first now : Counts) → WorkLeft n m p q first now → WorkWithin p q first now
work_done n m p q first now left =
    let compiled = left.compiled in
    let edited = left.edited in
    record { compiled = omega (arith, compiled); edited = omega (arith, edited); tries = left.tries }

-- as many edits as equal numbers say
pub as_many : {n m p : ℕ} {a b : Counts} → m ≡ p → WorkWithin n m a b → WorkWithin n p a b
as_many {n = n} {a = a} {b = b} is work = subst (λ k. WorkWithin n k a b) is work

pub compiled_alone : {n m : ℕ} {a b : Counts} → WorkWithin n 0 a b → WorkWithin n m a b
compiled_alone {n = n} {m = m} {a = a} {b = b} work = more_allowed n 0 n m a b (omega arith) (omega arith) work

-- ---- one thing that is compiled

module _ {X H : Type 0} (passes : X → Bool) (def : ServiceDef) (form : H → Form) (hold : X → H) (x : X) where
  pub one_passes : is_compiled passes def form hold x ≡ true → passes x ≡ true
  one_passes h = (and_parts (passes x) (form_fits def (form (hold x))) h).0

  pub one_fits : is_compiled passes def form hold x ≡ true → form_fits def (form (hold x)) ≡ true
  one_fits h = (and_parts (passes x) (form_fits def (form (hold x))) h).1

  pub one_of_list : list_all (is_compiled passes def form hold) (x ∷ []) ≡ true → is_compiled passes def form hold x ≡ true
  one_of_list h = (and_parts (is_compiled passes def form hold x) true h).0

-- ---- one thing after the other at the end

module _ {X : Type 0} (xs : List X) (n : ℕ) (x : X) (on : n < length xs) (is_x : x ≡ get_or xs n x) where
  left_items : drop n xs ≡ x ∷ drop (n + 1) xs
  left_items = drop_next n xs x on is_x

  pub held_on : {H : Type 0} (hold : X → H) (held new all : List H) → new ≡ held ++ hold x ∷ [] → held ++ map hold (drop n xs) ≡ all → new ++ map hold (drop (n + 1) xs) ≡ all
  held_on hold held new all is so_far =
      ap (λ l. l ++ map hold (drop (n + 1) xs)) is
      ∙ append_assoc held (hold x ∷ []) (map hold (drop (n + 1) xs))
      ∙ ap (λ l. held ++ map hold l) (sym left_items)
      ∙ so_far

  pub items_pass : (q : X → Bool) → list_all q (drop n xs) ≡ true → (q x ≡ true) × (list_all q (drop (n + 1) xs) ≡ true)
  items_pass q h = and_parts (q x) (list_all q (drop (n + 1) xs)) (ap (list_all q) (sym left_items) ∙ h)

  pub items_sum : (w : X → ℕ) → sum_by w (drop n xs) ≡ w x + sum_by w (drop (n + 1) xs)
  items_sum w = ap (sum_by w) left_items ∙ sum_by-cons w x (drop (n + 1) xs)

pub all_added : {X H : Type 0} (xs : List X) (n : ℕ) (all_items : n ≡ length xs) (hold : X → H) (held all : List H) → held ++ map hold (drop n xs) ≡ all → held ≡ all
all_added xs n all_items hold held all so_far = sym (append-nil held) ∙ ap (λ l. held ++ map hold l) (sym (drop_all n xs (omega (arith, all_items)))) ∙ so_far

-- ---- all of it

-- what a plan makes and takes away, filed under the plan's own lists
module _ {X H : Type 0} (cost v : X → ℕ) (u : Placed H → ℕ) (plan : Planned X) (shelved : List (Placed H))
    (places : List (Place X)) (added : List X) (slots : List (Placed H)) (is_places : places ≡ plan.places) (is_added : added ≡ plan.added) (is_slots : slots ≡ shelved) where
  made_parts : (w : X → ℕ) → sum_by w (made_in plan) ≡ sum_by w (put_at places) + sum_by w added
  made_parts w = (λ i. sum_by w (put_at (sym is_places i) ++ sym is_added i)) ∙ sum_by-append w (put_at places) added

  pub moved_work : (a b c d : Counts) → EditsWithin 0 a b → WorkWithin (sum_by cost (put_at places)) (lost u places slots + sum_by v (put_at places)) b c
      → WorkWithin (sum_by cost added) (sum_by v added) c d → WorkWithin (sum_by cost (made_in plan)) (lost u plan.places shelved + sum_by v (made_in plan)) a d
  moved_work a b c d copied moved ended =
      let costs = made_parts cost in
      let edits = made_parts v in
      let gone : lost u plan.places shelved ≡ lost u places slots = λ i. lost u (sym is_places i) (sym is_slots i) in
      let first = copied.compiles in
      let first_edits = copied.edits in
      let second = moved.compiled in
      let second_edits = moved.edited in
      let third = ended.compiled in
      let third_edits = ended.edited in
      record {
        compiled = omega (arith, costs, first, second, third);
        edited = omega (arith, edits, gone, first_edits, second_edits, third_edits);
        tries = ended.tries ∙ moved.tries ∙ copied.tries;
      }
