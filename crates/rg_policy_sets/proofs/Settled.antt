-- Sets after a plan of changes.
use Rattle.std.proofs.Common.{◌≡◌, ◌&&◌, ◌+◌, ℕ, ℤ, Bool, true, not, cond, List, [], ◌∷◌, map, fold, refl, sym, ap, subst, ◌∙◌, arith}
use Rattle.std.proofs.lemmas.Bool.{and_parts}
use Rattle.std.proofs.lemmas.List.Folds.{list_all-append}
use Rattle.std.proofs.lemmas.List.Sums.{sum_by-cons}
use Rattle.std.proofs.lemmas.Bool.Decides.{Decides-int_eq, same_from_decides}
use Rattle.std.specs.List.{cons_option, list_all, list_any, sum_by}
use Rattle.std.specs.Ordering.{int_eq}
use Rattle.rg_base.proofs.Lists.{all_distinct-map, list_any_agree}
use Rattle.rg_base.specs.Counts.{Counts}
use Rattle.rg_base.specs.Texts.{all_distinct}
use Rattle.rg_policy.specs.declared.policy.Policy.{Policy}
use Rattle.rg_defs.specs.declared.service_def.ServiceDef.{ServiceDef}
use Rattle.rg_resmatch.specs.Rules.{tagged_fit}
use Rattle.rg_tags.specs.declared.row.TagRow.{TagRow}
use Rattle.rg_cmd.specs.declared.changes.PolicyChange.{PolicyChange}
use Rattle.rg_cmd.specs.declared.changes.TagChange.{TagChange}
use Rattle.rg_delta.specs.Applied.{rows_after}
use Rattle.rg_delta.specs.Editing.{edited, has_id_of}
use Rattle.rg_delta.specs.Edits.{Edit}
use Rattle.rg_delta.specs.Sides.{row_edit}
use Rattle.rg_evalr.specs.Frames.{def_of}
use Rattle.rg_evalr.specs.Sources.{Source}
use Rattle.rg_evalr.specs.declared.frame.Frame.{Frame}
use Rattle.rg_evalr.specs.declared.frame.Side.{Side}
use Rattle.rg_facts.specs.Sound.{passes, row_ids, same_id}
use Rattle.rg_index.specs.Changes.{form_fits}
use Rattle.rg_index.specs.Filing.{pairs}
use Rattle.rg_policy_sets.specs.Bounds.{WorkWithin, made_on, pairs_on, row_pairs, side_after}
use Rattle.rg_policy_sets.specs.Kept.{ArePolicies, AreRows, Placed, Shelved, held_in, policies_in, row_source_form, rows_in, slot_ids, source_form}
use Rattle.rg_policy_sets.specs.Moved.{edits_of, is_compiled, policy_id, policy_pairs, row_form_pairs, row_id}
use Rattle.rg_policy_sets.specs.Plan.{AllSuit, Planned, is_kept, left_of, lost, made_in, plan_of, put_at, put_there, standing, stood}
use Rattle.rg_policy_sets.specs.Seen.{RowSource, row_source, source}
use Rattle.rg_policy_sets.specs.declared.plan.Fate.{Fate}
use Rattle.rg_policy_sets.specs.declared.plan.Fate.TheVariants.{Stays, Goes, Becomes}
use Rattle.rg_policy_sets.specs.declared.plan.Place.{Place}
use Rattle.rg_policy_sets.proofs.Passing.{passing_forms_fit, tagged_forms_fit}
use Rattle.rg_policy_sets.proofs.Planning.{plan_stands, suit_all}
use Rattle.rg_policy_sets.proofs.Siding.{all_edits, rows_weighed, side_edits, side_made, side_weighed}
use Rattle.rg_policy_sets.proofs.Weighing.{plan_makes, plan_weighs}

-- ---- plans of any things

module _ {X : Type 0} (id_of : X → ℤ) where
  put_pass : (q : X → Bool) (ps : List (Place X)) (xs : List X) → AllSuit id_of ps xs → list_all q (left_of ps xs) ≡ true → list_all q (put_at ps) ≡ true
  put_pass q [] xs s h = refl
  put_pass q (p ∷ ps) [] s h = absurd s
  put_pass q (p ∷ ps) (x ∷ xs) s h = at p.fate (put_pass q ps xs s.2) h where
    at : (f : Fate X) → (list_all q (left_of ps xs) ≡ true → list_all q (put_at ps) ≡ true)
        → list_all q (cons_option (stood f x) (left_of ps xs)) ≡ true → list_all q (cons_option (put_there f) (put_at ps)) ≡ true
    at Stays rest h = rest (and_parts (q x) (list_all q (left_of ps xs)) h).1
    at Goes rest h = rest h
    at (Becomes y) rest h = let parts = and_parts (q y) (list_all q (left_of ps xs)) h in λ i. parts.0 i && rest parts.1 i

  -- what holds of all that stand holds of all that edits put there
  pub made_pass : (q : X → Bool) (xs : List X) (es : List (Edit X)) → list_all q (fold (edited id_of) xs es) ≡ true → list_all q (made_in (plan_of id_of (map id_of xs) es)) ≡ true
  made_pass q xs es h =
      let p : Planned X = plan_of id_of (map id_of xs) es in
      let all = sym (list_all-append q (left_of p.places xs) p.added) ∙ ap (list_all q) (plan_stands id_of xs es) ∙ h in
      let parts = and_parts (list_all q (left_of p.places xs)) (list_all q p.added) all in
      list_all-append q (put_at p.places) p.added ∙ (λ i. put_pass q p.places xs (suit_all id_of xs es) parts.0 i && parts.1 i)

lost_mapped : {X Y Z : Type 0} (w : Z → ℕ) (f : Y → Z) (ps : List (Place X)) (ys : List Y) → lost w ps (map f ys) ≡ lost (λ y. w (f y)) ps ys
lost_mapped w f [] ys = refl
lost_mapped w f (p ∷ ps) [] = refl
lost_mapped w f (p ∷ ps) (y ∷ ys) = ap (λ n. cond (is_kept p.fate) 0 (w (f y)) + n) (lost_mapped w f ps ys)

all_agree : {X : Type 0} (p q : X → Bool) → ((x : X) → p x ≡ true → q x ≡ true) → (xs : List X) → list_all p xs ≡ true → list_all q xs ≡ true
all_agree p q e [] h = refl
all_agree p q e (x ∷ xs) h = let parts = and_parts (p x) (list_all p xs) h in λ i. e x parts.0 i && all_agree p q e xs parts.1 i

-- no two have one id, whichever of two is looked at first
ids_flipped : (a b : ℤ) → int_eq a b ≡ int_eq b a
ids_flipped a b =
    same_from_decides (int_eq a b) (int_eq b a) (Decides-int_eq a b)
    (λ h. sym ((Decides-int_eq b a).0 h), λ e. (Decides-int_eq b a).1 (sym e))

any_flipped : {X : Type 0} (id_of : X → ℤ) (x : X) (xs : List X) → list_any (has_id_of id_of x) xs ≡ list_any (λ y. int_eq (id_of x) (id_of y)) xs
any_flipped id_of x xs = list_any_agree (has_id_of id_of x) (λ y. int_eq (id_of x) (id_of y)) (λ y. ids_flipped (id_of y) (id_of x)) xs

distinct_flipped : {X : Type 0} (id_of : X → ℤ) (xs : List X) → all_distinct (has_id_of id_of) xs ≡ all_distinct (λ x y. int_eq (id_of x) (id_of y)) xs
distinct_flipped id_of [] = refl
distinct_flipped id_of (x ∷ xs) = λ i. not (any_flipped id_of x xs i) && distinct_flipped id_of xs i

-- ---- policies

module _ (frame : Frame) (side : Side) where
  -- the policies of sources are those that the sources are of
  sourced : (ps : List Policy) → map (λ (s : Source). s.policy) (map (source frame side) ps) ≡ ps
  sourced [] = refl
  sourced (p ∷ ps) = ap (λ l. p ∷ l) (sourced ps)

  policies_held : (slots : List (Placed Source)) → policies_in slots ≡ map (λ (s : Source). s.policy) (held_in slots)
  policies_held [] = refl
  policies_held (s ∷ slots) = ap (λ l. s.held.policy ∷ l) (policies_held slots)

  pub held_policies : (slots : List (Placed Source)) (ps : List Policy) → held_in slots ≡ map (source frame side) ps → policies_in slots ≡ ps
  held_policies slots ps is = policies_held slots ∙ ap (map (λ (s : Source). s.policy)) is ∙ sourced ps

  policy_compiles : (p : Policy) → passes frame side p ≡ true → is_compiled (passes frame side) (def_of frame side) source_form (source frame side) p ≡ true
  policy_compiles p h =
      let fits = and_parts (form_fits (def_of frame side) (source_form (source frame side p))) true (passing_forms_fit frame side 0 (p ∷ []) (ap (λ b. b && true) h)) in
      λ i. h i && fits.0 i

  module _ (policies : List Policy) (changes : List PolicyChange) where
    abbrev planned : Planned Policy
    planned = plan_of policy_id (map policy_id policies) (edits_of side changes)

    pub policies_compile : list_all (passes frame side) (fold (side_after side) policies changes) ≡ true
        → list_all (is_compiled (passes frame side) (def_of frame side) source_form (source frame side)) (made_in planned) ≡ true
    policies_compile h =
        all_agree (passes frame side) (is_compiled (passes frame side) (def_of frame side) source_form (source frame side)) policy_compiles (made_in planned)
        (made_pass policy_id (passes frame side) policies (edits_of side changes) (ap (list_all (passes frame side)) (side_edits side policies changes) ∙ h))

    pub policies_stand : standing planned policies ≡ fold (side_after side) policies changes
    policies_stand = plan_stands policy_id policies (edits_of side changes) ∙ side_edits side policies changes

    pub policies_work : (slots : List (Placed Source)) → policies_in slots ≡ policies → all_distinct same_id (fold (side_after side) policies changes) ≡ true
        → (a b : Counts)
        → WorkWithin (sum_by (λ p. 1) (made_in planned))
        (lost (λ (s : Placed Source). policy_pairs (def_of frame side) s.held.policy) planned.places slots + sum_by (λ p. policy_pairs (def_of frame side) p) (made_in planned)) a b
        → WorkWithin (made_on side changes) (pairs_on (def_of frame side) side policies changes) a b
    policies_work slots is apart a b work =
        let edits = edits_of side changes in
        let distinct = ap (all_distinct (has_id_of policy_id)) (side_edits side policies changes) ∙ distinct_flipped policy_id (fold (side_after side) policies changes) ∙ apart in
        let makes = plan_makes policy_id (λ p. 1) policies edits distinct in
        let weighs = plan_weighs policy_id (policy_pairs (def_of frame side)) policies edits distinct in
        let all_made = side_made side changes in
        let all_weighed = side_weighed (def_of frame side) side policies changes in
        let gone = sym (lost_mapped (policy_pairs (def_of frame side)) (λ (s : Placed Source). s.held.policy) planned.places slots) ∙ ap (lost (policy_pairs (def_of frame side)) planned.places) is in
        let compiled = work.compiled in
        let filed = work.edited in
        record {
          compiled = omega (arith, compiled, makes, all_made);
          edited = omega (arith, filed, weighs, all_weighed, gone);
          tries = work.tries;
        }

-- the ids of the slots are those of the policies
pub policy_slot_ids : (slots : List (Placed Source)) → slot_ids source_form slots ≡ map policy_id (policies_in slots)
policy_slot_ids [] = refl
policy_slot_ids (s ∷ slots) = ap (λ l. s.held.policy.id.0 ∷ l) (policy_slot_ids slots)

-- ---- tag rows

pub row_slot_ids : (slots : List (Placed RowSource)) → slot_ids row_source_form slots ≡ map row_id (rows_in slots)
row_slot_ids [] = refl
row_slot_ids (s ∷ slots) = ap (λ l. s.held.row.id ∷ l) (row_slot_ids slots)

module _ (def : ServiceDef) where
  row_sourced : (rows : List TagRow) → map (λ (s : RowSource). s.row) (map (row_source def) rows) ≡ rows
  row_sourced [] = refl
  row_sourced (row ∷ rows) = ap (λ l. row ∷ l) (row_sourced rows)

  rows_held : (slots : List (Placed RowSource)) → rows_in slots ≡ map (λ (s : RowSource). s.row) (held_in slots)
  rows_held [] = refl
  rows_held (s ∷ slots) = ap (λ l. s.held.row ∷ l) (rows_held slots)

  pub held_rows : (slots : List (Placed RowSource)) (rows : List TagRow) → held_in slots ≡ map (row_source def) rows → rows_in slots ≡ rows
  held_rows slots rows is = rows_held slots ∙ ap (map (λ (s : RowSource). s.row)) is ∙ row_sourced rows

  abbrev row_passes : TagRow → Bool
  row_passes row = tagged_fit def row.resources.items

  row_compiles : (row : TagRow) → row_passes row ≡ true → is_compiled row_passes def row_source_form (row_source def) row ≡ true
  row_compiles row h =
      let fits = and_parts (form_fits def (row_source_form (row_source def row))) true (tagged_forms_fit def 0 (row ∷ []) (ap (λ b. b && true) h)) in
      λ i. h i && fits.0 i

  module _ (rows : List TagRow) (changes : List TagChange) where
    abbrev planned_rows : Planned TagRow
    planned_rows = plan_of row_id (map row_id rows) (map row_edit changes)

    pub rows_compile : list_all row_passes (fold rows_after rows changes) ≡ true → list_all (is_compiled row_passes def row_source_form (row_source def)) (made_in planned_rows) ≡ true
    rows_compile h =
        all_agree row_passes (is_compiled row_passes def row_source_form (row_source def)) row_compiles (made_in planned_rows)
        (made_pass row_id row_passes rows (map row_edit changes) (ap (list_all row_passes) (all_edits rows changes) ∙ h))

    pub rows_stand : standing planned_rows rows ≡ fold rows_after rows changes
    rows_stand = plan_stands row_id rows (map row_edit changes) ∙ all_edits rows changes

    none_compiled : {X : Type 0} (xs : List X) → sum_by (λ x. 0) xs ≡ 0
    none_compiled [] = refl
    none_compiled (x ∷ xs) = let rest = none_compiled xs in let more = sum_by-cons (λ x. 0) x xs in omega (arith, rest, more)

    pub rows_work : (slots : List (Placed RowSource)) → rows_in slots ≡ rows → all_distinct int_eq (row_ids (fold rows_after rows changes)) ≡ true
        → (a b : Counts)
        → WorkWithin (sum_by (λ r. 0) (made_in planned_rows))
        (lost (λ (s : Placed RowSource). row_form_pairs def s.held.row) planned_rows.places slots + sum_by (λ r. row_form_pairs def r) (made_in planned_rows)) a b
        → WorkWithin 0 (row_pairs def rows changes) a b
    rows_work slots is apart a b work =
        let edits = map row_edit changes in
        let distinct = ap (all_distinct (has_id_of row_id)) (all_edits rows changes) ∙ distinct_flipped row_id (fold rows_after rows changes)
        ∙ sym (all_distinct-map int_eq row_id (fold rows_after rows changes)) ∙ apart in
        let weighs = plan_weighs row_id (row_form_pairs def) rows edits distinct in
        let all_weighed = rows_weighed def rows changes in
        let gone = sym (lost_mapped (row_form_pairs def) (λ (s : Placed RowSource). s.held.row) planned_rows.places slots) ∙ ap (lost (row_form_pairs def) planned_rows.places) is in
        let none = none_compiled (made_in planned_rows) in
        let compiled = work.compiled in
        let filed = work.edited in
        record {
          compiled = omega (arith, compiled, none);
          edited = omega (arith, filed, weighs, all_weighed, gone);
          tries = work.tries;
        }

-- ---- sets with the policies or rows of these slots, and a plan of changes

module _ (frame : Frame) (side : Side) (shelf : Shelved Source) (are : ArePolicies frame side shelf) (changes : List PolicyChange) (def : ServiceDef) (same : def ≡ def_of frame side)
    (p : Planned Policy) (is : p ≡ planned frame side (policies_in shelf.slots) changes) where
  pub policies_fitting : list_all (passes frame side) (fold (side_after side) (policies_in shelf.slots) changes) ≡ true
      → list_all (is_compiled (passes frame side) def source_form (source frame side)) (made_in p) ≡ true
  policies_fitting rules =
      (λ i. list_all (is_compiled (passes frame side) (same i) source_form (source frame side)) (made_in (is i))) ∙ policies_compile frame side (policies_in shelf.slots) changes rules

  pub policies_counted : all_distinct same_id (fold (side_after side) (policies_in shelf.slots) changes) ≡ true → (a b : Counts)
      → WorkWithin (sum_by (λ x. 1) (made_in p)) (lost (λ (s : Placed Source). pairs def (source_form s.held)) p.places shelf.slots + sum_by (λ x. pairs def (source_form (source frame side x))) (made_in p)) a b
      → WorkWithin (made_on side changes) (pairs_on (def_of frame side) side (policies_in shelf.slots) changes) a b
  policies_counted apart a b work =
      policies_work frame side (policies_in shelf.slots) changes shelf.slots refl apart a b
      (subst (λ (q : Planned Policy). WorkWithin (sum_by (λ x. 1) (made_in q)) (lost (λ (s : Placed Source). policy_pairs (def_of frame side) s.held.policy) q.places shelf.slots + sum_by (λ x. policy_pairs (def_of frame side) x) (made_in q)) a b) is
      (subst (λ (d : ServiceDef). WorkWithin (sum_by (λ x. 1) (made_in p)) (lost (λ (s : Placed Source). pairs d (source_form s.held)) p.places shelf.slots + sum_by (λ x. pairs d (source_form (source frame side x))) (made_in p)) a b) same work))

  module _ (s : Shelved Source) (s_def : s.def ≡ def) (s_held : (xs : List Policy) → held_in shelf.slots ≡ map (source frame side) xs → held_in s.slots ≡ map (source frame side) (standing p xs)) where
    all_held : held_in s.slots ≡ map (source frame side) (fold (side_after side) (policies_in shelf.slots) changes)
    all_held =
        s_held (policies_in shelf.slots) are.sources
        ∙ ap (map (source frame side)) (ap (λ (q : Planned Policy). standing q (policies_in shelf.slots)) is ∙ policies_stand frame side (policies_in shelf.slots) changes)

    pub policies_after_all : policies_in s.slots ≡ fold (side_after side) (policies_in shelf.slots) changes
    policies_after_all = held_policies frame side s.slots (fold (side_after side) (policies_in shelf.slots) changes) all_held

    pub are_policies_after : ArePolicies frame side s
    are_policies_after = record { def = s_def ∙ same; sources = all_held ∙ ap (map (source frame side)) (sym policies_after_all) }

module _ (shelf : Shelved RowSource) (are : AreRows shelf) (changes : List TagChange) (def : ServiceDef) (same : def ≡ shelf.def) (p : Planned TagRow) (is : p ≡ planned_rows def (rows_in shelf.slots) changes) where
  pub rows_fitting : list_all (row_passes def) (fold rows_after (rows_in shelf.slots) changes) ≡ true
      → list_all (is_compiled (row_passes def) def row_source_form (row_source def)) (made_in p) ≡ true
  rows_fitting rules =
      ap (λ (q : Planned TagRow). list_all (is_compiled (row_passes def) def row_source_form (row_source def)) (made_in q)) is
      ∙ rows_compile def (rows_in shelf.slots) changes rules

  pub rows_counted : all_distinct int_eq (row_ids (fold rows_after (rows_in shelf.slots) changes)) ≡ true → (a b : Counts)
      → WorkWithin (sum_by (λ x. 0) (made_in p)) (lost (λ (s : Placed RowSource). pairs def (row_source_form s.held)) p.places shelf.slots + sum_by (λ x. pairs def (row_source_form (row_source def x))) (made_in p)) a b
      → WorkWithin 0 (row_pairs def (rows_in shelf.slots) changes) a b
  rows_counted apart a b work =
      rows_work def (rows_in shelf.slots) changes shelf.slots refl apart a b
      (subst (λ (q : Planned TagRow). WorkWithin (sum_by (λ x. 0) (made_in q)) (lost (λ (s : Placed RowSource). row_form_pairs def s.held.row) q.places shelf.slots + sum_by (λ x. row_form_pairs def x) (made_in q)) a b) is work)

  module _ (s : Shelved RowSource) (s_def : s.def ≡ def) (s_held : (xs : List TagRow) → held_in shelf.slots ≡ map (row_source def) xs → held_in s.slots ≡ map (row_source def) (standing p xs)) where
    all_rows_held : held_in s.slots ≡ map (row_source def) (fold rows_after (rows_in shelf.slots) changes)
    all_rows_held =
        s_held (rows_in shelf.slots) (are ∙ ap (λ (d : ServiceDef). map (row_source d) (rows_in shelf.slots)) (sym same))
        ∙ ap (map (row_source def)) (ap (λ (q : Planned TagRow). standing q (rows_in shelf.slots)) is ∙ rows_stand def (rows_in shelf.slots) changes)

    pub rows_after_all : rows_in s.slots ≡ fold rows_after (rows_in shelf.slots) changes
    rows_after_all = held_rows def s.slots (fold rows_after (rows_in shelf.slots) changes) all_rows_held

    pub are_rows_after : AreRows s
    are_rows_after = all_rows_held ∙ (λ i. map (row_source (sym s_def i)) (sym rows_after_all i))
