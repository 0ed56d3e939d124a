-- What a set is after its slots were counted from 0 and filed.
use Rattle.std.proofs.Common.{◌≡◌, ℕ, List, map, true, sym, ap, subst, ◌∙◌}
use Rattle.std.specs.List.{list_all, sum_by}
use Rattle.rg_base.specs.Counts.{Counts}
use Rattle.rg_policy.specs.declared.policy.Policy.{Policy}
use Rattle.rg_defs.specs.declared.service_def.ServiceDef.{ServiceDef}
use Rattle.rg_tags.specs.declared.row.TagRow.{TagRow}
use Rattle.rg_evalr.specs.Frames.{def_of}
use Rattle.rg_evalr.specs.Sources.{Source}
use Rattle.rg_evalr.specs.declared.frame.Frame.{Frame}
use Rattle.rg_evalr.specs.declared.frame.Side.{Side}
use Rattle.rg_facts.specs.Sound.{passes}
use Rattle.rg_index.specs.Changes.{forms_fit}
use Rattle.rg_index.specs.Filing.{EditsWithin, pairs}
use Rattle.rg_resmatch.specs.Rules.{tagged_fit}
use Rattle.rg_policy_sets.specs.Bounds.{WorkWithin, policy_forms, row_forms}
use Rattle.rg_policy_sets.specs.Kept.{ArePolicies, AreRows, Placed, Shelved, are_rising, held_in, placed_from, policies_in, row_source_form, rows_in, slot_forms, source_form}
use Rattle.rg_policy_sets.specs.Seen.{RowSource, row_source, source}
use Rattle.rg_policy_sets.proofs.Counting.{sum_of_none, with_edits}
use Rattle.rg_policy_sets.proofs.Passing.{passing_forms_fit, placed_policies, placed_rows, policy_forms_held, row_forms_held, tagged_forms_fit}
use Rattle.rg_policy_sets.proofs.Renumbered.{same_pairs}
use Rattle.rg_policy_sets.proofs.Rising.{placed_held, placed_rise}

module _ (frame : Frame) (side : Side) (policies : List Policy) (def : ServiceDef) (same : def ≡ def_of frame side) (slots : List (Placed Source)) (placed : slots ≡ placed_from 0 (map (source frame side) policies)) where
  pub policies_rise : are_rising slots ≡ true
  policies_rise = ap are_rising placed ∙ placed_rise 0 (map (source frame side) policies)

  pub policies_fit : list_all (passes frame side) policies ≡ true → forms_fit def (slot_forms source_form slots) ≡ true
  policies_fit rules = (λ i. forms_fit (same i) (slot_forms source_form (placed i))) ∙ passing_forms_fit frame side 0 policies rules

  filed : sum_by (pairs def) (slot_forms source_form slots) ≡ sum_by (pairs (def_of frame side)) (policy_forms policies)
  filed =
      same_pairs (λ (s : Placed Source). source_form s.held) (λ (s : Placed Source). s.ordinal) def slots
      ∙ (λ i. sum_by (pairs (same i)) (policy_forms_held (placed i) i))
      ∙ ap (λ (ps : List Policy). sum_by (pairs (def_of frame side)) (policy_forms ps)) (placed_policies frame side 0 policies)

  pub policies_within : (n : ℕ) (a b c : Counts) → WorkWithin n 0 a b → EditsWithin (sum_by (pairs def) (slot_forms source_form slots)) b c
      → WorkWithin n (sum_by (pairs (def_of frame side)) (policy_forms policies)) a c
  policies_within n a b c compiled edited =
      with_edits n (sum_by (pairs (def_of frame side)) (policy_forms policies)) a b c compiled (subst (λ (m : ℕ). EditsWithin m b c) filed edited)

  module _ (shelf : Shelved Source) (made : shelf ≡ (let s : Shelved Source = record { def = def; slots = slots } in s)) where
    in_slots : shelf.slots ≡ placed_from 0 (map (source frame side) policies)
    in_slots = ap (λ (s : Shelved Source). s.slots) made ∙ placed

    pub these_policies : policies_in shelf.slots ≡ policies
    these_policies = ap policies_in in_slots ∙ placed_policies frame side 0 policies

    pub are_policies : ArePolicies frame side shelf
    are_policies = record {
      def = ap (λ (s : Shelved Source). s.def) made ∙ same;
      sources = ap held_in in_slots ∙ placed_held 0 (map (source frame side) policies) ∙ ap (map (source frame side)) (sym these_policies);
    }

module _ (def : ServiceDef) (rows : List TagRow) (slots : List (Placed RowSource)) (placed : slots ≡ placed_from 0 (map (row_source def) rows)) where
  pub rows_rise : are_rising slots ≡ true
  rows_rise = ap are_rising placed ∙ placed_rise 0 (map (row_source def) rows)

  pub rows_fit : list_all (λ (row : TagRow). tagged_fit def row.resources.items) rows ≡ true → forms_fit def (slot_forms row_source_form slots) ≡ true
  rows_fit fit = ap (λ (ss : List (Placed RowSource)). forms_fit def (slot_forms row_source_form ss)) placed ∙ tagged_forms_fit def 0 rows fit

  rows_filed : sum_by (pairs def) (slot_forms row_source_form slots) ≡ sum_by (pairs def) (row_forms rows)
  rows_filed =
      same_pairs (λ (s : Placed RowSource). row_source_form s.held) (λ (s : Placed RowSource). s.ordinal) def slots
      ∙ ap (sum_by (pairs def)) (row_forms_held slots)
      ∙ ap (λ (rs : List TagRow). sum_by (pairs def) (row_forms rs)) (ap rows_in placed ∙ placed_rows def 0 rows)

  pub rows_within : (a b c : Counts) → WorkWithin (sum_by (λ (row : TagRow). 0) rows) 0 a b → EditsWithin (sum_by (pairs def) (slot_forms row_source_form slots)) b c
      → WorkWithin 0 (sum_by (pairs def) (row_forms rows)) a c
  rows_within a b c compiled edited =
      with_edits 0 (sum_by (pairs def) (row_forms rows)) a b c (subst (λ (n : ℕ). WorkWithin n 0 a b) (sum_of_none rows) compiled) (subst (λ (m : ℕ). EditsWithin m b c) rows_filed edited)

  module _ (shelf : Shelved RowSource) (made : shelf ≡ (let s : Shelved RowSource = record { def = def; slots = slots } in s)) where
    row_slots : shelf.slots ≡ placed_from 0 (map (row_source def) rows)
    row_slots = ap (λ (s : Shelved RowSource). s.slots) made ∙ placed

    pub these_rows : rows_in shelf.slots ≡ rows
    these_rows = ap rows_in row_slots ∙ placed_rows def 0 rows

    pub are_rows : AreRows shelf
    are_rows =
        ap held_in row_slots ∙ placed_held 0 (map (row_source def) rows)
        ∙ (λ i. map (row_source (sym (ap (λ (s : Shelved RowSource). s.def) made) i)) (sym these_rows i))
