-- What the index of slots says of them.
use Rattle.std.proofs.Common.{◌≡◌, ℕ, ℤ, List, Contains, length, true, sym, ap, subst, ◌∙◌}
use Rattle.rg_base.proofs.Lists.{Contains-map, Contains-mapped, all_from}
use Rattle.rg_defs.specs.declared.service_def.ServiceDef.{ServiceDef}
use Rattle.rg_policy.specs.declared.request.Element.{Element}
use Rattle.rg_resmatch.specs.Tests.{some_lies}
use Rattle.rg_index.specs.Candidates.{bound, candidates}
use Rattle.rg_index.specs.Indexed.{Indexed}
use Rattle.rg_index.specs.declared.form.Form.{Form}
use Rattle.rg_policy_sets.specs.Kept.{AreFound, Placed, Shelved, are_rising, found_in, is_held, slot_form, slot_forms}
use Rattle.rg_policy_sets.proofs.Renumbered.{same_bound}
use Rattle.rg_policy_sets.proofs.Visiting.{is_there}

-- each candidate is the id of one of the forms
abbrev pub FormsLaw : Type 0
FormsLaw = (def : ServiceDef) (forms : List Form) (elements : List Element) (id : ℤ) → Contains (candidates def forms elements) id → (form : Form) × Contains forms form × (form.id ≡ id)

module _ {X : Type 0} (form : X → Form) (index : Indexed) (slots : List (Placed X)) (seen : Shelved X)
    (view : (let inside : Shelved X = record { def = index.def; slots = slots } in inside) ≡ seen) (formed : index.forms ≡ slot_forms form slots) (elements : List Element) (ordinals : List ℤ) where
  pub exactly_found : ordinals ≡ candidates index.def index.forms elements → ordinals ≡ found_in form seen elements
  exactly_found exact = exact ∙ ap (λ (fs : List Form). candidates index.def fs elements) formed ∙ ap (λ (s : Shelved X). found_in form s elements) view

  pub are_found : FormsLaw → (rising : are_rising slots ≡ true) → ordinals ≡ candidates index.def index.forms elements → length ordinals ≡ bound index.def index.forms elements
      → ((f : Form) (user : List ℕ) → Contains index.forms f → some_lies index.def f.maps.items f.reach elements user ≡ true → Contains ordinals f.id)
      → AreFound form seen elements ordinals
  are_found law rising exact bounded asks =
      subst (λ (s : Shelved X). AreFound form s elements ordinals) view
      (record {
        rising = rising;
        held = all_from (is_held slots) ordinals (λ o there.
            let f = law index.def index.forms elements o (subst (λ (os : List ℤ). Contains os o) exact there) in
            let s = Contains-mapped (slot_form form) slots f.0 (subst (λ (fs : List Form). Contains fs f.0) formed f.1) in
            is_there slots o s.0 s.1 (ap (λ (g : Form). g.id) s.2 ∙ f.2));
        few = bounded ∙ ap (λ (fs : List Form). bound index.def fs elements) formed ∙ same_bound (λ (s : Placed X). form s.held) (λ (s : Placed X). s.ordinal) index.def elements slots;
        all = λ s user there lies. asks (slot_form form s) user (subst (λ (fs : List Form). Contains fs (slot_form form s)) (sym formed) (Contains-map (slot_form form) slots s there)) lies;
      })
