-- For proofs alone: what a view doesn't rest on.
use Rattle.std.proofs.Common.{◌≡◌, ℕ, Bool, false, cond, List, ◌∷◌, ◌++◌, Option, Some, None, refl, ap, sym, ◌∙◌}
use Rattle.std.specs.List.{filter}
use Rattle.std.proofs.lemmas.List.Elements.{filter-append}
use Rattle.rg_base.specs.Listed.{listed}
use Rattle.rg_policy.specs.declared.policy.Policy.{Policy}
use Rattle.rg_defs.specs.declared.service_def.ServiceDef.{ServiceDef}
use Rattle.rg_tags.specs.declared.row.TagRow.{TagRow}
use Rattle.rg_cmd.specs.Lookups.{def_of, is_of, is_of_tag, is_row_of, service_at, tag_service_of}
use Rattle.rg_cmd.specs.declared.changes.Log.{Log}
use Rattle.rg_cmd.specs.declared.state.ServiceRow.{ServiceRow}
use Rattle.rg_cmd.specs.declared.state.State.{State}
use Rattle.rg_admin_laws.specs.Logs.{Administration, log_at}
use Rattle.rg_admin_laws.specs.Views.{facts_of, facts_with, view}
use Rattle.rg_admin_laws.specs.Laws.{with_policies, with_tag_rows}

-- an element that fails the test
filter_mid : {X : Type 0} (f : X → Bool) (xs : List X) (x : X) (ys : List X) → f x ≡ false → filter f (xs ++ x ∷ ys) ≡ filter f (xs ++ ys)
filter_mid f xs x ys fails = filter-append f xs (x ∷ ys) ∙ ap (λ b. filter f xs ++ cond b (x ∷ filter f ys) (filter f ys)) fails ∙ sym (filter-append f xs ys)

module _ (service : List ℕ) (s : State) (these those : List Policy) (own : filter (is_of service) these ≡ filter (is_of service) those)
    (tags : filter (is_of_tag (tag_service_of s service)) these ≡ filter (is_of_tag (tag_service_of s service)) those) where
  same_policies : (o : Option Log) (r : Option ServiceRow) (d : Option ServiceDef)
      → facts_with service (record s { policies = listed these }) o r d ≡ facts_with service (record s { policies = listed those }) o r d
  same_policies None r d = refl
  same_policies (Some l) None d = refl
  same_policies (Some l) (Some r) None = refl
  same_policies (Some l) (Some r) (Some d) = λ i. Some (record (facts_of service (record s { policies = listed these }) l r d) { policies = listed (own i); tag_policies = listed (tags i) })

pub policy_may_go : (a : Administration) (service : List ℕ) (before after : List Policy) (p : Policy) → is_of service p ≡ false → is_of_tag (tag_service_of a.state service) p ≡ false
    → view (with_policies a (before ++ p ∷ after)) service ≡ view (with_policies a (before ++ after)) service
policy_may_go a service before after p other apart =
    same_policies service a.state (before ++ p ∷ after) (before ++ after) (filter_mid (is_of service) before p after other) (filter_mid (is_of_tag (tag_service_of a.state service)) before p after apart)
    (log_at a.logs service) (service_at a.state service) (def_of a.state service)

module _ (service : List ℕ) (s : State) (these those : List TagRow) (own : filter (is_row_of service) these ≡ filter (is_row_of service) those) where
  same_rows : (o : Option Log) (r : Option ServiceRow) (d : Option ServiceDef)
      → facts_with service (record s { tag_rows = listed these }) o r d ≡ facts_with service (record s { tag_rows = listed those }) o r d
  same_rows None r d = refl
  same_rows (Some l) None d = refl
  same_rows (Some l) (Some r) None = refl
  same_rows (Some l) (Some r) (Some d) = λ i. Some (record (facts_of service (record s { tag_rows = listed these }) l r d) { tag_rows = listed (own i) })

pub row_may_go : (a : Administration) (service : List ℕ) (before after : List TagRow) (row : TagRow) → is_row_of service row ≡ false
    → view (with_tag_rows a (before ++ row ∷ after)) service ≡ view (with_tag_rows a (before ++ after)) service
row_may_go a service before after row other =
    same_rows service a.state (before ++ row ∷ after) (before ++ after) (filter_mid (is_row_of service) before row after other) (log_at a.logs service) (service_at a.state service) (def_of a.state service)
