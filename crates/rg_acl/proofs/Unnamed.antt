-- Users whom nothing names are named alike.
use Rattle.std.proofs.Common.{◌≡◌, ◌&&◌, ◌||◌, ◌++◌, ℕ, zero, suc, Bool, true, false, not, List, length, Contains, true≢false, refl, sym, ap, ◌∙◌, inl, inr}
use Rattle.std.specs.List.{list_any}
use Rattle.std.specs.Str.{bytes_eq}
use Rattle.std.proofs.lemmas.Bool.{and_parts, false_from_ne_true}
use Rattle.std.proofs.lemmas.List.Elements.{Contains-append_cases, Contains-append_left, Contains-append_right}
use Rattle.rg_base.specs.Texts.{is_among}
use Rattle.rg_base.proofs.Lists.{Contains-filter, Contains-flat_map, among_from, among_holds, list_any_agree}
use Rattle.rg_policy.specs.Kinds.{item_lists}
use Rattle.rg_policy.specs.declared.policy.Item.{Item}
use Rattle.rg_policy.specs.declared.policy.Policy.{Policy}
use Rattle.rg_roles.specs.Chains.{leads, leads_within}
use Rattle.rg_roles.specs.Holding.{holds}
use Rattle.rg_roles.specs.Members.{everybody, names_asker}
use Rattle.rg_roles.specs.declared.row.RoleRow.{RoleRow}
use Rattle.rg_facts.specs.Sound.{all_policies}
use Rattle.rg_facts.specs.declared.facts.Facts.{Facts}
use Rattle.rg_acl.specs.Laws.{is_unnamed, owns}
use Rattle.rg_acl.specs.Named.{is_word, named, named_by_items, named_by_policies, named_by_policy, named_by_rows, names_in, of_item, of_row}
use Rattle.rg_acl.specs.declared.named.Listing.TheVariants.{Users}
use Rattle.rg_acl.proofs.Agreeing.{any_agree}
use Rattle.rg_acl.proofs.Plainly.{from_not}

-- ---- what isn't named stands in no list

pub record IsUnnamed (facts : Facts) (owner user : List ℕ) : Type 0 where
  pub no_owner : owns owner user ≡ false
  pub no_item : (p : Policy) (items : List Item) (i : Item) → Contains (all_policies facts) p → Contains (item_lists p) items → Contains items i → is_among user i.users.items ≡ false
  pub no_row : (row : RoleRow) → Contains facts.roles.items row → is_among user row.users.items ≡ false

module _ (facts : Facts) (owner user : List ℕ) (unnamed : is_unnamed facts owner user ≡ true) where
  abbrev rest : (not (owns owner user) ≡ true) × (not (is_among user (named Users facts)) ≡ true)
  rest = and_parts (not (owns owner user)) (not (is_among user (named Users facts))) (and_parts (not (is_word user)) (not (owns owner user) && not (is_among user (named Users facts))) unnamed).1

  no_word : not (is_word user) ≡ true
  no_word = (and_parts (not (is_word user)) (not (owns owner user) && not (is_among user (named Users facts))) unnamed).0

  not_listed : (texts : List (List ℕ)) → ((t : List ℕ) → Contains (names_in texts) t → Contains (named Users facts) t) → is_among user texts ≡ false
  not_listed texts into = false_from_ne_true (is_among user texts) (λ listed.
      true≢false (sym (among_from user (named Users facts) (into user (Contains-filter (λ t. not (is_word t)) texts user (among_holds user texts listed) no_word)))
      ∙ from_not (is_among user (named Users facts)) rest.1))

  by_policy : (p : Policy) (t : List ℕ) → Contains (all_policies facts) p → Contains (named_by_policy Users p) t → Contains (named Users facts) t
  by_policy p t there named_there = elim (Contains-append_cases facts.policies.items facts.tag_policies.items p there) [
    | inl own ↦ Contains-append_left (named_by_policies Users facts.policies.items) (named_by_policies Users facts.tag_policies.items ++ named_by_rows Users facts.roles.items) t
        (Contains-flat_map (named_by_policy Users) facts.policies.items p t own named_there)
    | inr tagged ↦ Contains-append_right (named_by_policies Users facts.policies.items) (named_by_policies Users facts.tag_policies.items ++ named_by_rows Users facts.roles.items) t
        (Contains-append_left (named_by_policies Users facts.tag_policies.items) (named_by_rows Users facts.roles.items) t
        (Contains-flat_map (named_by_policy Users) facts.tag_policies.items p t tagged named_there))
  ]

  by_row : (row : RoleRow) (t : List ℕ) → Contains facts.roles.items row → Contains (names_in row.users.items) t → Contains (named Users facts) t
  by_row row t there named_there =
      Contains-append_right (named_by_policies Users facts.policies.items) (named_by_policies Users facts.tag_policies.items ++ named_by_rows Users facts.roles.items) t
      (Contains-append_right (named_by_policies Users facts.tag_policies.items) (named_by_rows Users facts.roles.items) t
      (Contains-flat_map (λ (r : RoleRow). names_in (of_row Users r)) facts.roles.items row t there named_there))

  pub is_not_named : IsUnnamed facts owner user
  is_not_named = record {
    no_owner = from_not (owns owner user) rest.0;
    no_item = λ p items i policy list item. not_listed i.users.items (λ t there. by_policy p t policy
        (Contains-flat_map (named_by_items Users) (item_lists p) items t list (Contains-flat_map (λ (j : Item). names_in (of_item Users j)) items i t item there)));
    no_row = λ row there. not_listed row.users.items (λ t listed. by_row row t there listed);
  }

-- ---- roles hold them alike

module _ (rows : List RoleRow) (p q : RoleRow → Bool) (same : (row : RoleRow) → Contains rows row → p row ≡ q row) where
  within_alike : (n : ℕ) (role : List ℕ) → leads_within n rows p role ≡ leads_within n rows q role
  within_alike zero role = refl
  within_alike (suc n) role =
      any_agree (λ (row : RoleRow). bytes_eq row.name role && (p row || list_any (leads_within n rows p) row.roles.items))
      (λ (row : RoleRow). bytes_eq row.name role && (q row || list_any (leads_within n rows q) row.roles.items)) rows
      (λ row there. let later = list_any_agree (leads_within n rows p) (leads_within n rows q) (within_alike n) row.roles.items in
      λ i. bytes_eq row.name role && (same row there i || later i))

  pub leads_alike : (role : List ℕ) → leads rows p role ≡ leads rows q role
  unfolding leads
  leads_alike role = within_alike (length rows) role

pub holds_alike : (rows : List RoleRow) (user other : List ℕ) (groups : List (List ℕ)) → ((row : RoleRow) → Contains rows row → is_among user row.users.items ≡ is_among other row.users.items)
    → (role : List ℕ) → holds rows role user groups ≡ holds rows role other groups
holds_alike rows user other groups same role =
    leads_alike rows (names_asker user groups) (names_asker other groups)
    (λ row there. ap (λ b. b || (list_any (λ g. is_among g row.groups.items) groups || is_among everybody row.groups.items)) (same row there)) role
