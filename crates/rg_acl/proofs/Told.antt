-- What the rows of a report say, and that none is missing.
use Rattle.std.proofs.Common.{◌≡◌, ◌++◌, ℕ, true, List, [], ◌∷◌, Contains, map, refl, subst, ◌∙◌, inl, inr}
use Rattle.std.specs.Str.{chars, encode_utf8_all}
use Rattle.std.proofs.lemmas.List.Elements.{Contains-append_cases, Contains-append_left, Contains-append_right}
use Rattle.rg_base.proofs.Lists.{Contains-cases, Contains-first, Contains-flat_map, Contains-flat_mapped, Contains-map, Contains-mapped, Contains-none, Contains-same}
use Rattle.rg_roles.specs.Members.{names_of}
use Rattle.rg_facts.specs.declared.facts.Facts.{Facts}
use Rattle.rg_acl.specs.Laws.{AreForOthers, HasRow, HasRows, IsDecided, IsDecidedFor, IsText, Says, is_unnamed, values_are_plain}
use Rattle.rg_acl.specs.Named.{named}
use Rattle.rg_acl.specs.Ordered.{bytes_in_order, in_order}
use Rattle.rg_acl.specs.Rows.{asked_for, group_asker, named_askers, other_asker, report_rows, request_of, role_asker, role_askers, row_of, rows_for, rows_of, user_asker}
use Rattle.rg_acl.specs.Strangers.{stranger, with_members}
use Rattle.rg_acl.specs.declared.ask.ReportAsk.{ReportAsk}
use Rattle.rg_acl.specs.declared.asker.Asker.{Asker}
use Rattle.rg_acl.specs.declared.named.Listing.TheVariants.{Users, Groups}
use Rattle.rg_acl.specs.declared.row.ReportRow.{ReportRow}
use Rattle.rg_acl.specs.declared.row.SubjectKind.{SubjectKind}
use Rattle.rg_acl.specs.declared.row.SubjectKind.TheVariants.{User, Group, Role, Other}
use Rattle.rg_acl.proofs.Others.{decided_alike}
use Rattle.rg_acl.proofs.Sorted.{ordered_into}
use Rattle.rg_acl.proofs.Strange.{is_stranger}

-- ---- rows and askers

-- the row of an asker and an access
pub record IsOf (facts : Facts) (ask : ReportAsk) (accesses : List (List ℕ)) (askers : List Asker) (row : ReportRow) : Type 0 where
  pub asker : Asker
  pub asks : Contains askers asker
  pub access : List ℕ
  pub asked : Contains accesses access
  pub is : row_of facts ask asker access ≡ row

rows_from : (facts : Facts) (ask : ReportAsk) (accesses : List (List ℕ)) (askers : List Asker) (row : ReportRow) → Contains (rows_of facts ask accesses askers) row → IsOf facts ask accesses askers row
rows_from facts ask accesses askers row there =
    let asker = Contains-flat_mapped (rows_for facts ask accesses) askers row there in
    let access = Contains-mapped (row_of facts ask asker.0) accesses row asker.2 in
    record { asker = asker.0; asks = asker.1; access = access.0; asked = access.1; is = access.2 }

rows_into : (facts : Facts) (ask : ReportAsk) (accesses : List (List ℕ)) (askers : List Asker) (asker : Asker) (access : List ℕ) → Contains askers asker → Contains accesses access
    → Contains (rows_of facts ask accesses askers) (row_of facts ask asker access)
rows_into facts ask accesses askers asker access asks asked =
    Contains-flat_map (rows_for facts ask accesses) askers asker (row_of facts ask asker access) asks (Contains-map (row_of facts ask asker) accesses access asked)

says_so : (facts : Facts) (ask : ReportAsk) (asker : Asker) (access : List ℕ) → Says facts (request_of ask asker access) (row_of facts ask asker access)
says_so facts ask asker access = record { verdict = refl; access = λ serial. refl; policy = λ serial. refl }

module _ (facts : Facts) (ask : ReportAsk) where
  abbrev who : List ℕ
  who = stranger facts ask.resource.owner

  abbrev accesses : List (List ℕ)
  accesses = asked_for facts ask

  abbrev own_rows : List ReportRow
  own_rows = rows_of facts ask accesses (named_askers facts who)

  abbrev role_rows : List ReportRow
  role_rows = rows_of (with_members who facts) ask accesses (role_askers facts.roles.items who)

  abbrev other_rows : List ReportRow
  other_rows = rows_of facts ask accesses (other_asker who ∷ [])

  -- ---- what they say

  abbrev SaidOf : ReportRow → Type 0
  SaidOf row = IsDecided facts ask row

  own_said : (row : ReportRow) → Contains own_rows row → SaidOf row
  own_said row there =
      let of = rows_from facts ask accesses (named_askers facts who) row there in
      subst SaidOf of.is (elim (Contains-append_cases (map user_asker (in_order (named Users facts))) (map (group_asker who) (in_order (named Groups facts))) of.asker of.asks) [
        | inl user ↦
            let name = Contains-mapped user_asker (in_order (named Users facts)) of.asker user in
            subst (λ (asker : Asker). SaidOf (row_of facts ask asker of.access)) name.2 (says_so facts ask (user_asker name.0) of.access)
        | inr group ↦
            let name = Contains-mapped (group_asker who) (in_order (named Groups facts)) of.asker group in
            subst (λ (asker : Asker). SaidOf (row_of facts ask asker of.access)) name.2 (says_so facts ask (group_asker who name.0) of.access)
      ])

  role_said : (row : ReportRow) → Contains role_rows row → SaidOf row
  role_said row there =
      let of = rows_from (with_members who facts) ask accesses (role_askers facts.roles.items who) row there in
      let name = Contains-mapped (role_asker who facts.roles.items) (in_order (names_of facts.roles.items)) of.asker of.asks in
      subst SaidOf of.is
      (subst (λ (asker : Asker). SaidOf (row_of (with_members who facts) ask asker of.access)) name.2 (says_so (with_members who facts) ask (role_asker who facts.roles.items name.0) of.access))

  other_said : (row : ReportRow) → Contains other_rows row → SaidOf row
  other_said row there =
      let of = rows_from facts ask accesses (other_asker who ∷ []) row there in
      subst SaidOf of.is (elim (Contains-cases (other_asker who) [] of.asker of.asks) [
        | inl same ↦ subst (λ (asker : Asker). SaidOf (row_of facts ask asker of.access)) same (says_so facts ask (other_asker who) of.access)
        | inr none ↦ absurd (Contains-none of.asker none)
      ])

  pub decided : (row : ReportRow) → Contains (report_rows facts ask) row → IsDecided facts ask row
  decided row there = elim (Contains-append_cases own_rows (role_rows ++ other_rows) row there) [
    | inl own ↦ own_said row own
    | inr later ↦ elim (Contains-append_cases role_rows other_rows row later) [ inl role ↦ role_said row role | inr other ↦ other_said row other ]
  ]

  -- ---- none is missing

  ordered : (texts : List (List ℕ)) (name : List ℕ) → IsText name → Contains texts name → Contains (in_order texts) name
  ordered texts name is there =
      Contains-same (in_order texts) (chars (encode_utf8_all name)) name is
      (Contains-map chars (bytes_in_order (map encode_utf8_all texts)) (encode_utf8_all name)
      (ordered_into (map encode_utf8_all texts) (encode_utf8_all name) (Contains-map encode_utf8_all texts name there)))

  own_there : (row : ReportRow) → Contains own_rows row → Contains (report_rows facts ask) row
  own_there row there = Contains-append_left own_rows (role_rows ++ other_rows) row there

  role_there : (row : ReportRow) → Contains role_rows row → Contains (report_rows facts ask) row
  role_there row there = Contains-append_right own_rows (role_rows ++ other_rows) row (Contains-append_left role_rows other_rows row there)

  other_there : (row : ReportRow) → Contains other_rows row → Contains (report_rows facts ask) row
  other_there row there = Contains-append_right own_rows (role_rows ++ other_rows) row (Contains-append_right role_rows other_rows row there)

  user_row : (name access : List ℕ) → IsText name → Contains (named Users facts) name → Contains accesses access → HasRow (report_rows facts ask) User name access
  user_row name access is there asked = record {
    row = row_of facts ask (user_asker name) access;
    there = own_there (row_of facts ask (user_asker name) access) (rows_into facts ask accesses (named_askers facts who) (user_asker name) access
        (Contains-append_left (map user_asker (in_order (named Users facts))) (map (group_asker who) (in_order (named Groups facts))) (user_asker name)
        (Contains-map user_asker (in_order (named Users facts)) name (ordered (named Users facts) name is there))) asked);
    is_kind = refl;
    is_name = refl;
    is_access = refl;
  }

  group_row : (name access : List ℕ) → IsText name → Contains (named Groups facts) name → Contains accesses access → HasRow (report_rows facts ask) Group name access
  group_row name access is there asked = record {
    row = row_of facts ask (group_asker who name) access;
    there = own_there (row_of facts ask (group_asker who name) access) (rows_into facts ask accesses (named_askers facts who) (group_asker who name) access
        (Contains-append_right (map user_asker (in_order (named Users facts))) (map (group_asker who) (in_order (named Groups facts))) (group_asker who name)
        (Contains-map (group_asker who) (in_order (named Groups facts)) name (ordered (named Groups facts) name is there))) asked);
    is_kind = refl;
    is_name = refl;
    is_access = refl;
  }

  role_row : (name access : List ℕ) → IsText name → Contains (names_of facts.roles.items) name → Contains accesses access → HasRow (report_rows facts ask) Role name access
  role_row name access is there asked =
      let rows = facts.roles.items in record {
        row = row_of (with_members who facts) ask (role_asker who rows name) access;
        there = role_there (row_of (with_members who facts) ask (role_asker who rows name) access)
            (rows_into (with_members who facts) ask accesses (role_askers rows who) (role_asker who rows name) access
            (Contains-map (role_asker who rows) (in_order (names_of rows)) name (ordered (names_of rows) name is there)) asked);
        is_kind = refl;
        is_name = refl;
        is_access = refl;
      }

  other_row : (access : List ℕ) → Contains accesses access → HasRow (report_rows facts ask) Other [] access
  other_row access asked = record {
    row = row_of facts ask (other_asker who) access;
    there = other_there (row_of facts ask (other_asker who) access) (rows_into facts ask accesses (other_asker who ∷ []) (other_asker who) access (Contains-first (other_asker who) []) asked);
    is_kind = refl;
    is_name = refl;
    is_access = refl;
  }

  pub complete : HasRows facts ask (report_rows facts ask)
  complete = record { users = user_row; groups = group_row; roles = role_row; others = other_row }

  -- ---- those who aren't named

  pub for_others : (user : List ℕ) → values_are_plain facts ≡ true → is_unnamed facts ask.resource.owner user ≡ true → AreForOthers facts ask user (report_rows facts ask)
  for_others user plain unnamed row there other =
      let said : Says facts (request_of ask (other_asker who) row.access) row = subst (λ (kind : SubjectKind). IsDecidedFor kind facts ask row) other (decided row there) in
      said.verdict ∙ decided_alike facts (request_of ask (user_asker user) row.access) who user plain (is_stranger facts ask.resource.owner) unnamed
