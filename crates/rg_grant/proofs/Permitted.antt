-- What a row leaves of the permissions that items give.
use Rattle.std.proofs.Common.{◌≡◌, ◌&&◌, ◌||◌, ◌<◌, ℕ, Bool, true, false, not, cond, nat_lt, List, [], ◌∷◌, Contains, length, refl, sym, ap, ◌∙◌, subst, arith, inl, inr}
use Rattle.std.proofs.lemmas.Bool.{and_from, false≢true}
use Rattle.std.proofs.lemmas.Bool.Decides.{nat_tests}
use Rattle.rg_base.specs.Listed.{Listed}
use Rattle.rg_base.specs.Texts.{is_among}
use Rattle.rg_base.proofs.Lists.{Contains-cases, Contains-filter, Contains-filtered, Contains-first, Contains-flat_map, Contains-flat_mapped, Contains-later, Contains-none, among_from, among_holds}
use Rattle.rg_policy.specs.declared.policy.AccessEntry.{AccessEntry}
use Rattle.rg_policy.specs.declared.policy.Item.{Item}
use Rattle.rg_items.specs.PolicyRules.{has_subject}
use Rattle.rg_grant.specs.Permissions.{Gives, Group, IsGiven, Permission, Role, Subject, User, item_names, names_both, row_names}
use Rattle.rg_grant.specs.Taking.{items_left, named_part, others_part, parted, parts_left, says_something, with_subjects}
use Rattle.rg_grant.specs.declared.row.GrantRow.{GrantRow}

-- whether a text stays among those that are parted
abbrev stays : Bool → Bool → Bool
stays named b = cond named b (not b)

parted_holds : (named : Bool) (names texts : List (List ℕ)) (t : List ℕ) → is_among t (parted named names texts) ≡ true
    → (is_among t texts ≡ true) × (stays named (is_among t names) ≡ true)
parted_holds named names texts t h =
    let both = Contains-filtered (λ s. stays named (is_among s names)) texts t (among_holds t (parted named names texts) h) in
    (among_from t texts both.0, both.1)

parted_from : (named : Bool) (names texts : List (List ℕ)) (t : List ℕ) → is_among t texts ≡ true → stays named (is_among t names) ≡ true
    → is_among t (parted named names texts) ≡ true
parted_from named names texts t h stay =
    among_from t (parted named names texts) (Contains-filter (λ s. stays named (is_among s names)) texts t (among_holds t texts h) stay)

-- a part names the subjects of the item that the row names, or those that it doesn't
part_holds : (named : Bool) (g : GrantRow) (i : Item) (s : Subject) → item_names s (with_subjects named g i) ≡ true
    → (item_names s i ≡ true) × (stays named (row_names s g) ≡ true)
part_holds named g i (User name) h = parted_holds named g.users.items i.users.items name h
part_holds named g i (Group name) h = parted_holds named g.groups.items i.groups.items name h
part_holds named g i (Role name) h = parted_holds named g.roles.items i.roles.items name h

part_from : (named : Bool) (g : GrantRow) (i : Item) (s : Subject) → item_names s i ≡ true → stays named (row_names s g) ≡ true
    → item_names s (with_subjects named g i) ≡ true
part_from named g i (User name) h stay = parted_from named g.users.items i.users.items name h stay
part_from named g i (Group name) h stay = parted_from named g.groups.items i.groups.items name h stay
part_from named g i (Role name) h stay = parted_from named g.roles.items i.roles.items name h stay

-- whom an item names is not a matter of its entries
entries_aside : (s : Subject) (i : Item) (entries : Listed AccessEntry) → item_names s (record i { accesses = entries }) ≡ item_names s i
entries_aside (User name) i entries = refl
entries_aside (Group name) i entries = refl
entries_aside (Role name) i entries = refl

not_true : (b : Bool) → not b ≡ true → b ≡ false
not_true false h = refl
not_true true h = absurd (false≢true h)

and_false : (a b : Bool) → b ≡ false → (a && b) ≡ false
and_false false b h = refl
and_false true b h = h

-- ---- what is left was there

given_others : (g : GrantRow) (i : Item) (p : Permission) → Gives (others_part g i) p → Gives i p × (names_both g p ≡ false)
unfolding others_part
given_others g i p h =
    let both = part_holds false g i p.subject h.names in (
      record { names = both.0; grants = h.grants; conditioned = h.conditioned; delegates = h.delegates },
      ap (λ b. b && is_among p.entry.access g.accesses.items) (not_true (row_names p.subject g) both.1),
    )

given_named : (g : GrantRow) (i : Item) (p : Permission) → Gives (named_part g i) p → Gives i p × (names_both g p ≡ false)
unfolding named_part
given_named g i p h =
    let kept = Contains-filtered (λ (e : AccessEntry). not (is_among e.access g.accesses.items)) i.accesses.items p.entry h.grants in (
      record { names = (part_holds true g i p.subject (sym (entries_aside p.subject (with_subjects true g i) (named_part g i).accesses) ∙ h.names)).0; grants = kept.0; conditioned = h.conditioned; delegates = h.delegates },
      and_false (row_names p.subject g) (is_among p.entry.access g.accesses.items) (not_true (is_among p.entry.access g.accesses.items) kept.1),
    )

given_part : (g : GrantRow) (i j : Item) (p : Permission) → Contains (parts_left g i) j → Gives j p → Gives i p × (names_both g p ≡ false)
given_part g i j p there h =
    let among = (Contains-filtered says_something (others_part g i ∷ named_part g i ∷ []) j there).0 in
    elim (Contains-cases (others_part g i) (named_part g i ∷ []) j among) [
      | inl first ↦ given_others g i p (subst (λ k. Gives k p) (sym first) h)
      | inr later ↦ elim (Contains-cases (named_part g i) [] j later) [
        | inl second ↦ given_named g i p (subst (λ k. Gives k p) (sym second) h)
        | inr none ↦ absurd (Contains-none j none)
      ]
    ]

pub given_before : (g : GrantRow) (items : List Item) (p : Permission) → IsGiven (items_left g items) p → IsGiven items p × (names_both g p ≡ false)
given_before g items p h =
    let from = Contains-flat_mapped (parts_left g) items h.0 h.1 in
    let part = given_part g from.0 h.0 p from.2 h.2 in
    ((from.0, from.1, part.0), part.1)

-- ---- what was there is left, unless the row names both

is_filled : {X : Type 0} (xs : List X) (x : X) → Contains xs x → nat_lt 0 (length xs) ≡ true
is_filled xs x h = let some : 0 < length xs = omega (arith, h.1) in grind (arith, nat_tests)

has_named : (i : Item) (s : Subject) → item_names s i ≡ true → has_subject i ≡ true
has_named i (User name) h = ap (λ b. b || (nat_lt 0 (length i.groups.items) || nat_lt 0 (length i.roles.items))) (is_filled i.users.items name (among_holds name i.users.items h))
has_named i (Group name) h = or_later (nat_lt 0 (length i.users.items)) (nat_lt 0 (length i.groups.items) || nat_lt 0 (length i.roles.items))
    (ap (λ b. b || nat_lt 0 (length i.roles.items)) (is_filled i.groups.items name (among_holds name i.groups.items h))) where
      or_later : (a b : Bool) → b ≡ true → (a || b) ≡ true
      or_later false b e = e
      or_later true b e = refl
has_named i (Role name) h = or_later (nat_lt 0 (length i.users.items)) (nat_lt 0 (length i.groups.items) || nat_lt 0 (length i.roles.items))
    (or_later (nat_lt 0 (length i.groups.items)) (nat_lt 0 (length i.roles.items)) (is_filled i.roles.items name (among_holds name i.roles.items h))) where
      or_later : (a b : Bool) → b ≡ true → (a || b) ≡ true
      or_later false b e = e
      or_later true b e = refl

says : (i : Item) (p : Permission) → Gives i p → says_something i ≡ true
says i p h = and_from (has_subject i) (nat_lt 0 (length i.accesses.items)) (has_named i p.subject h.names) (is_filled i.accesses.items p.entry h.grants)

-- a part that gives it is among those that are left
first_left : (g : GrantRow) (i : Item) (p : Permission) → Gives (others_part g i) p → IsGiven (parts_left g i) p
first_left g i p h =
    let all = others_part g i ∷ named_part g i ∷ [] in
    (others_part g i, Contains-filter says_something all (others_part g i) (Contains-first (others_part g i) (named_part g i ∷ [])) (says (others_part g i) p h), h)

second_left : (g : GrantRow) (i : Item) (p : Permission) → Gives (named_part g i) p → IsGiven (parts_left g i) p
second_left g i p h =
    let all = others_part g i ∷ named_part g i ∷ [] in
    let there = Contains-later (others_part g i) (named_part g i ∷ []) (named_part g i) (Contains-first (named_part g i) []) in
    (named_part g i, Contains-filter says_something all (named_part g i) there (says (named_part g i) p h), h)

gives_others : (g : GrantRow) (i : Item) (p : Permission) → Gives i p → row_names p.subject g ≡ false → Gives (others_part g i) p
unfolding others_part
gives_others g i p h other = record {
  names = part_from false g i p.subject h.names (ap not other);
  grants = h.grants;
  conditioned = h.conditioned;
  delegates = h.delegates;
}

gives_named : (g : GrantRow) (i : Item) (p : Permission) → Gives i p → row_names p.subject g ≡ true → is_among p.entry.access g.accesses.items ≡ false → Gives (named_part g i) p
unfolding named_part
gives_named g i p h named other = record {
  names = entries_aside p.subject (with_subjects true g i) (named_part g i).accesses ∙ part_from true g i p.subject h.names named;
  grants = Contains-filter (λ (e : AccessEntry). not (is_among e.access g.accesses.items)) i.accesses.items p.entry h.grants (ap not other);
  conditioned = h.conditioned;
  delegates = h.delegates;
}

left_of : (g : GrantRow) (i : Item) (p : Permission) → Gives i p → names_both g p ≡ false → IsGiven (parts_left g i) p
left_of g i p h apart = at (row_names p.subject g) refl apart where
  at : (b : Bool) → row_names p.subject g ≡ b → (b && is_among p.entry.access g.accesses.items) ≡ false → IsGiven (parts_left g i) p
  at true named other = second_left g i p (gives_named g i p h named other)
  at false other e = first_left g i p (gives_others g i p h other)

pub given_after : (g : GrantRow) (items : List Item) (p : Permission) → IsGiven items p × (names_both g p ≡ false) → IsGiven (items_left g items) p
given_after g items p h =
    let left = left_of g h.0.0 p h.0.2 h.1 in
    (left.0, Contains-flat_map (parts_left g) items h.0.0 left.0 h.0.1 left.1, left.2)
