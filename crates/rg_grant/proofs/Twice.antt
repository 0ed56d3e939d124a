-- What a row left it leaves again.
use Rattle.std.proofs.Common.{◌≡◌, ◌&&◌, ◌||◌, ◌++◌, ℕ, Bool, true, false, not, cond, nat_lt, List, [], ◌∷◌, length, filter, refl, sym, ap, ◌∙◌}
use Rattle.std.proofs.lemmas.Grind.{flat_map-append}
use Rattle.rg_base.specs.Listed.{listed}
use Rattle.rg_base.specs.Texts.{is_among}
use Rattle.rg_policy.specs.declared.policy.AccessEntry.{AccessEntry}
use Rattle.rg_policy.specs.declared.policy.Item.{Item}
use Rattle.rg_admin_laws.proofs.Lists.{case}
use Rattle.rg_grant.specs.Taking.{entries_left, items_left, named_part, others_part, parted, parts_left, says_something}
use Rattle.rg_grant.specs.declared.row.GrantRow.{GrantRow}

-- ---- filters

filter_again : {X : Type 0} (p : X → Bool) (xs : List X) → filter p (filter p xs) ≡ filter p xs
filter_again p [] = refl
filter_again p (x ∷ xs) =
    case (λ b. p x ≡ b → filter p (cond b (x ∷ filter p xs) (filter p xs)) ≡ cond b (x ∷ filter p xs) (filter p xs)) (p x)
    (λ _ its. ap (λ b. cond b (x ∷ filter p (filter p xs)) (filter p (filter p xs))) its ∙ ap (λ ys. x ∷ ys) (filter_again p xs))
    (λ _ _. filter_again p xs)
    refl

filter_other : {X : Type 0} (p q : X → Bool) → ((x : X) → q x ≡ true → p x ≡ false) → (xs : List X) → filter p (filter q xs) ≡ []
filter_other p q apart [] = refl
filter_other p q apart (x ∷ xs) =
    case (λ b. q x ≡ b → filter p (cond b (x ∷ filter q xs) (filter q xs)) ≡ []) (q x)
    (λ _ its. ap (λ b. cond b (x ∷ filter p (filter q xs)) (filter p (filter q xs))) (apart x its) ∙ filter_other p q apart xs)
    (λ _ _. filter_other p q apart xs)
    refl

not_of : (b : Bool) → not b ≡ true → b ≡ false
not_of false h = refl
not_of true h = sym h

of_named : (names : List (List ℕ)) (texts : List (List ℕ)) → parted false names (parted true names texts) ≡ []
of_named names texts = filter_other (λ t. not (is_among t names)) (λ t. is_among t names) (λ t its. ap not its) texts

of_others : (names : List (List ℕ)) (texts : List (List ℕ)) → parted true names (parted false names texts) ≡ []
of_others names texts = filter_other (λ t. is_among t names) (λ t. not (is_among t names)) (λ t its. not_of (is_among t names) its) texts

-- ---- parts of parts

module _ (g : GrantRow) (i : Item) where
  others_again : others_part g (others_part g i) ≡ others_part g i
  unfolding others_part
  others_again = λ k. record i {
    users = listed (filter_again (λ t. not (is_among t g.users.items)) i.users.items k);
    groups = listed (filter_again (λ t. not (is_among t g.groups.items)) i.groups.items k);
    roles = listed (filter_again (λ t. not (is_among t g.roles.items)) i.roles.items k);
  }

  named_again : named_part g (named_part g i) ≡ named_part g i
  unfolding named_part
  named_again = λ k. record i {
    accesses = listed (filter_again (λ (e : AccessEntry). not (is_among e.access g.accesses.items)) i.accesses.items k);
    users = listed (filter_again (λ t. is_among t g.users.items) i.users.items k);
    groups = listed (filter_again (λ t. is_among t g.groups.items) i.groups.items k);
    roles = listed (filter_again (λ t. is_among t g.roles.items) i.roles.items k);
  }

  named_of_others : says_something (named_part g (others_part g i)) ≡ false
  unfolding named_part others_part
  named_of_others = λ k.
      (nat_lt 0 (length (of_others g.users.items i.users.items k)) || (nat_lt 0 (length (of_others g.groups.items i.groups.items k)) || nat_lt 0 (length (of_others g.roles.items i.roles.items k))))
      && nat_lt 0 (length (entries_left g i.accesses.items))

  others_of_named : says_something (others_part g (named_part g i)) ≡ false
  unfolding named_part others_part
  others_of_named = λ k.
      (nat_lt 0 (length (of_named g.users.items i.users.items k)) || (nat_lt 0 (length (of_named g.groups.items i.groups.items k)) || nat_lt 0 (length (of_named g.roles.items i.roles.items k))))
      && nat_lt 0 (length (entries_left g i.accesses.items))

  -- a part that says something is left as it is
  left_of_others : says_something (others_part g i) ≡ true → parts_left g (others_part g i) ≡ others_part g i ∷ []
  left_of_others its =
      ap (λ j. filter says_something (j ∷ named_part g (others_part g i) ∷ [])) others_again
      ∙ (λ k. cond (its k) (others_part g i ∷ cond (named_of_others k) (named_part g (others_part g i) ∷ []) []) (cond (named_of_others k) (named_part g (others_part g i) ∷ []) []))

  left_of_named : says_something (named_part g i) ≡ true → parts_left g (named_part g i) ≡ named_part g i ∷ []
  left_of_named its =
      ap (λ j. filter says_something (others_part g (named_part g i) ∷ j ∷ [])) named_again
      ∙ (λ k. cond (others_of_named k) (others_part g (named_part g i) ∷ cond (its k) (named_part g i ∷ []) []) (cond (its k) (named_part g i ∷ []) []))

  left_of_parts : items_left g (parts_left g i) ≡ parts_left g i
  left_of_parts =
      let o = others_part g i in
      let n = named_part g i in
      let second = λ (front : List Item).
      case (λ b. says_something n ≡ b → items_left g (cond b (n ∷ []) []) ≡ cond b (n ∷ []) []) (says_something n)
      (λ _ its. ap (λ ys. ys ++ []) (left_of_named its)) (λ _ _. refl) refl in
      case (λ b. says_something o ≡ b → items_left g (cond b (o ∷ filter says_something (n ∷ [])) (filter says_something (n ∷ []))) ≡ cond b (o ∷ filter says_something (n ∷ [])) (filter says_something (n ∷ []))) (says_something o)
      (λ _ its. λ k. left_of_others its k ++ second [] k) (λ _ _. second []) refl

pub left_again : (g : GrantRow) (items : List Item) → items_left g (items_left g items) ≡ items_left g items
left_again g [] = refl
left_again g (i ∷ items) = flat_map-append (parts_left g) (parts_left g i) (items_left g items) ∙ (λ k. left_of_parts g i k ++ left_again g items k)
