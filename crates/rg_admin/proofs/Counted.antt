-- The counts of prints are those of the policies after every step.
use Rattle.std.proofs.Common.{◌≡◌, ◌+◌, ◌-◌, ◌||◌, ℕ, Bool, true, false, not, cond, List, [], ◌∷◌, ◌++◌, Option, Some, None, option_map, arith, refl, ap, sym, ◌∙◌, subst}
use Rattle.std.specs.List.{find, list_any, sum_by}
use Rattle.std.specs.Ordering.{int_eq}
use Rattle.std.proofs.lemmas.Bool.{and_parts}
use Rattle.std.proofs.lemmas.List.Sums.{sum_by-append}
use Rattle.std.proofs.lemmas.Option.{none-some, same_Some}
use Rattle.rg_base.proofs.Lists.{any_holds}
use Rattle.rg_base.specs.Texts.{all_distinct}
use Rattle.rg_base.specs.declared.numbers.PolicyId.{PolicyId}
use Rattle.rg_base.specs.declared.numbers.Version.{Version}
use Rattle.rg_policy.specs.declared.policy.Policy.{Policy}
use Rattle.rg_same_resources.specs.Counts.{IsCounted, count_of, has_print}
use Rattle.rg_same_resources.specs.Prints.{name_print_of, prints_of}
use Rattle.rg_same_resources.specs.declared.prints.Prints.{Prints}
use Rattle.rg_same_resources.proofs.Counting.{sum_next}
use Rattle.rg_cmd.specs.Lists.{put, without}
use Rattle.rg_cmd.specs.Lookups.{has_id, policy_at}
use Rattle.rg_cmd.specs.declared.ask.AdminCommand.{AdminCommand}
use Rattle.rg_cmd.specs.declared.ask.AdminCommand.TheVariants.{CreatePolicy, DeletePolicy, UpdatePolicy}
use Rattle.rg_cmd.specs.declared.ask.AdminReply.{AdminReply}
use Rattle.rg_cmd.specs.declared.ask.Ask.{Ask}
use Rattle.rg_cmd.specs.declared.state.State.{State}
use Rattle.rg_validate.specs.Valid.{IsKept}
use Rattle.rg_validate.proofs.Places.{one_id}
use Rattle.rg_admin_laws.specs.Changes.{after_command, created_form, updated_form}
use Rattle.rg_admin_laws.specs.Logs.{Administration}
use Rattle.rg_admin_laws.specs.Steps.{step_by}
use Rattle.rg_admin_laws.proofs.Lists.{find_none, replaced, some_there}
use Rattle.rg_admin.specs.Counting.{IsCountedIn, IsCountedOut, shift_of, times}
use Rattle.rg_admin.specs.Stepped.{IsAccepted}
use Rattle.rg_admin.proofs.Firsts.{none_after, none_replaced, none_taken}

-- ---- sums over a list that is changed

sum_more : {X : Type 0} (f : X → ℕ) (xs : List X) (x : X) → sum_by f (xs ++ x ∷ []) ≡ sum_by f xs + f x
sum_more f xs x = let parts : sum_by f (xs ++ x ∷ []) ≡ sum_by f xs + sum_by f (x ∷ []) = sum_by-append f xs (x ∷ []) in omega (arith, parts, sum_next f x [])

module _ {X : Type 0} (alike : X → X → Bool) (same : X → Bool) (shared : (a b : X) → same a ≡ true → same b ≡ true → alike a b ≡ true) (f : X → ℕ) where
  -- the one that is the same is gone
  sum_without : (xs : List X) (o : X) → all_distinct alike xs ≡ true → find same xs ≡ Some o → sum_by f (without same xs) + f o ≡ sum_by f xs
  sum_without [] o distinct is = absurd (none-some o is)
  sum_without (y ∷ xs) o distinct is = at (same y) refl is (sum_without xs o parts.1)
    where
      parts : (not (list_any (alike y) xs) ≡ true) × (all_distinct alike xs ≡ true)
      parts = and_parts (not (list_any (alike y) xs)) (all_distinct alike xs) distinct

      at : (b : Bool) → same y ≡ b → cond b (Some y) (find same xs) ≡ Some o → (find same xs ≡ Some o → sum_by f (without same xs) + f o ≡ sum_by f xs)
          → sum_by f (cond (not b) (y ∷ without same xs) (without same xs)) + f o ≡ sum_by f (y ∷ xs)
      at true e first rest =
          let its : f y ≡ f o = ap f (same_Some y o first) in
          let others : sum_by f (without same xs) ≡ sum_by f xs = ap (sum_by f) (none_taken alike same shared xs (none_after alike same shared y xs e parts.0)) in
          omega (arith, its, others, sum_next f y xs)
      at false e later rest = let held = rest later in omega (arith, held, sum_next f y xs, sum_next f y (without same xs))

  -- the new one is in the place of the one that is the same
  sum_replaced : (x : X) (xs : List X) (o : X) → all_distinct alike xs ≡ true → find same xs ≡ Some o → sum_by f (replaced same x xs) + f o ≡ sum_by f xs + f x
  sum_replaced x [] o distinct is = absurd (none-some o is)
  sum_replaced x (y ∷ xs) o distinct is = at (same y) refl is (sum_replaced x xs o parts.1)
    where
      parts : (not (list_any (alike y) xs) ≡ true) × (all_distinct alike xs ≡ true)
      parts = and_parts (not (list_any (alike y) xs)) (all_distinct alike xs) distinct

      at : (b : Bool) → same y ≡ b → cond b (Some y) (find same xs) ≡ Some o → (find same xs ≡ Some o → sum_by f (replaced same x xs) + f o ≡ sum_by f xs + f x)
          → sum_by f (cond b x y ∷ replaced same x xs) + f o ≡ sum_by f (y ∷ xs) + f x
      at true e first rest =
          let its : f y ≡ f o = ap f (same_Some y o first) in
          let others : sum_by f (replaced same x xs) ≡ sum_by f xs = ap (sum_by f) (none_replaced alike same shared x xs (none_after alike same shared y xs e parts.0)) in
          omega (arith, its, others, sum_next f x (replaced same x xs), sum_next f y xs)
      at false e later rest = let held = rest later in omega (arith, held, sum_next f y (replaced same x xs), sum_next f y xs)

-- ---- a change of the policies

not_there : {X : Type 0} (p : X → Bool) (xs : List X) → find p xs ≡ None → list_any p xs ≡ false
not_there p xs none = at (list_any p xs) refl
  where
    at : (b : Bool) → list_any p xs ≡ b → list_any p xs ≡ false
    at false e = e
    at true e = let y = any_holds p xs e in absurd (find_none p xs none y.0 y.1 y.2)

abbrev same_id : Policy → Policy → Bool
same_id p q = int_eq p.id.0 q.id.0

none_less : (n : ℕ) → n + 0 ≡ n
none_less n = omega arith

-- neither the id nor the version plays a part
same_prints : (k : ℕ) (p : Policy) (id : PolicyId) (version : Version) → has_print k (record p { id = id; version = version }) ≡ has_print k p
unfolding name_print_of
same_prints k p id version = refl

stored : (k n : ℕ) (p : Policy) (id : PolicyId) (version : Version) → n + has_print k (record p { id = id; version = version }) ≡ n + has_print k p
stored k n p id version = ap (λ m. n + m) (same_prints k p id version)

-- what is taken away is counted before, and what is brought after
moved : (s : State) (c : AdminCommand) → IsKept s → (k : ℕ)
    → sum_by (has_print k) (after_command s c).policies.items + times (shift_of s c).takes k ≡ sum_by (has_print k) s.policies.items + times (shift_of s c).brings k
moved s (CreatePolicy p) kept k = none_less _ ∙ sum_more (has_print k) s.policies.items (created_form s p) ∙ stored k _ p (created_form s p).id (created_form s p).version
moved s (UpdatePolicy p) kept k = at (policy_at s p.id.0) refl
  where
    xs : List Policy
    xs = s.policies.items

    new : Policy
    new = updated_form s p

    at : (old : Option Policy) → policy_at s p.id.0 ≡ old → sum_by (has_print k) (put (has_id p.id.0) new xs) + times (option_map prints_of old) k ≡ sum_by (has_print k) xs + has_print k p
    at None none =
        subst (λ b. sum_by (has_print k) (cond b (replaced (has_id p.id.0) new xs) (xs ++ new ∷ [])) + 0 ≡ sum_by (has_print k) xs + has_print k p) (sym (not_there (has_id p.id.0) xs none))
        (none_less _ ∙ sum_more (has_print k) xs new ∙ stored k _ p p.id new.version)
    at (Some o) is =
        subst (λ b. sum_by (has_print k) (cond b (replaced (has_id p.id.0) new xs) (xs ++ new ∷ [])) + has_print k o ≡ sum_by (has_print k) xs + has_print k p) (sym (some_there (has_id p.id.0) xs o is))
        (sum_replaced same_id (has_id p.id.0) (one_id p.id.0) (has_print k) new xs o kept.valid.policy_ids is ∙ stored k _ p p.id new.version)
moved s (DeletePolicy id) kept k = at (policy_at s id.0) refl
  where
    xs : List Policy
    xs = s.policies.items

    at : (old : Option Policy) → policy_at s id.0 ≡ old → sum_by (has_print k) (without (has_id id.0) xs) + times (option_map prints_of old) k ≡ sum_by (has_print k) xs + 0
    at None none = ap (λ ps. sum_by (has_print k) ps + 0) (none_taken same_id (has_id id.0) (one_id id.0) xs (not_there (has_id id.0) xs none))
    at (Some o) is = sum_without same_id (has_id id.0) (one_id id.0) (has_print k) xs o kept.valid.policy_ids is ∙ sym (none_less _)
moved s c kept k = refl

counted_change : (s : State) (c : AdminCommand) (before between after : List (ℕ × ℕ)) → IsKept s → IsCounted before s.policies.items
    → IsCountedIn (shift_of s c).brings before between → IsCountedOut (shift_of s c).takes between after → IsCounted after (after_command s c).policies.items
unfolding IsCounted
counted_change s c before between after kept counted brings takes k =
    let old = counted k in
    let more = brings k in
    let less = takes k in
    let sums = moved s c kept k in
    omega (arith, old, more, less, sums)

-- ---- an ask that is answered

pub counted_after : (a b : Administration) (ask : Ask) (reply : AdminReply) (before between after : List (ℕ × ℕ)) → IsKept a.state → IsCounted before a.state.policies.items → IsAccepted a ask b reply
    → IsCountedIn (shift_of a.state ask.command).brings before between → IsCountedOut (shift_of a.state ask.command).takes between after → IsCounted after b.state.policies.items
unfolding IsAccepted
counted_after a b ask reply before between after kept counted accepted brings takes =
    subst (λ (t : Administration × AdminReply). IsCounted after t.0.state.policies.items) (sym accepted) (counted_change a.state ask.command before between after kept counted brings takes)

-- and one for which memory is refused
pub counted_again : (ps : List Policy) (prints : Option Prints) (before between after : List (ℕ × ℕ)) → IsCounted before ps → IsCountedIn prints before between → IsCountedOut prints between after → IsCounted after ps
unfolding IsCounted
counted_again ps prints before between after counted brings takes k =
    let old = counted k in
    let more = brings k in
    let less = takes k in
    omega (arith, old, more, less)
