-- Forms of which one goes, is replaced or comes at the end.
use Rattle.std.proofs.Common.{◌≡◌, ◌&&◌, ◌||◌, ◌++◌, ℤ, Bool, true, false, not, cond, List, [], ◌∷◌, map, filter, Some, None, Result, Ok, Err, IfOk, refl, sym, ap, ◌∙◌}
use Rattle.std.proofs.lemmas.Bool.{and_parts, false_from_ne_true, true≢false}
use Rattle.std.proofs.lemmas.Bool.Decides.{Decides-int_eq}
use Rattle.std.proofs.lemmas.List.{map-append}
use Rattle.std.proofs.lemmas.List.Elements.{filter-append}
use Rattle.std.proofs.lemmas.List.Folds.{list_any-append}
use Rattle.std.specs.List.{list_all, list_any}
use Rattle.std.specs.Ordering.{int_eq}
use Rattle.rg_index.specs.Changes.{ids_differ, is_free, same_id}
use Rattle.rg_index.specs.declared.form.Form.{Form}
use Rattle.rg_policy_sets.proofs.Weighing.{not_true, or_parts}

same_flipped : (a b : ℤ) → int_eq a b ≡ false → int_eq b a ≡ false
same_flipped a b other = false_from_ne_true (int_eq b a) (λ same. true≢false (sym ((Decides-int_eq a b).1 (sym ((Decides-int_eq b a).0 same))) ∙ other))

-- ---- one of forms of which no two have one id

-- no other form has the id of this one
pub one_of_id : (before after : List Form) (f : Form) → ids_differ (before ++ f ∷ after) ≡ true → (list_any (same_id f) before ≡ false) × (list_any (same_id f) after ≡ false)
one_of_id [] after f apart = (refl, not_true (list_any (same_id f) after) (and_parts (not (list_any (same_id f) after)) (ids_differ after) apart).0)
one_of_id (b ∷ before) after f apart =
    let parts = and_parts (not (list_any (same_id b) (before ++ f ∷ after))) (ids_differ (before ++ f ∷ after)) apart in
    let rest = one_of_id before after f parts.1 in
    let none = or_parts (list_any (same_id b) before) (list_any (same_id b) (f ∷ after)) (sym (list_any-append (same_id b) before (f ∷ after)) ∙ not_true (list_any (same_id b) (before ++ f ∷ after)) parts.0) in
    let other = (or_parts (same_id b f) (list_any (same_id b) after) none.1).0 in
    (ap (λ x. x || list_any (same_id f) before) (same_flipped f.id b.id other) ∙ rest.0, rest.1)

none_goes : (f : Form) (forms : List Form) → list_any (same_id f) forms ≡ false → filter (λ g. not (same_id f g)) forms ≡ forms
none_goes f [] none = refl
none_goes f (g ∷ forms) none =
    let parts = or_parts (same_id f g) (list_any (same_id f) forms) none in
    ap (λ b. cond (not b) (g ∷ filter (λ g. not (same_id f g)) forms) (filter (λ g. not (same_id f g)) forms)) parts.0 ∙ ap (λ l. g ∷ l) (none_goes f forms parts.1)

none_changes : (f new : Form) (forms : List Form) → list_any (same_id f) forms ≡ false → map (λ g. cond (same_id f g) new g) forms ≡ forms
none_changes f new [] none = refl
none_changes f new (g ∷ forms) none =
    let parts = or_parts (same_id f g) (list_any (same_id f) forms) none in
    λ i. cond (parts.0 i) new g ∷ none_changes f new forms parts.1 i

own_id : (f : Form) → same_id f f ≡ true
own_id f = (Decides-int_eq f.id f.id).1 refl

pub one_gone : (before after : List Form) (f : Form) → ids_differ (before ++ f ∷ after) ≡ true → filter (λ g. not (same_id f g)) (before ++ f ∷ after) ≡ before ++ after
one_gone before after f apart =
    let parts = one_of_id before after f apart in
    filter-append (λ g. not (same_id f g)) before (f ∷ after)
    ∙ (λ i. none_goes f before parts.0 i ++ cond (not (own_id f i)) (f ∷ none_goes f after parts.1 i) (none_goes f after parts.1 i))

pub one_changed : (before after : List Form) (f new : Form) → ids_differ (before ++ f ∷ after) ≡ true → map (λ g. cond (same_id f g) new g) (before ++ f ∷ after) ≡ before ++ new ∷ after
one_changed before after f new apart =
    let parts = one_of_id before after f apart in
    map-append (λ g. cond (same_id f g) new g) before (f ∷ after)
    ∙ (λ i. none_changes f new before parts.0 i ++ cond (own_id f i) new f ∷ none_changes f new after parts.1 i)

-- ---- free ids

or_true : (b : Bool) → (b || true) ≡ true
or_true true = refl
or_true false = refl

or_not : (b : Bool) → (b || not b) ≡ true
or_not true = refl
or_not false = refl

all_true : {X : Type 0} (p : X → Bool) (xs : List X) → ((x : X) → p x ≡ true) → list_all p xs ≡ true
all_true p [] e = refl
all_true p (x ∷ xs) e = λ i. e x i && all_true p xs e i

pub free_none : (forms : List Form) → is_free forms None None ≡ true
free_none forms = all_true (λ f. true) forms (λ f. refl)

pub free_gone : (forms : List Form) (old : Form) → is_free forms (Some old) None ≡ true
free_gone forms old = all_true (λ f. same_id old f || true) forms (λ f. or_true (same_id old f))

pub free_changed : (forms : List Form) (old new : Form) → new.id ≡ old.id → is_free forms (Some old) (Some new) ≡ true
free_changed forms old new same = all_true (λ f. same_id old f || not (same_id new f)) forms
    (λ f. ap (λ i. same_id old f || not (int_eq f.id i)) same ∙ or_not (same_id old f))

pub free_new : (forms : List Form) (new : Form) → list_any (same_id new) forms ≡ false → is_free forms None (Some new) ≡ true
free_new [] new none = refl
free_new (f ∷ forms) new none =
    let parts = or_parts (same_id new f) (list_any (same_id new) forms) none in
    λ i. not (parts.0 i) && free_new forms new parts.1 i

-- ---- answers

pub if_ok : {T E : Type 0} {P Q : T → Type 0} (r : Result T E) → ((x : T) → P x → Q x) → IfOk r P → IfOk r Q
if_ok (Ok x) f p = f x p
if_ok (Err e) f p = tt
