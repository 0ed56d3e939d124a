-- What is filed after a change.
use Rattle.std.proofs.Common.{◌≡◌, ◌⊎◌, ◌+◌, ◌≤◌, ◌++◌, ◌||◌, ℕ, ℤ, Bool, true, false, not, cond, if◌then◌else◌, List, [], ◌∷◌, Option, Some, None, Contains, map, filter, refl, sym, ap, subst, ◌∙◌, inl, inr, arith}
use Rattle.std.proofs.lemmas.Bool.{and_from, and_parts, false≢true, not-true, not_from_false}
use Rattle.std.proofs.lemmas.Bool.Decides.{Decides-int_eq}
use Rattle.std.proofs.lemmas.List.Elements.{Contains-append_cases, Contains-append_left, Contains-append_right}
use Rattle.std.proofs.lemmas.List.Folds.{list_any-append}
use Rattle.std.specs.List.{list_all, list_any}
use Rattle.rg_base.proofs.Lists.{Contains-cases, Contains-filter, Contains-filtered, Contains-first, Contains-flat_map, Contains-flat_mapped, Contains-later, Contains-map, Contains-mapped, Contains-none, Contains-same, all_from, all_holds, any_from, any_holds}
use Rattle.rg_defs.specs.declared.service_def.ServiceDef.{ServiceDef}
use Rattle.rg_trie.specs.declared.pair.Pair.{Pair}
use Rattle.rg_index.specs.declared.form.Form.{Form}
use Rattle.rg_index.specs.Candidates.{in_order}
use Rattle.rg_index.specs.Changes.{IsAmong, changed, form_fits, forms_fit, given_fits, has_id_of, ids_differ, is_free, same_id}
use Rattle.rg_index.specs.Filing.{all_pairs, form_pairs, keys_at, numbered}
use Rattle.rg_index.specs.Kept.{with_all, without_all}
use Rattle.rg_index.proofs.Ordered.{Apart, added, apart_append, into_new, into_old, left, ordered_from, rising_all, rising_left, same_list, stays}

-- ---- the pairs of one form

pub record IsOf (id : ℤ) (place : ℕ) (keys : List (List ℕ)) (q : Pair) : Type 0 where
  pub owner : q.entry.id ≡ id
  pub from : place ≤ q.entry.place
  pub key : Contains keys q.key

pub numbered_of : (id : ℤ) (place : ℕ) (keys : List (List ℕ)) (q : Pair) → Contains (numbered id place keys) q → IsOf id place keys q
numbered_of id place [] q h = absurd (Contains-none q h)
numbered_of id place (key ∷ keys) q h = elim (Contains-cases _ (numbered id (place + 1) keys) q h) [
  | inl same ↦ record {
    owner = sym (ap (λ (p : Pair). p.entry.id) same);
    from = let e : place ≡ q.entry.place = ap (λ (p : Pair). p.entry.place) same in omega arith;
    key = Contains-same (key ∷ keys) key q.key (ap (λ (p : Pair). p.key) same) (Contains-first key keys);
  }
  | inr on ↦
      let r = numbered_of id (place + 1) keys q on in
      let after = r.from in
      record { owner = r.owner; from = omega (arith, after); key = Contains-later key keys q.key r.key }
]

-- each key has a pair
pub numbered_has : (id : ℤ) (place : ℕ) (keys : List (List ℕ)) (key : List ℕ) → Contains keys key → (q : Pair) × Contains (numbered id place keys) q × (q.entry.id ≡ id) × (q.key ≡ key)
numbered_has id place [] key h = absurd (Contains-none key h)
numbered_has id place (k ∷ keys) key h = elim (Contains-cases k keys key h) [
  | inl same ↦ (record { key = k; entry = record { id = id; place = place } }, Contains-first _ (numbered id (place + 1) keys), refl, same)
  | inr on ↦ let r = numbered_has id (place + 1) keys key on in (r.0, Contains-later _ (numbered id (place + 1) keys) r.0 r.1, r.2, r.3)
]

numbered_apart : (id : ℤ) (place : ℕ) (keys : List (List ℕ)) → Apart (numbered id place keys)
numbered_apart id place [] = tt
numbered_apart id place (key ∷ keys) = (
  λ w. let after : place + 1 ≤ place = (numbered_of id (place + 1) keys _ w).from in absurd (omega (arith, after)),
  numbered_apart id (place + 1) keys,
)

-- ---- forms and their ids

same_from : (f g : Form) → f.id ≡ g.id → same_id f g ≡ true
same_from f g e = (Decides-int_eq g.id f.id).1 (sym e)

id_from : (f g : Form) → same_id f g ≡ true → f.id ≡ g.id
id_from f g e = sym ((Decides-int_eq g.id f.id).0 e)

-- forms of one id are the same
same_form : (forms : List Form) → ids_differ forms ≡ true → (f g : Form) → Contains forms f → Contains forms g → f.id ≡ g.id → f ≡ g
same_form [] d f g h k e = absurd (Contains-none f h)
same_form (x ∷ xs) d f g h k e =
    let parts = and_parts (not (list_any (same_id x) xs)) (ids_differ xs) d in
    let apart = not-true _ parts.0 in
    elim (Contains-cases x xs f h) [
      | inl a ↦ elim (Contains-cases x xs g k) [
        | inl b ↦ sym a ∙ b
        | inr b ↦ absurd (false≢true (sym apart ∙ any_from (same_id x) xs g b (same_from x g (ap (λ (z : Form). z.id) a ∙ e))))
      ]
      | inr a ↦ elim (Contains-cases x xs g k) [
        | inl b ↦ absurd (false≢true (sym apart ∙ any_from (same_id x) xs f a (same_from x f (ap (λ (z : Form). z.id) b ∙ sym e))))
        | inr b ↦ same_form xs parts.1 f g a b e
      ]
    ]

module _ (def : ServiceDef) (name : List ℕ) where
  owner : (f : Form) (q : Pair) → Contains (form_pairs def name f) q → q.entry.id ≡ f.id
  owner f q h = (numbered_of f.id 0 (keys_at def f name) q h).owner

  -- no pair is filed twice
  pub all_apart : (forms : List Form) → ids_differ forms ≡ true → Apart (all_pairs def name forms)
  all_apart [] d = tt
  all_apart (f ∷ fs) d =
      let parts = and_parts (not (list_any (same_id f) fs)) (ids_differ fs) d in
      apart_append (form_pairs def name f) (all_pairs def name fs) (numbered_apart f.id 0 (keys_at def f name)) (all_apart fs parts.1)
      (λ q w v. let g = Contains-flat_mapped (form_pairs def name) fs q v in
      false≢true (sym (not-true _ parts.0) ∙ any_from (same_id f) fs g.0 g.1 (same_from f g.0 (sym (owner f q w) ∙ owner g.0 q g.2))))

-- ---- which forms there are after a change

abbrev Is : Option Form → Form → Type 0
Is None g = ⊥
Is (Some f) g = f ≡ g

abbrev Stays : List Form → Option Form → Form → Type 0
Stays forms old g = Contains forms g × (has_id_of old g ≡ false)

bool_cases : (b : Bool) → (b ≡ true) ⊎ (b ≡ false)
bool_cases true = inl refl
bool_cases false = inr refl

changed_from : (forms : List Form) (old new : Option Form) (g : Form) → Contains (changed forms old new) g → Is new g ⊎ Stays forms old g
changed_from forms None None g h = inr (h, refl)
changed_from forms None (Some new) g h = elim (Contains-append_cases forms (new ∷ []) g h) [
  | inl on ↦ inr (on, refl)
  | inr last ↦ elim (Contains-cases new [] g last) [ inl e ↦ inl e | inr none ↦ absurd (Contains-none g none) ]
]
changed_from forms (Some old) None g h = let k = Contains-filtered (λ f. not (same_id old f)) forms g h in inr (k.0, not-true _ k.1)
changed_from forms (Some old) (Some new) g h =
    let k = Contains-mapped (λ f. if same_id old f then new else f) forms g h in
    elim (bool_cases (same_id old k.0)) [
      | inl e ↦ inl (sym (ap (λ (b : Bool). if b then new else k.0) e) ∙ k.2)
      | inr e ↦ let same : k.0 ≡ g = sym (ap (λ (b : Bool). if b then new else k.0) e) ∙ k.2 in inr (Contains-same forms k.0 g same k.1, ap (same_id old) (sym same) ∙ e)
    ]

changed_stays : (forms : List Form) (old new : Option Form) (g : Form) → Stays forms old g → Contains (changed forms old new) g
changed_stays forms None None g h = h.0
changed_stays forms None (Some new) g h = Contains-append_left forms (new ∷ []) g h.0
changed_stays forms (Some old) None g h = Contains-filter (λ f. not (same_id old f)) forms g h.0 (not_from_false _ h.1)
changed_stays forms (Some old) (Some new) g h =
    Contains-same (changed forms (Some old) (Some new)) _ g (ap (λ (b : Bool). if b then new else g) h.1) (Contains-map (λ f. if same_id old f then new else f) forms g h.0)

changed_new : (forms : List Form) (old : Option Form) (new : Form) → IsAmong forms old → Contains (changed forms old (Some new)) new
changed_new forms None new a = Contains-append_right forms (new ∷ []) new (Contains-first new [])
changed_new forms (Some old) new a =
    Contains-same (changed forms (Some old) (Some new)) _ new (ap (λ (b : Bool). if b then new else old) (same_from old old refl)) (Contains-map (λ f. if same_id old f then new else f) forms old a)

-- ---- which pairs there are after a change

abbrev pub given_form_pairs : ServiceDef → List ℕ → Option Form → List Pair
given_form_pairs def name None = []
given_form_pairs def name (Some f) = form_pairs def name f

module _ (def : ServiceDef) (name : List ℕ) (forms : List Form) (old : Option Form) (apart : ids_differ forms ≡ true) (among : IsAmong forms old) where
  into_changed : (new : Option Form) (q : Pair) → Contains (given_form_pairs def name new) q → Contains (all_pairs def name (changed forms old new)) q
  into_changed None q h = absurd (Contains-none q h)
  into_changed (Some new) q h = Contains-flat_map (form_pairs def name) (changed forms old (Some new)) new q (changed_new forms old new among) h

  -- a form whose pair isn't one of the old form stays
  stays_unless : (o : Option Form) → IsAmong forms o → (g : Form) (q : Pair) → Contains forms g → Contains (form_pairs def name g) q → (Contains (given_form_pairs def name o) q → ⊥) → has_id_of o g ≡ false
  stays_unless None a g q h w n = refl
  stays_unless (Some f) a g q h w n = elim (bool_cases (same_id f g)) [
    | inl e ↦ absurd (n (subst (λ (z : Form). Contains (form_pairs def name z) q) (sym (same_form forms apart f g a h (id_from f g e))) w))
    | inr e ↦ e
  ]

  not_of_old : (o : Option Form) (g : Form) (q : Pair) → has_id_of o g ≡ false → Contains (form_pairs def name g) q → Contains (given_form_pairs def name o) q → ⊥
  not_of_old None g q e w v = Contains-none q v
  not_of_old (Some f) g q e w v = false≢true (sym e ∙ same_from f g (sym (owner def name f q v) ∙ owner def name g q w))

  after : (new : Option Form) (g : Form) (q : Pair) → Is new g → Contains (form_pairs def name g) q → Contains (given_form_pairs def name new) q
  after None g q e w = absurd e
  after (Some f) g q e w = subst (λ (z : Form). Contains (form_pairs def name z) q) (sym e) w

  -- the trie of a level after the change is that of the changed forms
  pub after_change : (new : Option Form)
      → with_all (without_all (in_order (all_pairs def name forms)) (given_form_pairs def name old)) (given_form_pairs def name new) ≡ in_order (all_pairs def name (changed forms old new))
  after_change new =
      let all = all_pairs def name forms in
      let gone = given_form_pairs def name old in
      let come = given_form_pairs def name new in
      let later = all_pairs def name (changed forms old new) in
      same_list (with_all (without_all (in_order all) gone) come) (in_order later)
      (rising_all come (without_all (in_order all) gone) (rising_left gone (in_order all) (rising_all all [] tt))) (rising_all later [] tt)
      (λ q h. into_new later [] q (elim (added come (without_all (in_order all) gone) q h) [
        | inl new ↦ into_changed _ q new
        | inr held ↦
            let k = left gone (in_order all) q held in
            let g = Contains-flat_mapped (form_pairs def name) forms q (ordered_from all q k.0) in
            Contains-flat_map (form_pairs def name) (changed forms old new) g.0 q (changed_stays forms old new g.0 (g.1, stays_unless old among g.0 q g.1 g.2 k.1)) g.2
      ]))
      (λ q h. let g = Contains-flat_mapped (form_pairs def name) (changed forms old new) q (ordered_from later q h) in
      elim (changed_from forms old new g.0 g.1) [
        | inl e ↦ into_new come (without_all (in_order all) gone) q (after new g.0 q e g.2)
        | inr on ↦ into_old come (without_all (in_order all) gone) q (stays gone (in_order all) q (into_new all [] q (Contains-flat_map (form_pairs def name) forms g.0 q on.0 g.2)) (not_of_old old g.0 q on.1 g.2))
      ])

-- ---- the changed forms may be filed

apart_of_fewer : (p : Form → Bool) (forms : List Form) → ids_differ forms ≡ true → ids_differ (filter p forms) ≡ true
apart_of_fewer p [] d = refl
apart_of_fewer p (f ∷ fs) d = at (p f) (apart_of_fewer p fs parts.1) where
  parts : (not (list_any (same_id f) fs) ≡ true) × (ids_differ fs ≡ true)
  parts = and_parts (not (list_any (same_id f) fs)) (ids_differ fs) d

  none : list_any (same_id f) (filter p fs) ≡ false
  none = elim (bool_cases (list_any (same_id f) (filter p fs))) [
    | inl e ↦ let g = any_holds (same_id f) (filter p fs) e in absurd (false≢true (sym (not-true _ parts.0) ∙ any_from (same_id f) fs g.0 (Contains-filtered p fs g.0 g.1).0 g.2))
    | inr e ↦ e
  ]

  at : (b : Bool) → ids_differ (filter p fs) ≡ true → ids_differ (cond b (f ∷ filter p fs) (filter p fs)) ≡ true
  at true h = and_from (not (list_any (same_id f) (filter p fs))) (ids_differ (filter p fs)) (not_from_false _ none) h
  at false h = h

apart_with : (forms : List Form) (new : Form) → ids_differ forms ≡ true → list_all (λ f. not (same_id new f)) forms ≡ true → ids_differ (forms ++ new ∷ []) ≡ true
apart_with [] new d free = refl
apart_with (f ∷ fs) new d free =
    let parts = and_parts (not (list_any (same_id f) fs)) (ids_differ fs) d in
    let others = and_parts (not (same_id new f)) (list_all (λ f. not (same_id new f)) fs) free in
    let off : same_id f new ≡ false = other_way f new (not-true _ others.0) in
    let none : list_any (same_id f) (fs ++ new ∷ []) ≡ false =
    list_any-append (same_id f) fs (new ∷ []) ∙ ap (λ b. b || (same_id f new || false)) (not-true _ parts.0) ∙ ap (λ b. b || false) off in
    and_from (not (list_any (same_id f) (fs ++ new ∷ []))) (ids_differ (fs ++ new ∷ [])) (not_from_false _ none) (apart_with fs new parts.1 others.1) where
      other_way : (f g : Form) → same_id g f ≡ false → same_id f g ≡ false
      other_way f g e = elim (bool_cases (same_id f g)) [
        | inl k ↦ absurd (false≢true (sym e ∙ same_from g f (sym (id_from f g k))))
        | inr k ↦ k
      ]

module _ (old new : Form) where
  abbrev put : Form → Form
  put f = if same_id old f then new else f

  -- of two forms of different ids, the put ones differ too, where no other form has the id of the new one
  put_apart : (f g : Form) → (same_id old f || not (same_id new f)) ≡ true → (same_id old g || not (same_id new g)) ≡ true → (f.id ≡ g.id → ⊥) → same_id (put f) (put g) ≡ true → ⊥
  put_apart f g p q n e = at (same_id old f) refl (same_id old g) refl where
    at : (b : Bool) → same_id old f ≡ b → (d : Bool) → same_id old g ≡ d → ⊥
    at true k true l = n (sym (id_from old f k) ∙ id_from old g l)
    at true k false l =
        let same : new.id ≡ g.id = ap (λ (b : Bool). (if b then new else f).id) (sym k) ∙ id_from (put f) (put g) e ∙ ap (λ (b : Bool). (if b then new else g).id) l in
        let off : not (same_id new g) ≡ true = ap (λ b. b || not (same_id new g)) (sym l) ∙ q in
        false≢true (sym (not-true _ off) ∙ same_from new g same)
    at false k true l =
        let same : f.id ≡ new.id = ap (λ (b : Bool). (if b then new else f).id) (sym k) ∙ id_from (put f) (put g) e ∙ ap (λ (b : Bool). (if b then new else g).id) l in
        let off : not (same_id new f) ≡ true = ap (λ b. b || not (same_id new f)) (sym k) ∙ p in
        false≢true (sym (not-true _ off) ∙ same_from new f (sym same))
    at false k false l = n (ap (λ (b : Bool). (if b then new else f).id) (sym k) ∙ id_from (put f) (put g) e ∙ ap (λ (b : Bool). (if b then new else g).id) l)

  apart_put : (forms : List Form) → ids_differ forms ≡ true → list_all (λ f. same_id old f || not (same_id new f)) forms ≡ true → ids_differ (map put forms) ≡ true
  apart_put [] d free = refl
  apart_put (f ∷ fs) d free =
      let parts = and_parts (not (list_any (same_id f) fs)) (ids_differ fs) d in
      let others = and_parts (same_id old f || not (same_id new f)) (list_all (λ f. same_id old f || not (same_id new f)) fs) free in
      let none : list_any (same_id (put f)) (map put fs) ≡ false = elim (bool_cases (list_any (same_id (put f)) (map put fs))) [
        | inl e ↦
            let h = any_holds (same_id (put f)) (map put fs) e in
            let g = Contains-mapped put fs h.0 h.1 in
            absurd (put_apart f g.0 others.0 (all_holds (λ f. same_id old f || not (same_id new f)) fs others.1 g.0 g.1)
            (λ same. false≢true (sym (not-true _ parts.0) ∙ any_from (same_id f) fs g.0 g.1 (same_from f g.0 same))) (ap (same_id (put f)) g.2 ∙ h.2))
        | inr e ↦ e
      ] in
      and_from (not (list_any (same_id (put f)) (map put fs))) (ids_differ (map put fs)) (not_from_false _ none) (apart_put fs parts.1 others.1)

pub after_change_apart : (forms : List Form) (old new : Option Form) → ids_differ forms ≡ true → is_free forms old new ≡ true → ids_differ (changed forms old new) ≡ true
after_change_apart forms None None d free = d
after_change_apart forms None (Some new) d free = apart_with forms new d free
after_change_apart forms (Some old) None d free = apart_of_fewer (λ f. not (same_id old f)) forms d
after_change_apart forms (Some old) (Some new) d free = apart_put old new forms d free

pub after_change_fit : (def : ServiceDef) (forms : List Form) (old new : Option Form) → forms_fit def forms ≡ true → given_fits def new ≡ true → forms_fit def (changed forms old new) ≡ true
after_change_fit def forms old new h k = all_from (form_fits def) (changed forms old new) (λ g w. elim (changed_from forms old new g w) [
  | inl e ↦ of_new new g e k
  | inr on ↦ all_holds (form_fits def) forms h g on.0
]) where
  of_new : (o : Option Form) (g : Form) → Is o g → given_fits def o ≡ true → form_fits def g ≡ true
  of_new None g e k = absurd e
  of_new (Some f) g e k = ap (form_fits def) (sym e) ∙ k
