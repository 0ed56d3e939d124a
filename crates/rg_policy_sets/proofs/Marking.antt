-- A policy that lies on a resource has marks with which the values of the resource agree.
use Rattle.std.proofs.Common.{◌≡◌, ◌⊎◌, ◌&&◌, ◌||◌, ◌==◌, ℕ, Bool, true, false, not, cond, if◌then◌else◌, List, [], ◌∷◌, Option, Some, None, Contains, find, length, map, nat_eq, slice_get, take, refl, sym, ap, ◌∙◌, inl, inr, arith}
use Rattle.std.proofs.lemmas.Bool.{and_parts, false≢true, not-true, or_cases}
use Rattle.std.proofs.lemmas.List.{take-map}
use Rattle.std.proofs.lemmas.Slice.Eq.{bytes_eq-Decides}
use Rattle.std.specs.List.{list_all, list_any, starts_with}
use Rattle.std.specs.Str.{bytes_eq}
use Rattle.rg_base.proofs.Lists.{Contains-cases, Contains-none, Contains-slice_get, all_from, all_holds, any_from, find_contained}
use Rattle.rg_base.specs.Folding.{folded, folded_char}
use Rattle.rg_base.specs.Texts.{all_distinct, is_name}
use Rattle.rg_defs.specs.declared.service_def.Level.{Level}
use Rattle.rg_defs.specs.declared.service_def.ServiceDef.{ServiceDef}
use Rattle.rg_defs.specs.Paths.{level_of}
use Rattle.rg_defs.specs.PathTests.{on_one_path}
use Rattle.rg_defs.specs.Rules.{def_fault, has_from_to}
use Rattle.rg_pattern.specs.Atoms.{twin}
use Rattle.rg_pattern.specs.Reading.{atoms_of}
use Rattle.rg_pattern.specs.Tests.{stands}
use Rattle.rg_policy.specs.Maps.{maps_of}
use Rattle.rg_policy.specs.declared.policy.Policy.{Policy}
use Rattle.rg_policy.specs.declared.policy.PolicyResource.{PolicyResource}
use Rattle.rg_policy.specs.declared.policy.ResourceMap.{ResourceMap}
use Rattle.rg_policy.specs.declared.request.Element.{Element}
use Rattle.rg_resmatch.specs.Rules.{are_written, is_some_text, supports, values_fit_level}
use Rattle.rg_resmatch.specs.Tests.{any_stands, hit, is_hit, is_some_element, levels_of, lies, may_name, meets, some_lies, some_stands, value_at}
use Rattle.rg_resmatch.specs.declared.reach.Reach.TheVariants.{Exact}
use Rattle.rg_tree.specs.Hashes.{hash_of, hash_of_state, state_after, step}
use Rattle.rg_evalr.specs.Compiling.{policy_fault}
use Rattle.rg_evalr.specs.Frames.{def_of}
use Rattle.rg_evalr.specs.Sources.{Source}
use Rattle.rg_evalr.specs.declared.frame.Frame.{Frame}
use Rattle.rg_evalr.specs.declared.frame.Side.{Side}
use Rattle.rg_defs.proofs.Few.{levels_hold}
use Rattle.rg_index.proofs.PatternLaws.{PrefixLaw, StandsLaw, TwinLaw}
use Rattle.rg_policy_sets.specs.Marks.{Asked, admits, agrees, asked_at, found_key, key_beside, mark_at, mark_of, only_key, policy_key, resource_key, source_mark, unasked, value_agrees}
use Rattle.rg_policy_sets.specs.Seen.{source}
use Rattle.rg_policy_sets.proofs.Passing.{values_pass}

-- ---- hashes

-- the hash of a text that is folded meanwhile
folding : (fold : Bool) (state : ℕ) (text : List ℕ) → state_after fold state text ≡ state_after false state (folded fold text)
folding fold state [] = refl
folding fold state (c ∷ cs) = folding fold (step state (folded_char fold c)) cs

same_number : (m n : ℕ) → m ≡ n → (m == n) ≡ true
same_number m n e = grind arith

-- a text that begins with a key agrees with its mark
begun : (fold : Bool) (text key : List ℕ) → starts_with nat_eq (folded fold text) key ≡ true → (hash_of fold (take (length key) text) == hash_of false key) ≡ true
begun fold text key h =
    let front : key ≡ take (length key) (folded fold text) = (bytes_eq-Decides key (take (length key) (folded fold text))).0 h in
    same_number _ _ (ap hash_of_state (folding fold 0 (take (length key) text)) ∙ ap (hash_of false) (sym (take-map (folded_char fold) (length key) text) ∙ sym front))

-- ---- how values begin

empty_begins : (text : List ℕ) → starts_with nat_eq text [] ≡ true
empty_begins [] = refl
empty_begins (c ∷ text) = refl

or_false : (b : Bool) → (b || false) ≡ true → b ≡ true
or_false true h = refl
or_false false h = h

-- a level among levels of distinct names is found by its name
found_itself : (levels : List Level) (l : Level) → all_distinct (λ (l m : Level). bytes_eq m.name l.name) levels ≡ true → Contains levels l → find (λ (m : Level). bytes_eq m.name l.name) levels ≡ Some l
found_itself [] l d h = absurd (Contains-none l h)
found_itself (m ∷ ms) l d h = at (bytes_eq m.name l.name) refl (Contains-cases m ms l h) (found_itself ms l parts.1) where
  parts : (not (list_any (λ (n : Level). bytes_eq n.name m.name) ms) ≡ true) × (all_distinct (λ (l m : Level). bytes_eq m.name l.name) ms ≡ true)
  parts = and_parts (not (list_any (λ (n : Level). bytes_eq n.name m.name) ms)) (all_distinct (λ (l m : Level). bytes_eq m.name l.name) ms) d

  at : (b : Bool) → bytes_eq m.name l.name ≡ b → (m ≡ l) ⊎ Contains ms l → (Contains ms l → find (λ (m : Level). bytes_eq m.name l.name) ms ≡ Some l)
      → cond (bytes_eq m.name l.name) (Some m) (find (λ (m : Level). bytes_eq m.name l.name) ms) ≡ Some l
  at true e (inl same) later = ap (λ b. cond b (Some m) (find (λ (m : Level). bytes_eq m.name l.name) ms)) e ∙ ap Some same
  at true e (inr on) later =
      absurd (false≢true (sym (not-true _ parts.0) ∙ any_from (λ (n : Level). bytes_eq n.name m.name) ms l on ((bytes_eq-Decides l.name m.name).1 (sym ((bytes_eq-Decides m.name l.name).0 e)))))
  at false e (inl same) later = absurd (false≢true (sym e ∙ (bytes_eq-Decides m.name l.name).1 (ap (λ (z : Level). z.name) same)))
  at false e (inr on) later = ap (λ b. cond b (Some m) (find (λ (m : Level). bytes_eq m.name l.name) ms)) e ∙ later on

distinct_levels : (def : ServiceDef) → def_fault def ≡ None → all_distinct (λ (l m : Level). bytes_eq m.name l.name) def.levels.items ≡ true
distinct_levels def lawful =
    (and_parts (has_from_to 1 16 (length def.levels.items) && list_all (λ (l : Level). is_name l.name) def.levels.items) (all_distinct (λ (l m : Level). bytes_eq m.name l.name) def.levels.items) (levels_hold def lawful).0).1

module _ (stand : StandsLaw) (prefix : PrefixLaw) (twinned : TwinLaw) where
  only_begins : (l : Level) (user value : List ℕ) (recursive : Bool) (values : List (List ℕ))
      → (any_stands l.fold user value (map (atoms_of l.wild) values) || (recursive && any_stands l.fold user value (map twin (map (atoms_of l.wild) values)))) ≡ true
      → starts_with nat_eq (folded l.fold value) (only_key l values) ≡ true
  only_begins l user value recursive [] h = empty_begins (folded l.fold value)
  only_begins l user value recursive (t ∷ u ∷ ts) h = empty_begins (folded l.fold value)
  only_begins l user value recursive (t ∷ []) h =
      let p = atoms_of l.wild t in
      elim (or_cases (any_stands l.fold user value (p ∷ [])) (recursive && any_stands l.fold user value (twin p ∷ [])) h) [
        | inl now ↦ prefix l.fold user p value ((stand l.fold user p value).0 (or_false (stands l.fold user p value) now))
        | inr below ↦
            let under = (and_parts recursive (any_stands l.fold user value (twin p ∷ [])) below).1 in
            twinned l.fold user p value ((stand l.fold user (twin p) value).0 (or_false (stands l.fold user (twin p) value) under))
      ]

  resource_begins : (l : Level) (r : PolicyResource) (user value : List ℕ) → hit l r user value ≡ true → starts_with nat_eq (folded l.fold value) (resource_key l r) ≡ true
  resource_begins l r user value h = at r.excludes h where
    at : (b : Bool) → (if b then not (some_stands l r user value) else some_stands l r user value) ≡ true
        → starts_with nat_eq (folded l.fold value) (if b then [] else only_key l r.values.items) ≡ true
    at true g = empty_begins (folded l.fold value)
    at false g = only_begins l user value r.recursive r.values.items g

  module _ (def : ServiceDef) (elements : List Element) (user : List ℕ) (l : Level) (known : level_of def l.name ≡ Some l) (v : List ℕ) (given : value_at elements l.name ≡ Some v) where
    named_begins : (resources : List PolicyResource) (o : Option PolicyResource) → find (λ (r : PolicyResource). bytes_eq r.level l.name) resources ≡ o
        → list_all (λ (r : PolicyResource). meets def user r (value_at elements r.level)) resources ≡ true → starts_with nat_eq (folded l.fold v) (found_key l o) ≡ true
    named_begins resources None e met = empty_begins (folded l.fold v)
    named_begins resources (Some r) e met =
        let w = find_contained (λ (r : PolicyResource). bytes_eq r.level l.name) resources r e in
        let same : r.level ≡ l.name = (bytes_eq-Decides r.level l.name).0 w.1 in
        let on : is_hit (Some l) r user v ≡ true =
        ap (λ (o : Option Level). is_hit o r user v) (sym (ap (level_of def) same ∙ known))
        ∙ ap (meets def user r) (sym (ap (value_at elements) same ∙ given))
        ∙ all_holds (λ (r : PolicyResource). meets def user r (value_at elements r.level)) resources met r w.0 in
        resource_begins l r user v on

    policy_begins : (p : Policy) → some_lies def (maps_of p) Exact elements user ≡ true → starts_with nat_eq (folded l.fold v) (policy_key l p) ≡ true
    policy_begins p h = at p.additional.items h where
      at : (ms : List ResourceMap) → some_lies def (record { levels = p.resources } ∷ ms) Exact elements user ≡ true → starts_with nat_eq (folded l.fold v) (key_beside l p.resources.items ms) ≡ true
      at (m ∷ ms) g = empty_begins (folded l.fold v)
      at [] g =
          let lying = or_false (lies def p.resources.items Exact elements user) g in
          let first = and_parts (is_some_element elements) _ lying in
          let second = and_parts (on_one_path def.levels.items (levels_of p.resources.items elements)) _ first.1 in
          let third = and_parts (list_all (λ (r : PolicyResource). meets def user r (value_at elements r.level)) p.resources.items) (list_all (may_name Exact p.resources.items) elements) second.1 in
          named_begins p.resources.items (find (λ (r : PolicyResource). bytes_eq r.level l.name) p.resources.items) refl third.0

  pub agreeing : (def : ServiceDef) → def_fault def ≡ None → (p : Policy) (elements : List Element) (user : List ℕ) → some_lies def (maps_of p) Exact elements user ≡ true → (place : ℕ)
      → agrees (asked_at (slice_get def.levels.items place) elements) (mark_at (slice_get def.levels.items place) p) ≡ true
  agreeing def lawful p elements user lying place = at (slice_get def.levels.items place) refl where
    at : (o : Option Level) → slice_get def.levels.items place ≡ o → agrees (asked_at o elements) (mark_at o p) ≡ true
    at None e = refl
    at (Some l) e = valued (value_at elements l.name) refl where
      known : level_of def l.name ≡ Some l
      known = found_itself def.levels.items l (distinct_levels def lawful) (Contains-slice_get def.levels.items place l e)

      valued : (o : Option (List ℕ)) → value_at elements l.name ≡ o → value_agrees l.fold o (mark_of (policy_key l p)) ≡ true
      valued None g = refl
      valued (Some v) g = begun l.fold v (policy_key l p) (policy_begins def elements user l known v g p lying)

-- ---- values are patterns

pub written : (frame : Frame) (side : Side) (p : Policy) → policy_fault frame side p ≡ None → are_written p.resources.items ≡ true
written frame side p h =
    let def = def_of frame side in
    let fit = (and_parts (list_all (values_fit_level def) p.resources.items) _ (values_pass frame side p h)).0 in
    all_from (λ (r : PolicyResource). list_all is_name r.values.items) p.resources.items (λ r w.
    let some = and_parts (is_some_text r.values.items) _ (all_holds (values_fit_level def) p.resources.items fit r w) in
    (and_parts (list_all is_name r.values.items) (supports (level_of def r.level) r) some.1).0)

pub found_written : (name : List ℕ) (resources : List PolicyResource) (r : PolicyResource) → are_written resources ≡ true → Some r ≡ find (λ (r : PolicyResource). bytes_eq r.level name) resources
    → list_all is_name r.values.items ≡ true
found_written name resources r all e =
    all_holds (λ (r : PolicyResource). list_all is_name r.values.items) resources all r (find_contained (λ (r : PolicyResource). bytes_eq r.level name) resources r (sym e)).0

-- ---- what a set is asked for

abbrev pub AgreeLaw : Type 0
AgreeLaw = (def : ServiceDef) (p : Policy) (elements : List Element) (user : List ℕ) (place : ℕ) → def_fault def ≡ None
    → some_lies def (maps_of p) Exact elements user ≡ true → agrees (asked_at (slice_get def.levels.items place) elements) (mark_at (slice_get def.levels.items place) p) ≡ true

pub admitting : AgreeLaw → (frame : Frame) (side : Side) (levels : List Level) (elements : List Element) (first second : Asked) → levels ≡ (def_of frame side).levels.items → def_fault (def_of frame side) ≡ None
    → first ≡ asked_at (slice_get levels 0) elements → second ≡ asked_at (slice_get levels 1) elements
    → (p : Policy) (user : List ℕ) → some_lies (def_of frame side) (maps_of p) Exact elements user ≡ true → admits first second (source frame side p) ≡ true
admitting law frame side levels elements first second same lawful is_first is_second p user lying =
    let def = def_of frame side in
    let one : agrees first (mark_at (slice_get def.levels.items 0) p) ≡ true =
    ap (λ (a : Asked). agrees a (mark_at (slice_get def.levels.items 0) p)) (is_first ∙ ap (λ ls. asked_at (slice_get ls 0) elements) same) ∙ law def p elements user 0 lawful lying in
    let two : agrees second (mark_at (slice_get def.levels.items 1) p) ≡ true =
    ap (λ (a : Asked). agrees a (mark_at (slice_get def.levels.items 1) p)) (is_second ∙ ap (λ ls. asked_at (slice_get ls 1) elements) same) ∙ law def p elements user 1 lawful lying in
    λ i. one i && two i

-- where nothing is asked for, all are admitted
pub unasked_admits : (first second : Asked) → first ≡ unasked → second ≡ unasked → (s : Source) → admits first second s ≡ true
unasked_admits first second a b s = λ i. agrees (a i) (source_mark 0 s) && agrees (b i) (source_mark 1 s)
