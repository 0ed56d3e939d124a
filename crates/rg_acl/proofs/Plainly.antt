-- Who asks plays no part where no value has `{USER}`.
use Rattle.std.proofs.Common.{◌≡◌, ◌&&◌, ◌||◌, ℕ, Bool, true, false, not, cond, List, [], ◌∷◌, map, Option, Some, None, Contains, true≢false, refl, sym, ap, ◌∙◌}
use Rattle.std.specs.List.{list_all}
use Rattle.rg_base.proofs.Lists.{all_holds, list_any-map}
use Rattle.rg_defs.specs.PathTests.{on_one_path}
use Rattle.rg_defs.specs.Paths.{level_of}
use Rattle.rg_defs.specs.declared.service_def.Level.{Level}
use Rattle.rg_defs.specs.declared.service_def.ServiceDef.{ServiceDef}
use Rattle.rg_pattern.specs.Atoms.{has_user, twin}
use Rattle.rg_pattern.specs.Reading.{atoms_of}
use Rattle.rg_pattern.specs.Tests.{same_char, some_suffix, stands}
use Rattle.rg_pattern.specs.declared.atoms.Atom.{Atom}
use Rattle.rg_pattern.specs.declared.atoms.Atom.TheVariants.{Character, One, Any, User}
use Rattle.rg_pattern.proofs.Joined.{has_user-twin}
use Rattle.rg_pattern.proofs.Read.{user_past}
use Rattle.rg_policy.specs.Maps.{maps_of}
use Rattle.rg_policy.specs.declared.policy.Policy.{Policy}
use Rattle.rg_policy.specs.declared.policy.PolicyResource.{PolicyResource}
use Rattle.rg_policy.specs.declared.policy.ResourceMap.{ResourceMap}
use Rattle.rg_policy.specs.declared.request.Element.{Element}
use Rattle.rg_resmatch.specs.Tests.{any_stands, hit, is_hit, is_some_element, levels_of, lies, may_name, meets, some_lies, some_stands, value_at}
use Rattle.rg_resmatch.specs.declared.reach.Reach.{Reach}
use Rattle.rg_acl.specs.Laws.{is_plain, map_is_plain, policy_is_plain, resource_is_plain}
use Rattle.rg_acl.proofs.Agreeing.{all_agree, any_agree}

pub from_not : (b : Bool) → not b ≡ true → b ≡ false
from_not true e = sym e
from_not false e = refl

suffix_agree : (f g : List ℕ → Bool) → ((t : List ℕ) → f t ≡ g t) → (t : List ℕ) → some_suffix f t ≡ some_suffix g t
suffix_agree f g e [] = e []
suffix_agree f g e (x ∷ t) = let rest = suffix_agree f g e t in λ i. e (x ∷ t) i || rest i

module _ (fold : Bool) (user other : List ℕ) where
  stands_alike : (p : List Atom) → has_user p ≡ false → (t : List ℕ) → stands fold user p t ≡ stands fold other p t
  stands_alike [] h [] = refl
  stands_alike [] h (x ∷ t) = refl
  stands_alike (Character c ∷ p) h [] = refl
  stands_alike (Character c ∷ p) h (x ∷ t) = ap (λ b. same_char fold c x && b) (stands_alike p h t)
  stands_alike (One ∷ p) h [] = refl
  stands_alike (One ∷ p) h (x ∷ t) = stands_alike p h t
  stands_alike (User ∷ p) h t = absurd (true≢false h)
  stands_alike (Any ∷ p) h t = suffix_agree (stands fold user p) (stands fold other p) (stands_alike p h) t

module _ (user other : List ℕ) where
  -- values that are made to patterns without `{USER}`
  stand_alike : (fold : Bool) (v : List ℕ) (pattern : List ℕ → List Atom) (values : List (List ℕ)) → ((t : List ℕ) → Contains values t → has_user (pattern t) ≡ false)
      → any_stands fold user v (map pattern values) ≡ any_stands fold other v (map pattern values)
  stand_alike fold v pattern values none =
      list_any-map (λ p. stands fold user p v) pattern values
      ∙ any_agree (λ t. stands fold user (pattern t) v) (λ t. stands fold other (pattern t) v) values (λ t there. stands_alike fold user other (pattern t) (none t there) v)
      ∙ sym (list_any-map (λ p. stands fold other p v) pattern values)

  no_user : (wild : Bool) (r : PolicyResource) → resource_is_plain r ≡ true → (t : List ℕ) → Contains r.values.items t → has_user (atoms_of wild t) ≡ false
  no_user wild r plain t there = user_past wild 0 t ∙ from_not (has_user (atoms_of false t)) (all_holds is_plain r.values.items plain t there)

  some_stand_alike : (level : Level) (r : PolicyResource) → resource_is_plain r ≡ true → (v : List ℕ) → some_stands level r user v ≡ some_stands level r other v
  some_stand_alike level r plain v =
      let written = stand_alike level.fold v (atoms_of level.wild) r.values.items (no_user level.wild r plain) in
      let below = stand_alike level.fold v (λ t. twin (atoms_of level.wild t)) r.values.items (λ t there. has_user-twin (atoms_of level.wild t) ∙ no_user level.wild r plain t there) in
      let twins = λ (who : List ℕ). list_any-map (λ p. stands level.fold who p v) twin (map (atoms_of level.wild) r.values.items)
      ∙ list_any-map (λ p. stands level.fold who (twin p) v) (atoms_of level.wild) r.values.items
      ∙ sym (list_any-map (λ p. stands level.fold who p v) (λ t. twin (atoms_of level.wild t)) r.values.items) in
      λ i. written i || (r.recursive && (twins user ∙ below ∙ sym (twins other)) i)

  hit_alike : (level : Level) (r : PolicyResource) → resource_is_plain r ≡ true → (v : List ℕ) → hit level r user v ≡ hit level r other v
  hit_alike level r plain v = ap (λ b. cond r.excludes (not b) b) (some_stand_alike level r plain v)

  is_hit_alike : (o : Option Level) (r : PolicyResource) → resource_is_plain r ≡ true → (v : List ℕ) → is_hit o r user v ≡ is_hit o r other v
  is_hit_alike None r plain v = refl
  is_hit_alike (Some level) r plain v = hit_alike level r plain v

  meets_alike : (def : ServiceDef) (r : PolicyResource) → resource_is_plain r ≡ true → (o : Option (List ℕ)) → meets def user r o ≡ meets def other r o
  meets_alike def r plain None = refl
  meets_alike def r plain (Some v) = is_hit_alike (level_of def r.level) r plain v

  lies_alike : (def : ServiceDef) (m : ResourceMap) → map_is_plain m ≡ true → (reach : Reach) (elements : List Element)
      → lies def m.levels.items reach elements user ≡ lies def m.levels.items reach elements other
  lies_alike def m plain reach elements =
      let all = all_agree (λ (r : PolicyResource). meets def user r (value_at elements r.level)) (λ (r : PolicyResource). meets def other r (value_at elements r.level)) m.levels.items
      (λ r there. meets_alike def r (all_holds resource_is_plain m.levels.items plain r there) (value_at elements r.level)) in
      ap (λ b. is_some_element elements && (on_one_path def.levels.items (levels_of m.levels.items elements) && (b && list_all (may_name reach m.levels.items) elements))) all

  pub some_lies_alike : (def : ServiceDef) (p : Policy) → policy_is_plain p ≡ true → (reach : Reach) (elements : List Element)
      → some_lies def (maps_of p) reach elements user ≡ some_lies def (maps_of p) reach elements other
  some_lies_alike def p plain reach elements =
      any_agree (λ (m : ResourceMap). lies def m.levels.items reach elements user) (λ (m : ResourceMap). lies def m.levels.items reach elements other) (maps_of p)
      (λ m there. lies_alike def m (all_holds map_is_plain (maps_of p) plain m there) reach elements)
