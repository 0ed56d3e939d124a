-- The matching of what is compiled against the written resources.
use Rattle.std.proofs.Common.{◌≡◌, ◌&&◌, ◌||◌, ℕ, Bool, true, false, not, if◌then◌else◌, List, [], ◌∷◌, map, Option, Some, None, option_map, slice_get, refl, sym, ap, subst, ◌∙◌}
use Rattle.std.proofs.lemmas.Bool.{false≢true, and_parts, and_from}
use Rattle.std.proofs.lemmas.List.Folds.{list_all-append, list_all-map}
use Rattle.std.proofs.lemmas.Slice.Eq.{bytes_eq-Decides}
use Rattle.std.specs.List.{cons_option, list_all, list_any}
use Rattle.std.specs.Option.{unwrap_or}
use Rattle.std.specs.Str.{bytes_eq}
use Rattle.rg_base.proofs.Lists.{all_from, all_holds, any_from, any_holds, list_all_agree, list_any-map}
use Rattle.rg_base.specs.Listed.{Listed, listed}
use Rattle.rg_base.specs.Texts.{all_distinct, is_among}
use Rattle.rg_defs.specs.declared.service_def.Level.{Level}
use Rattle.rg_defs.specs.declared.service_def.ServiceDef.{ServiceDef}
use Rattle.rg_defs.specs.Paths.{level_of}
use Rattle.rg_defs.specs.PathTests.{has_name, lies_on, mandatory_named, on_one_path, paths_of}
use Rattle.rg_defs.specs.Rules.{has_level}
use Rattle.rg_pattern.specs.Atoms.{twin}
use Rattle.rg_pattern.specs.Reading.{atoms_of, value_patterns}
use Rattle.rg_pattern.specs.Tests.{stands}
use Rattle.rg_policy.specs.declared.policy.PolicyResource.{PolicyResource}
use Rattle.rg_policy.specs.declared.policy.ResourceMap.{ResourceMap}
use Rattle.rg_policy.specs.declared.request.Element.{Element}
use Rattle.rg_resmatch.specs.declared.reach.Reach.{Reach}
use Rattle.rg_resmatch.specs.declared.reach.Reach.TheVariants.{Exact, Down}
use Rattle.rg_resmatch.specs.Compiled.{Answers, folds, form_hit, form_lies, form_meets, in_reach, is_known, level_form, map_form, map_forms, named_paths, names_form, path_names, patterns_at, some_form_lies, written_maps}
use Rattle.rg_resmatch.specs.Compiled.{LevelForm, MapForm}
use Rattle.rg_resmatch.specs.Matching.{Matching}
use Rattle.rg_resmatch.specs.Rules.{all_levels_fit, is_some_resource, levels_fit, named_levels}
use Rattle.rg_resmatch.specs.Tests.{any_stands, is_hit, is_open, is_some_element, levels_of, lies, may_name, meets, names_level, value_at}

-- one level

abbrev form_at : Option Level → PolicyResource → LevelForm
form_at o r = record {
  name = r.level;
  patterns = patterns_at o r;
  excludes = is_known o && r.excludes;
  fold = folds o;
  alone = is_open r;
}

none_stands : (recursive : Bool) → false ≡ (recursive && false)
none_stands true = refl
none_stands false = refl

one_alone : (p ps : Bool) → (p || (ps || false)) ≡ (p || ps || false)
one_alone true ps = refl
one_alone false ps = refl

one_with_twin : (p q ps qs : Bool) → (p || (q || (ps || qs))) ≡ (p || ps || (q || qs))
one_with_twin true q ps qs = refl
one_with_twin false true true qs = refl
one_with_twin false true false qs = refl
one_with_twin false false ps qs = refl

-- a value and then its twin, or all values and then all twins
values_same : (fold : Bool) (user v : List ℕ) (wild recursive : Bool) (values : List (List ℕ)) → any_stands fold user v (value_patterns wild recursive values)
    ≡ (any_stands fold user v (map (atoms_of wild) values) || (recursive && any_stands fold user v (map twin (map (atoms_of wild) values))))
values_same fold user v wild recursive [] = none_stands recursive
values_same fold user v wild true (t ∷ values) =
    let p = stands fold user (atoms_of wild t) v in
    let q = stands fold user (twin (atoms_of wild t)) v in
    ap (λ b. p || (q || b)) (values_same fold user v wild true values) ∙ one_with_twin p q _ _
values_same fold user v wild false (t ∷ values) =
    let p = stands fold user (atoms_of wild t) v in
    ap (λ b. p || b) (values_same fold user v wild false values) ∙ one_alone p _

hit_same : (o : Option Level) (r : PolicyResource) (user v : List ℕ) → form_hit (form_at o r) user v ≡ is_hit o r user v
hit_same None r user v = refl
hit_same (Some l) r user v = ap (λ (b : Bool). if r.excludes then not b else b) (values_same l.fold user v l.wild r.recursive r.values.items)

meets_same : (def : ServiceDef) (user : List ℕ) (r : PolicyResource) (o : Option (List ℕ)) → form_meets user (level_form def r) o ≡ meets def user r o
meets_same def user r None = refl
meets_same def user r (Some v) = hit_same (level_of def r.level) r user v

all_meet : (def : ServiceDef) (user : List ℕ) (elements : List Element) (resources : List PolicyResource)
    → list_all (λ (l : LevelForm). form_meets user l (value_at elements l.name)) (map (level_form def) resources) ≡ list_all (λ (r : PolicyResource). meets def user r (value_at elements r.level)) resources
all_meet def user elements resources =
    list_all-map (λ (l : LevelForm). form_meets user l (value_at elements l.name)) (level_form def) resources
    ∙ list_all_agree (λ (r : PolicyResource). form_meets user (level_form def r) (value_at elements r.level)) (λ (r : PolicyResource). meets def user r (value_at elements r.level)) (λ r. meets_same def user r (value_at elements r.level)) resources

-- the reach is exact

names_same : (def : ServiceDef) (resources : List PolicyResource) (name : List ℕ) → names_form (map (level_form def) resources) name ≡ names_level resources name
names_same def resources name = list_any-map (λ (f : LevelForm). bytes_eq f.name name) (level_form def) resources

all_named : (def : ServiceDef) (resources : List PolicyResource) (elements : List Element)
    → list_all (λ (e : Element). names_form (map (level_form def) resources) e.level) elements ≡ list_all (may_name Exact resources) elements
all_named def resources elements = list_all_agree (λ (e : Element). names_form (map (level_form def) resources) e.level) (may_name Exact resources) (λ e. names_same def resources e.level) elements

-- levels that the resources name too lie on the path of these
path_of_named : (levels : List Level) (resources : List PolicyResource) (elements : List Element) → on_one_path levels (named_levels resources) ≡ true
    → list_all (may_name Exact resources) elements ≡ true → on_one_path levels (levels_of resources elements) ≡ true
path_of_named levels resources elements one named =
    let p = any_holds (λ path. list_all (lies_on levels path) (named_levels resources)) (paths_of levels) one in
    let each = all_holds (lies_on levels p.0) (named_levels resources) p.2 in
    let their = all_holds (λ (r : PolicyResource). lies_on levels p.0 r.level) resources (sym (list_all-map (lies_on levels p.0) (λ (r : PolicyResource). r.level) resources) ∙ p.2) in
    let others : list_all (λ (e : Element). lies_on levels p.0 e.level) elements ≡ true = all_from (λ (e : Element). lies_on levels p.0 e.level) elements (λ e within.
    let r = any_holds (λ (r : PolicyResource). bytes_eq r.level e.level) resources (all_holds (may_name Exact resources) elements named e within) in
    ap (lies_on levels p.0) (sym ((bytes_eq-Decides r.0.level e.level).0 r.2)) ∙ their r.0 r.1) in
    any_from (λ path. list_all (lies_on levels path) (levels_of resources elements)) (paths_of levels) p.0 p.1
    (list_all-append (lies_on levels p.0) (named_levels resources) (map (λ (e : Element). e.level) elements)
    ∙ and_from (list_all (lies_on levels p.0) (named_levels resources)) (list_all (lies_on levels p.0) (map (λ (e : Element). e.level) elements)) p.2 (list_all-map (lies_on levels p.0) (λ (e : Element). e.level) elements ∙ others))

absorbed : (a b c d : Bool) → (d ≡ true → b ≡ true) → (a && (c && d)) ≡ (a && (b && (c && d)))
absorbed false b c d h = refl
absorbed true false false d h = refl
absorbed true false true false h = refl
absorbed true false true true h = absurd (false≢true (h refl))
absorbed true true c d h = refl

-- the reach is down

among_more : (name : List ℕ) (o : Option Level) (names : List (List ℕ)) → is_among name (cons_option (option_map (λ (l : Level). l.name) o) names) ≡ (unwrap_or (option_map (λ (l : Level). bytes_eq l.name name) o) false || is_among name names)
among_more name None names = refl
among_more name (Some l) names = refl

among_path : (levels : List Level) (name : List ℕ) (path : List ℕ) → is_among name (path_names levels path) ≡ lies_on levels path name
among_path levels name [] = refl
among_path levels name (place ∷ path) =
    among_more name (slice_get levels place) (path_names levels path)
    ∙ ap (λ (b : Bool). has_name levels name place || b) (among_path levels name path)

kept : {X : Type 0} (q : X → Bool) (b : Bool) (x : X) (xs : List X) → list_any q (if b then x ∷ xs else xs) ≡ (b && q x || list_any q xs)
kept q true x xs = refl
kept q false x xs = refl

all_among : (levels : List Level) (path : List ℕ) (elements : List Element)
    → list_all (λ (e : Element). is_among e.level (path_names levels path)) elements ≡ list_all (lies_on levels path) (map (λ (e : Element). e.level) elements)
all_among levels path elements =
    list_all_agree (λ (e : Element). is_among e.level (path_names levels path)) (λ (e : Element). lies_on levels path e.level) (λ e. among_path levels e.level path) elements
    ∙ sym (list_all-map (lies_on levels path) (λ (e : Element). e.level) elements)

-- the kept paths are those on which the request may lie
reached : (levels : List Level) (resources : List PolicyResource) (elements : List Element) (paths : List (List ℕ))
    → in_reach [] elements (Some (named_paths levels resources (map listed paths))) ≡ list_any (λ path. list_all (lies_on levels path) (levels_of resources elements)) paths
reached levels resources elements [] = refl
reached levels resources elements (path ∷ paths) =
    let q = λ (names : Listed (List ℕ)). list_all (λ (e : Element). is_among e.level names.items) elements in
    let theirs = list_all (lies_on levels path) (named_levels resources) in
    let rest = list_any q (named_paths levels resources (map listed paths)) in
    kept q theirs (listed (path_names levels path)) (named_paths levels resources (map listed paths))
    ∙ ap (λ (b : Bool). theirs && b || rest) (all_among levels path elements)
    ∙ ap (λ (b : Bool). b || rest) (sym (list_all-append (lies_on levels path) (named_levels resources) (map (λ (e : Element). e.level) elements)))
    ∙ ap (λ (b : Bool). list_all (lies_on levels path) (levels_of resources elements) || b) (reached levels resources elements paths)

passed_over : (resources : List PolicyResource) (elements : List Element) → list_all (may_name Down resources) elements ≡ true
passed_over resources [] = refl
passed_over resources (e ∷ elements) = passed_over resources elements

swapped : (a b c d : Bool) → d ≡ true → (a && (c && b)) ≡ (a && (b && (c && d)))
swapped false b c d h = refl
swapped true false false d h = refl
swapped true false true d h = refl
swapped true true false d h = refl
swapped true true true d h = sym h

-- the levels of the resources lie on one path
pub one_path : (def : ServiceDef) (mandatory : Bool) (resources : List PolicyResource) → levels_fit def mandatory resources ≡ true → on_one_path def.levels.items (named_levels resources) ≡ true
one_path def mandatory resources h =
    let some = is_some_resource resources in
    let apart = all_distinct (λ (r s : PolicyResource). bytes_eq s.level r.level) resources in
    let known = list_all (λ (r : PolicyResource). has_level def.levels.items r.level) resources in
    let one = on_one_path def.levels.items (named_levels resources) in
    let named = not mandatory || mandatory_named def.levels.items (named_levels resources) in
    (and_parts one named (and_parts known (one && named) (and_parts apart (known && (one && named)) (and_parts some (apart && (known && (one && named))) h).1).1).1).0

pub same_answer : (def : ServiceDef) (resources : Listed PolicyResource) (reach : Reach) → levels_fit def false resources.items ≡ true
    → (elements : List Element) (user : List ℕ) → form_lies (map_form def reach resources) elements user ≡ lies def resources.items reach elements user
same_answer def resources Exact fit elements user =
    let given = resources.items in
    let some = is_some_element elements in
    let meet = list_all (λ (r : PolicyResource). meets def user r (value_at elements r.level)) given in
    let named = list_all (may_name Exact given) elements in
    ap (λ (b : Bool). some && (b && in_reach (map (level_form def) given) elements None)) (all_meet def user elements given)
    ∙ ap (λ (b : Bool). some && (meet && b)) (all_named def given elements)
    ∙ absorbed some (on_one_path def.levels.items (levels_of given elements)) meet named (path_of_named def.levels.items given elements (one_path def false given fit))
same_answer def resources Down fit elements user =
    let given = resources.items in
    let some = is_some_element elements in
    let meet = list_all (λ (r : PolicyResource). meets def user r (value_at elements r.level)) given in
    let paths = named_paths def.levels.items given (map listed (paths_of def.levels.items)) in
    ap (λ (b : Bool). some && (b && in_reach (map (level_form def) given) elements (Some paths))) (all_meet def user elements given)
    ∙ ap (λ (b : Bool). some && (meet && b)) (reached def.levels.items given elements (paths_of def.levels.items))
    ∙ swapped some (on_one_path def.levels.items (levels_of given elements)) meet (list_all (may_name Down given) elements) (passed_over given elements)

-- all maps

all_answer : (def : ServiceDef) (reach : Reach) (maps : List ResourceMap) → all_levels_fit def false maps ≡ true → Answers (map_forms def reach maps) def reach
all_answer def reach [] fit elements user = refl
all_answer def reach (m ∷ maps) fit elements user =
    let parts = and_parts (levels_fit def false m.levels.items) (all_levels_fit def false maps) fit in
    ap (λ (b : Bool). b || some_form_lies (map_forms def reach maps) elements user) (same_answer def m.levels reach parts.0 elements user)
    ∙ ap (λ (b : Bool). lies def m.levels.items reach elements user || b) (all_answer def reach maps parts.1 elements user)

all_written : (def : ServiceDef) (reach : Reach) (maps : List ResourceMap) → written_maps (map_forms def reach maps) ≡ maps
all_written def reach [] = refl
all_written def reach (m ∷ maps) = ap (λ (ms : List ResourceMap). m ∷ ms) (all_written def reach maps)

abbrev pub matching : ServiceDef → List ResourceMap → Reach → Matching
matching def maps reach = record { def = def; maps = maps; reach = reach }

module _ (def : ServiceDef) (reach : Reach) (maps : List ResourceMap) (forms : List MapForm) (made : forms ≡ map_forms def reach maps) where
  pub answers : all_levels_fit def false maps ≡ true → Answers forms def reach
  answers fit = subst (λ (fs : List MapForm). Answers fs def reach) (sym made) (all_answer def reach maps fit)

  pub seen : matching def (written_maps forms) reach ≡ matching def maps reach
  seen = ap (λ (ms : List ResourceMap). matching def ms reach) (ap written_maps made ∙ all_written def reach maps)
