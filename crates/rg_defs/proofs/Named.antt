-- Lists of names of things.
use Rattle.std.proofs.Common.{◌≡◌, ◌||◌, ℕ, Bool, true, false, cond, not, List, [], ◌∷◌, Some, map, option_map, refl, ap, ◌∙◌}
use Rattle.std.proofs.lemmas.List.Folds.{list_all-append, list_all-map}
use Rattle.std.specs.List.{find, list_all, list_any}
use Rattle.std.specs.Str.{bytes_eq}
use Rattle.rg_base.specs.Listed.{Listed, listed}
use Rattle.rg_base.proofs.Lists.{among_mapped, list_any-map}
use Rattle.rg_defs.specs.declared.service_def.Level.{Level}
use Rattle.rg_defs.specs.PathTests.{is_above, is_settled, lies_on, on_one_path, path_for, paths_of}

pub ruleset named_lists = (list_all-append, list_all-map)

-- over the kept paths it is as over the paths
pub on_paths : (levels same : List Level) (paths : List (Listed ℕ)) (names : List (List ℕ)) → same ≡ levels → paths ≡ map listed (paths_of levels)
    → list_any (λ (p : Listed ℕ). list_all (lies_on same p.items) names) paths ≡ on_one_path levels names
on_paths levels same paths names e k =
    ap (λ ls. list_any (λ (p : Listed ℕ). list_all (lies_on ls p.items) names) paths) e
    ∙ ap (list_any (λ (p : Listed ℕ). list_all (lies_on levels p.items) names)) k
    ∙ list_any-map (λ (p : Listed ℕ). list_all (lies_on levels p.items) names) listed (paths_of levels)

listed_found : (test : List ℕ → Bool) (paths : List (List ℕ)) → option_map (λ (p : Listed ℕ). p.items) (find (λ (p : Listed ℕ). test p.items) (map listed paths)) ≡ find test paths
listed_found test [] = refl
listed_found test (path ∷ paths) = elim (test path) as (λ b. option_map (λ (p : Listed ℕ). p.items) (cond b (Some (listed path)) (find (λ (p : Listed ℕ). test p.items) (map listed paths))) ≡ cond b (Some path) (find test paths)) [
  | true ↦ refl
  | false ↦ listed_found test paths
]

pub found_path : (levels same : List Level) (paths : List (Listed ℕ)) (names : List (List ℕ)) → same ≡ levels → paths ≡ map listed (paths_of levels)
    → option_map (λ (p : Listed ℕ). p.items) (find (λ (p : Listed ℕ). list_all (lies_on same p.items) names) paths) ≡ path_for levels names
found_path levels same paths names e k =
    ap (λ ls. option_map (λ (p : Listed ℕ). p.items) (find (λ (p : Listed ℕ). list_all (lies_on ls p.items) names) paths)) e
    ∙ ap (λ ps. option_map (λ (p : Listed ℕ). p.items) (find (λ (p : Listed ℕ). list_all (lies_on levels p.items) names) ps)) k
    ∙ listed_found (λ path. list_all (lies_on levels path) names) (paths_of levels)

pub settled : {X : Type 0} (named : X → List ℕ) (levels : List Level) (things : List X) (name : List ℕ)
    → is_settled levels (map named things) name
    ≡ (list_any (λ x. bytes_eq (named x) name) things || not (list_any (λ x. is_above levels name (named x)) things))
settled named levels things name =
    ap (λ b. b || not (list_any (is_above levels name) (map named things))) (among_mapped named name things)
    ∙ ap (λ b. list_any (λ x. bytes_eq (named x) name) things || not b) (list_any-map (is_above levels name) named things)
