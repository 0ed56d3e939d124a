-- What a valid state says of the definitions of its services.
use Rattle.std.proofs.Common.{◌≡◌, ◌⊎◌, ℕ, Bool, true, false, not, cond, List, [], ◌∷◌, Option, Some, None, Contains, refl, sym, ap, ◌∙◌, inl, inr}
use Rattle.std.specs.List.{find, list_any, list_all}
use Rattle.std.specs.Option.{is_none, is_some, option_and_then}
use Rattle.std.specs.Str.{bytes_eq}
use Rattle.std.proofs.lemmas.Bool.{and_parts, false≢true}
use Rattle.std.proofs.lemmas.Option.{none-some}
use Rattle.std.proofs.lemmas.Slice.Eq.{bytes_eq-Decides}
use Rattle.rg_base.proofs.Lists.{Contains-cases, Contains-none, all_holds, any_from, find_contained}
use Rattle.rg_base.specs.Texts.{all_distinct}
use Rattle.rg_defs.specs.Rules.{def_fault}
use Rattle.rg_defs.specs.declared.service_def.ServiceDef.{ServiceDef}
use Rattle.rg_cmd.specs.Lookups.{def_at, def_of, is_def, is_service, service_at}
use Rattle.rg_cmd.specs.declared.state.ServiceRow.{ServiceRow}
use Rattle.rg_cmd.specs.declared.state.State.{State}
use Rattle.rg_validate.proofs.ListTests.{found-some}
use Rattle.rg_validate.specs.Definitions.{tag_service_fits}
use Rattle.rg_validate.specs.Valid.{IsValid, definition_valid, service_valid}

pub none_of : {X : Type 0} (o : Option X) → is_none o ≡ true → o ≡ None
none_of None h = refl
none_of (Some x) h = absurd (false≢true h)

some_of : {X : Type 0} (o : Option X) → is_some o ≡ true → (x : X) × (o ≡ Some x)
some_of None h = absurd (false≢true h)
some_of (Some x) h = (x, refl)

-- of things with distinct names each is the first of its name
pub found_itself : {X : Type 0} (named : X → List ℕ) (xs : List X) (x : X) → all_distinct (λ a b. bytes_eq (named b) (named a)) xs ≡ true
    → Contains xs x → find (λ y. bytes_eq (named y) (named x)) xs ≡ Some x
found_itself named [] x distinct here = absurd (Contains-none x here)
found_itself named (y ∷ ys) x distinct here = at (Contains-cases y ys x here) (found_itself named ys x parts.1)
  where
    parts : (not (list_any (λ z. bytes_eq (named z) (named y)) ys) ≡ true) × (all_distinct (λ a b. bytes_eq (named b) (named a)) ys ≡ true)
    parts = and_parts (not (list_any (λ z. bytes_eq (named z) (named y)) ys)) (all_distinct (λ a b. bytes_eq (named b) (named a)) ys) distinct

    apart : Contains ys x → (b : Bool) → bytes_eq (named y) (named x) ≡ b → (Contains ys x → find (λ z. bytes_eq (named z) (named x)) ys ≡ Some x)
        → cond b (Some y) (find (λ z. bytes_eq (named z) (named x)) ys) ≡ Some x
    apart later false e rest = rest later
    apart later true e rest =
        let same : named x ≡ named y = sym ((bytes_eq-Decides (named y) (named x)).0 e) in
        let twice = any_from (λ z. bytes_eq (named z) (named y)) ys x later ((bytes_eq-Decides (named x) (named y)).1 same) in
        absurd (false≢true (sym (ap not twice) ∙ parts.0))

    at : (y ≡ x) ⊎ Contains ys x → (Contains ys x → find (λ z. bytes_eq (named z) (named x)) ys ≡ Some x)
        → cond (bytes_eq (named y) (named x)) (Some y) (find (λ z. bytes_eq (named z) (named x)) ys) ≡ Some x
    at (inl is) rest =
        ap (λ b. cond b (Some y) (find (λ z. bytes_eq (named z) (named x)) ys)) ((bytes_eq-Decides (named y) (named x)).1 (ap named is)) ∙ ap Some is
    at (inr later) rest = apart later (bytes_eq (named y) (named x)) refl rest

-- the definition of a service that is there is that of its row
pub own_def : (s : State) (row : ServiceRow) → IsValid s → Contains s.services.items row → def_of s row.name ≡ def_at s row.def
own_def s row valid here = ap (option_and_then (λ (r : ServiceRow). def_at s r.def)) (found_itself (λ (r : ServiceRow). r.name) s.services.items row valid.service_names here)

module _ (s : State) (name : List ℕ) where
  -- the definition is that of the service's row
  pub row_of : (def : ServiceDef) → def_of s name ≡ Some def → (row : ServiceRow) × (service_at s name ≡ Some row) × (def_at s row.def ≡ Some def)
  row_of def h = go (service_at s name) refl h where
    go : (o : Option ServiceRow) → service_at s name ≡ o → option_and_then (λ (row : ServiceRow). def_at s row.def) o ≡ Some def
        → (row : ServiceRow) × (service_at s name ≡ Some row) × (def_at s row.def ≡ Some def)
    go None is at = absurd (none-some def at)
    go (Some row) is at = (row, is, at)

  -- there is a service of this name
  pub there_with_def : (def : ServiceDef) → def_of s name ≡ Some def → list_any (is_service name) s.services.items ≡ true
  there_with_def def h = sym (found-some (is_service name) s.services.items) ∙ ap is_some (row_of def h).1

  module _ (valid : IsValid s) where
    -- the service of a valid state has a definition
    pub def_there : list_any (is_service name) s.services.items ≡ true → (def : ServiceDef) × (def_of s name ≡ Some def)
    def_there h =
        let r = some_of (service_at s name) (found-some (is_service name) s.services.items ∙ h) in
        let fits = all_holds (service_valid s) s.services.items valid.services r.0 (find_contained (is_service name) s.services.items r.0 r.1).0 in
        let known = and_parts (list_any (is_def r.0.def) s.defs.items) (tag_service_fits s r.0) fits in
        let d = some_of (def_at s r.0.def) (found-some (is_def r.0.def) s.defs.items ∙ known.0) in
        (d.0, ap (option_and_then (λ (row : ServiceRow). def_at s row.def)) r.1 ∙ d.1)

    -- where it has none, there is no such service
    pub none_without_def : def_of s name ≡ None → list_any (is_service name) s.services.items ≡ false
    none_without_def h = go (list_any (is_service name) s.services.items) refl where
      go : (b : Bool) → list_any (is_service name) s.services.items ≡ b → list_any (is_service name) s.services.items ≡ false
      go true is = let d = def_there is in absurd (none-some d.0 (sym h ∙ d.1))
      go false is = is
