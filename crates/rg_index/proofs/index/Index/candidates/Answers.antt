use Rattle.std.proofs.Common.{◌≡◌, ℕ, ℤ, List, [], Some, None, Contains, false, length, unwrap_or, sym, ap, subst, ◌∙◌}
use Rattle.std.specs.Str.{chars}
use Rattle.rg_policy.specs.declared.request.Element.{Element}
use Rattle.rg_resmatch.specs.Tests.{value_at}
use Rattle.rg_trie.specs.declared.pair.Filed.{Filed}
use Rattle.rg_trie.specs.declared.pair.Pair.{Pair}
use Rattle.rg_trie.specs.Pairs.{folded}
use Rattle.rg_trie.specs.Walked.{entries_under}
use Rattle.rg_index.specs.Candidates.{candidates, fewest, filed_for, ids_for, ids_of, in_order}
use Rattle.rg_index.specs.Filing.{filed}
use Rattle.rg_index.specs.Indexed.{Indexed}
use Rattle.rg_index.specs.Kept.{entries_of, entry_ids}
use Rattle.rg_index.proofs.Found.{as_many}
use Rattle.rg_index.proofs.Lists.{map_twice}
use Rattle.rg_index.proofs.index.Index.candidates.Goals as goal

-- what is found at the level of an element
module _ (self : Indexed) (elements : List Element) where
  found : (e : Element) (name value : List ℕ) (entries : List Filed) → entries ≡ entries_of (in_order (filed self.def self.forms name value)) → name ≡ e.level → value ≡ unwrap_or (value_at elements name) []
      → Some e ≡ fewest self.def self.forms elements → entry_ids entries ≡ candidates self.def self.forms elements
  found e name value entries walked named valued chosen =
      let there : filed self.def self.forms name value ≡ filed_for self.def self.forms elements e =
      ap (filed self.def self.forms name) valued ∙ ap (λ (n : List ℕ). filed self.def self.forms n (unwrap_or (value_at elements n) [])) named in
      ap entry_ids walked ∙ map_twice (λ (f : Filed). f.id) (λ (p : Pair). p.entry) (in_order (filed self.def self.forms name value))
      ∙ ap (λ (all : List Pair). ids_of (in_order all)) there ∙ ap (ids_for self.def self.forms elements) chosen

  none_found : (entries : List Filed) → entries ≡ [] → None ≡ fewest self.def self.forms elements → entry_ids entries ≡ candidates self.def self.forms elements
  none_found entries empty none = ap entry_ids empty ∙ ap (ids_for self.def self.forms elements) none

pub returns-in-Some-clause-exact : goal.returns-in-Some-clause-exact
returns-in-Some-clause-exact c =
    let self = c.args.self.now in
    c.of.ensures
    ∙ found self c.as_slice-elements.result.now c.in-Some.element.now (chars c.as_str-name.result.now) (chars c.value_for.result.now) c.walk.result c.walk.ensures c.as_str-name.ensures.read c.value_for.ensures c.in-Some.ensures
    ∙ ap (candidates self.def self.forms) c.as_slice-elements.ensures

pub returns-in-Some-clause-bounded : goal.returns-in-Some-clause-bounded
returns-in-Some-clause-bounded c =
    let self = c.args.self.now in
    ap length (returns-in-Some-clause-exact c) ∙ as_many self.def self.forms c.law_of_forms.ensures.apart c.args.resource.now.elements.items

pub returns-in-Some-clause-all : goal.returns-in-Some-clause-all
returns-in-Some-clause-all c = λ form user there lies.
    let self = c.args.self.now in
    let ids : List ℤ = c.of.result in
    let exact : ids ≡ candidates self.def self.forms c.args.resource.now.elements.items = returns-in-Some-clause-exact c in
    subst (λ (ids : List ℤ). Contains ids form.id) (sym exact) (c.lying_forms_are_candidates.ensures self.def self.forms c.args.resource.now.elements.items form user there lies)

pub returns-in-None-clause-exact : goal.returns-in-None-clause-exact
returns-in-None-clause-exact c =
    let self = c.args.self.now in
    c.of-in-None.ensures
    ∙ none_found self c.as_slice-elements.result.now c.walk-in-None.result (c.walk-in-None.ensures.given ∙ ap (λ (all : List Pair). entries_under (folded false (chars [])) all) c.self.invariant.0) c.in-None.ensures
    ∙ ap (candidates self.def self.forms) c.as_slice-elements.ensures

pub returns-in-None-clause-bounded : goal.returns-in-None-clause-bounded
returns-in-None-clause-bounded c =
    let self = c.args.self.now in
    ap length (returns-in-None-clause-exact c) ∙ as_many self.def self.forms c.law_of_forms.ensures.apart c.args.resource.now.elements.items

pub returns-in-None-clause-all : goal.returns-in-None-clause-all
returns-in-None-clause-all c = λ form user there lies.
    let self = c.args.self.now in
    let ids : List ℤ = c.of-in-None.result in
    let exact : ids ≡ candidates self.def self.forms c.args.resource.now.elements.items = returns-in-None-clause-exact c in
    subst (λ (ids : List ℤ). Contains ids form.id) (sym exact) (c.lying_forms_are_candidates.ensures self.def self.forms c.args.resource.now.elements.items form user there lies)
