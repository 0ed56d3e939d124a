use Rattle.std.proofs.Common.{◌≡◌, ℕ, ℤ, List, Contains, length, sym, ap, subst, ◌∙◌}
use Rattle.std.specs.Str.{chars}
use Rattle.rg_resmatch.specs.Tests.{tag_elements}
use Rattle.rg_defs.specs.Rules.{tag_name}
use Rattle.rg_trie.specs.declared.pair.Filed.{Filed}
use Rattle.rg_trie.specs.declared.pair.Pair.{Pair}
use Rattle.rg_index.specs.Candidates.{candidates, ids_of, in_order}
use Rattle.rg_index.specs.Filing.{filed}
use Rattle.rg_index.specs.Kept.{entry_ids}
use Rattle.rg_index.proofs.Found.{as_many, one_element}
use Rattle.rg_index.proofs.Lists.{map_twice}
use Rattle.rg_index.proofs.index.Index.candidates_tag.Goals as goal

pub returns-clause-exact : goal.returns-clause-exact
returns-clause-exact c =
    let self = c.args.self.now in
    let tag = chars c.args.tag.now in
    let name = chars c.tag_name.result.now in
    c.of.ensures ∙ ap entry_ids c.walk.ensures ∙ map_twice (λ (f : Filed). f.id) (λ (p : Pair). p.entry) (in_order (filed self.def self.forms name tag))
    ∙ ap (λ (n : List ℕ). ids_of (in_order (filed self.def self.forms n tag))) c.tag_name.ensures ∙ sym (one_element self.def self.forms (record { level = tag_name; value = tag }))

pub returns-clause-bounded : goal.returns-clause-bounded
returns-clause-bounded c =
    let self = c.args.self.now in
    ap length (returns-clause-exact c) ∙ as_many self.def self.forms c.law_of_forms.ensures.apart (tag_elements (chars c.args.tag.now))

pub returns-clause-all : goal.returns-clause-all
returns-clause-all c = λ form user there lies.
    let self = c.args.self.now in
    let ids : List ℤ = c.of.result in
    let exact : ids ≡ candidates self.def self.forms (tag_elements (chars c.args.tag.now)) = returns-clause-exact c in
    subst (λ (ids : List ℤ). Contains ids form.id) (sym exact) (c.lying_forms_are_candidates.ensures self.def self.forms (tag_elements (chars c.args.tag.now)) form user there lies)
