use Rattle.std.proofs.Common.{◌≡◌, ◌∙◌, ◌+◌, ℕ, List, Option, length, map, option_map, sym, ap, subst}
use Rattle.std.specs.List.{sum_by}
use Rattle.rg_defs.specs.declared.service_def.ServiceDef.{ServiceDef}
use Rattle.rg_index.specs.declared.form.Form.{Form}
use Rattle.rg_index.specs.Changes.{changed, given_pairs}
use Rattle.rg_index.specs.Filing.{EditsWithin}
use Rattle.rg_index.specs.Indexed.{Indexed}
use Rattle.rg_index.specs.Kept.{IsIndexed, LevelPairs, edited, given_keys}
use Rattle.rg_index.proofs.Filling.{more_allowed}
use Rattle.rg_index.proofs.Indexing.{among_written, edited_within, given_written, is_edited}
use Rattle.rg_index.proofs.index.Index.apply.Goals as goal

abbrev keys_of_both : Option Form → Option Form → LevelPairs → ℕ
keys_of_both old new t = length (given_keys t.level old) + length (given_keys t.level new)

-- the invariant over what the contract names
seen : (def : ServiceDef) (inside self : Indexed) (levels : List LevelPairs) → inside ≡ self → def ≡ self.def → IsIndexed inside.def inside.forms levels → IsIndexed def self.forms levels
seen def inside self levels view same h = subst (λ (d : ServiceDef). IsIndexed d self.forms levels) (sym same) (subst (λ (x : Indexed). IsIndexed x.def x.forms levels) view h)

pub edit_levels-requires-clause-old : goal.edit_levels-requires-clause-old
edit_levels-requires-clause-old g c =
    let self = c.args.self.now in
    let held = seen c.args.def.now _ self c.self.inside.levels.items c.self.view_is c.requires.same c.self.invariant.1 in
    among_written c.args.def.now self.forms held.fit (option_map (λ f. f.now) c.args.old) c.requires.old

pub edit_levels-requires-clause-new : goal.edit_levels-requires-clause-new
edit_levels-requires-clause-new g c = given_written c.args.def.now (option_map (λ f. f.now) c.args.new) c.requires.fit

pub returns-in_err-levels-clause-steps : goal.returns-in_err-levels-clause-steps
returns-in_err-levels-clause-steps g c =
    let def = c.args.def.now in
    let self = c.args.self.now in
    let old = option_map (λ f. f.now) c.args.old in
    let new = option_map (λ f. f.now) c.args.new in
    let levels = c.self.inside.levels.items in
    let held = seen def _ self levels c.self.view_is c.requires.same c.self.invariant.1 in
    more_allowed (sum_by (keys_of_both old new) levels) (given_pairs def old + given_pairs def new) c.args.steps.now c.edit_levels.new.steps (edited_within def held.lawful self.forms levels old new held.levels_hold)
    (subst (λ (ts : List LevelPairs). EditsWithin (sum_by (keys_of_both old new) ts) c.args.steps.now c.edit_levels.new.steps) c.deref.ensures.value c.edit_levels.ensures.steps)

pub returns-clause-steps : goal.returns-clause-steps
returns-clause-steps g c =
    let def = c.args.def.now in
    let self = c.args.self.now in
    let old = option_map (λ f. f.now) c.args.old in
    let new = option_map (λ f. f.now) c.args.new in
    let levels = c.self.inside.levels.items in
    let held = seen def _ self levels c.self.view_is c.requires.same c.self.invariant.1 in
    more_allowed (sum_by (keys_of_both old new) levels) (given_pairs def old + given_pairs def new) c.args.steps.now c.edit_levels.new.steps (edited_within def held.lawful self.forms levels old new held.levels_hold)
    (subst (λ (ts : List LevelPairs). EditsWithin (sum_by (keys_of_both old new) ts) c.args.steps.now c.edit_levels.new.steps) c.deref.ensures.value c.edit_levels.ensures.steps)

pub invariant_of-result : goal.invariant_of-result
invariant_of-result g c =
    let def = c.args.def.now in
    let self = c.args.self.now in
    let old = option_map (λ f. f.now) c.args.old in
    let new = option_map (λ f. f.now) c.args.new in
    let levels = c.self.inside.levels.items in
    let later = c.in_ok-levels.levels.items in
    let held = seen def _ self levels c.self.view_is c.requires.same c.self.invariant.1 in
    let made = is_edited def held.lawful self.forms old new held.apart c.requires.old levels later held.fit c.requires.free c.requires.fit held.levels_hold (c.in_ok-levels.ensures.edited ∙ ap (map (edited old new)) c.deref.ensures.value) in
    let view = c.self.view_is in
    let shown : c.of.result.value ≡ record { def = def; forms = changed self.forms old new } =
    c.of.ensures ∙ (λ i. record { def = (ap (λ (x : Indexed). x.def) view ∙ sym c.requires.same) i; forms = changed (view i).forms old new }) in
    (c.empty.ensures, subst (λ (x : Indexed). IsIndexed x.def x.forms later) (sym shown) made)

pub returns-clause-made : goal.returns-clause-made
returns-clause-made g c =
    let def = c.args.def.now in
    let old = option_map (λ f. f.now) c.args.old in
    let new = option_map (λ f. f.now) c.args.new in
    let view = c.self.view_is in
    c.of.ensures ∙ (λ i. record { def = (ap (λ (x : Indexed). x.def) view ∙ sym c.requires.same) i; forms = changed (view i).forms old new })
