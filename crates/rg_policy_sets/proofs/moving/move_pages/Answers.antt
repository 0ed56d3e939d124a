use Rattle.std.proofs.Common.{◌<◌, ◌+◌, drop, length, sym, rules, arith}
use Rattle.rg_base.proofs.Lists.{left_passes}
use Rattle.rg_index.specs.Filing.{pairs}
use Rattle.rg_policy_sets.specs.Kept.{Placed, all_in, is_filled, slot_forms}
use Rattle.rg_policy_sets.specs.Moved.{is_compiled}
use Rattle.rg_policy_sets.proofs.Moves.{left_amid, left_edits, left_fit, left_pages, left_sum, page_filed, page_moved, pages_filed, pages_moved}
use Rattle.rg_policy_sets.proofs.Reshelved.{work_done, work_first, work_on}
use Rattle.rg_policy_sets.proofs.moving.move_pages.Goals as goal

pub loop-at-init : goal.loop-at-init
loop-at-init g c = record {
  slots = search rules;
  def = sym c.requires.same;
  forms = search (rules, c.requires.forms);
  filled = c.requires.filled;
  fit = c.requires.fit;
  steps = work_first _ _ _;
}

pub move_page-requires-clause-filled : goal.move_page-requires-clause-filled
move_page-requires-clause-filled g c = (left_passes is_filled c.loop-at.at c.args.pages.now c.index-pages-at.result (omega arith) c.index-pages-at.is c.loop-at.invariant.filled).0

pub move_page-requires-clause-amid : goal.move_page-requires-clause-amid
move_page-requires-clause-amid g c =
    let form = g.H.Fileable.form_of in
    let pages = c.args.pages.now in
    let n = c.loop-at.at in
    let page = c.index-pages-at.result in
    let left = left_pages form c.args.places.now pages n page (omega arith) c.index-pages-at.is in
    record {
      before = slot_forms form c.loop-at.moving.slots;
      after = slot_forms form (all_in (drop (n + 1) pages));
      is = left_amid form c.args.places.now (all_in (drop n pages)) page (all_in (drop (n + 1) pages)) left (slot_forms form c.loop-at.moving.slots) c.loop-at.moving.index.forms c.loop-at.invariant.forms;
    }

pub move_page-requires-clause-fit : goal.move_page-requires-clause-fit
move_page-requires-clause-fit g c =
    let form = g.H.Fileable.form_of in
    let pages = c.args.pages.now in
    let n = c.loop-at.at in
    let page = c.index-pages-at.result in
    let left = left_pages form c.args.places.now pages n page (omega arith) c.index-pages-at.is in
    (left_fit form c.args.places.now (all_in (drop n pages)) page (all_in (drop (n + 1) pages)) left
    (is_compiled (g.C.Compile.passes c.args.compiler.now) c.args.def.now form (g.C.Compile.hold c.args.compiler.now)) c.loop-at.invariant.fit).0

pub returns-in_err-move_page-clause-steps : goal.returns-in_err-move_page-clause-steps
returns-in_err-move_page-clause-steps g c =
    let hold = g.C.Compile.hold c.args.compiler.now in
    let form = g.H.Fileable.form_of in
    let pages = c.args.pages.now in
    let n = c.loop-at.at in
    let page = c.index-pages-at.result in
    let rest = all_in (drop (n + 1) pages) in
    let left = left_pages form c.args.places.now pages n page (omega arith) c.index-pages-at.is in
    work_done _ _ _ _ _ _ (work_on _ _ _ _ _ _ _ _ _ c.loop-at.invariant.steps c.move_page.ensures.steps _ _
    (left_sum form c.args.places.now (all_in (drop n pages)) page rest left (λ (x : g.row.X.Denot). g.C.Compile.cost))
    (left_edits form c.args.places.now (all_in (drop n pages)) page rest left (λ (t : Placed g.row.H.Denot). pairs c.args.def.now (form t.held)) (λ (x : g.row.X.Denot). pairs c.args.def.now (form (hold x)))))

pub loop-at-preserved : goal.loop-at-preserved
loop-at-preserved g c =
    let hold = g.C.Compile.hold c.args.compiler.now in
    let form = g.H.Fileable.form_of in
    let said = c.args.places.now in
    let pages = c.args.pages.now in
    let n = c.loop-at.at in
    let page = c.index-pages-at.result in
    let within : n < length pages = omega arith in
    let rest = all_in (drop (n + 1) pages) in
    let left = left_pages form said pages n page within c.index-pages-at.is in
    let ms = c.loop-at.moving.slots in
    let new = c.move_page.new.moving.slots in
    record {
      slots = page_moved form said pages n page within c.index-pages-at.is hold ms new c.loop-at.invariant.slots c.in_ok-move_page.ensures.slots;
      def = c.in_ok-move_page.ensures.def;
      forms = page_filed form said pages n page within c.index-pages-at.is hold ms new c.move_page.new.moving.index.forms c.in_ok-move_page.ensures.slots
          (c.in_ok-move_page.ensures.forms (slot_forms form ms) (slot_forms form rest)
          (left_amid form said (all_in (drop n pages)) page rest left (slot_forms form ms) c.loop-at.moving.index.forms c.loop-at.invariant.forms));
      filled = (left_passes is_filled n pages page within c.index-pages-at.is c.loop-at.invariant.filled).1;
      fit = (left_fit form said (all_in (drop n pages)) page rest left (is_compiled (g.C.Compile.passes c.args.compiler.now) c.args.def.now form hold) c.loop-at.invariant.fit).1;
      steps = work_on _ _ _ _ _ _ _ _ _ c.loop-at.invariant.steps c.move_page.ensures.steps _ _
          (left_sum form said (all_in (drop n pages)) page rest left (λ (x : g.row.X.Denot). g.C.Compile.cost))
          (left_edits form said (all_in (drop n pages)) page rest left (λ (t : Placed g.row.H.Denot). pairs c.args.def.now (form t.held)) (λ (x : g.row.X.Denot). pairs c.args.def.now (form (hold x))));
    }

pub returns-clause-slots : goal.returns-clause-slots
returns-clause-slots g c = pages_moved g.H.Fileable.form_of c.args.places.now c.args.pages.now c.loop-at.at (omega arith) (g.C.Compile.hold c.args.compiler.now) c.loop-at.moving.slots c.loop-at.invariant.slots

pub returns-clause-forms : goal.returns-clause-forms
returns-clause-forms g c = pages_filed g.H.Fileable.form_of c.args.places.now c.args.pages.now c.loop-at.at (omega arith) c.loop-at.moving.slots c.loop-at.moving.index.forms c.loop-at.invariant.forms

pub returns-clause-steps : goal.returns-clause-steps
returns-clause-steps g c = work_done _ _ _ _ _ _ c.loop-at.invariant.steps
