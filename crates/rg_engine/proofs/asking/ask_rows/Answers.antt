use Rattle.std.proofs.Common.{◌≡◌, ◌+◌, ◌∷◌, [], List, true, length, sym, ap, subst, ◌∙◌, arith, rules}
use Rattle.std.proofs.lemmas.List.Sums.{sum_by-append}
use Rattle.std.specs.List.{sum_by}
use Rattle.rg_policy.specs.declared.tags.Tag.{Tag}
use Rattle.rg_resmatch.specs.Tests.{lies}
use Rattle.rg_resmatch.specs.declared.reach.Reach.TheVariants.{Down}
use Rattle.rg_policy_sets.specs.Seen.{RowSource}
use Rattle.rg_engine.specs.Asked.{Finds, all_tagged, reaching_tags, tag_tries}
use Rattle.rg_engine.proofs.Found.{finds_row, next_tags}
use Rattle.rg_engine.proofs.asking.ask_rows.Goals as goal

pub rows-preserved-then-reaches : goal.rows-preserved-then-reaches
rows-preserved-then-reaches g c =
    let s = c.args.setting.now in
    let set = c.args.policies.now in
    let elements = s.request.resource.elements.items in
    let row : RowSource = c.in-Some.row in
    let later : List RowSource = c.next.new.self in
    let f = tag_tries set in
    let listed : c.rows.rows ≡ row ∷ later = search rules in
    let reached : lies row.def row.row.resources.items Down elements [] ≡ true = sym c.reaches.ensures.answer ∙ c.if-reaches.true in
    let tags : c.as_slice.result.now ≡ row.row.tags.items = c.as_slice.ensures ∙ ap (λ r. r.tags.items) c.row.ensures in
    let asked : Finds s (all_tagged set row.row.tags.items) c.rows.best c.ask_tags-best.result = subst (λ (ts : List Tag). Finds s (all_tagged set ts) c.rows.best c.ask_tags-best.result) tags c.ask_tags-best.ensures.best in
    let sum : sum_by f (reaching_tags elements c.rows.rows) ≡ sum_by f c.as_slice.result.now + sum_by f (reaching_tags elements later) =
    ap (λ rs. sum_by f (reaching_tags elements rs)) listed ∙ ap (sum_by f) (next_tags elements row later reached) ∙ sum_by-append f row.row.tags.items (reaching_tags elements later)
    ∙ ap (λ (ts : List Tag). sum_by f ts + sum_by f (reaching_tags elements later)) (sym tags) in
    let count : length c.rows.rows ≡ length (row ∷ later) = ap length listed in
    let so_far = c.rows.invariant.tries in
    let one = c.reaches.ensures.tries.tries in
    let more = c.ask_tags-best.ensures.tries.tries in
    record {
      found = λ b rest. c.rows.invariant.found b (subst (λ (rs : List RowSource). Finds s (all_tagged set (reaching_tags elements rs)) c.rows.best b) (sym listed)
          (finds_row s set elements row later c.rows.best c.ask_tags-best.result b reached asked rest));
      tries = omega (arith, sum, count, so_far, one, more);
      compiles = c.ask_tags-best.ensures.tries.compiles ∙ c.reaches.ensures.tries.compiles ∙ c.rows.invariant.compiles;
      edits = c.ask_tags-best.ensures.tries.edits ∙ c.reaches.ensures.tries.edits ∙ c.rows.invariant.edits;
    }
