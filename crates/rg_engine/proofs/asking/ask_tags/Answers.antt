use Rattle.std.proofs.Common.{◌≡◌, ◌+◌, ◌∷◌, List, sym, ap, subst, ◌∙◌, arith, rules}
use Rattle.std.proofs.lemmas.List.Sums.{sum_by-cons}
use Rattle.std.specs.List.{sum_by}
use Rattle.rg_policy.specs.declared.tags.Tag.{Tag}
use Rattle.rg_engine.specs.Asked.{Finds, all_tagged, tag_tries}
use Rattle.rg_engine.proofs.Found.{finds_next}
use Rattle.rg_engine.proofs.asking.ask_tags.Goals as goal

pub tags-preserved : goal.tags-preserved
tags-preserved g c =
    let s = c.args.setting.now in
    let set = c.args.policies.now in
    let tag = c.in-Some.tag.now in
    let later = c.in-Some.later.now in
    let listed : c.tags.tags.now ≡ tag ∷ later = search rules in
    let sum : sum_by (tag_tries set) c.tags.tags.now ≡ tag_tries set tag + sum_by (tag_tries set) later = ap (sum_by (tag_tries set)) listed ∙ sum_by-cons (tag_tries set) tag later in
    let so_far = c.tags.invariant.tries in
    let more = c.ask_tag-best.ensures.tries.tries in
    record {
      found = λ b rest. c.tags.invariant.found b (subst (λ (ts : List Tag). Finds s (all_tagged set ts) c.tags.best b) (sym listed)
          (finds_next s set tag later c.tags.best c.ask_tag-best.result b c.ask_tag-best.ensures.best rest));
      tries = omega (arith, sum, so_far, more);
      compiles = c.ask_tag-best.ensures.tries.compiles ∙ c.tags.invariant.compiles;
      edits = c.ask_tag-best.ensures.tries.edits ∙ c.tags.invariant.edits;
    }
