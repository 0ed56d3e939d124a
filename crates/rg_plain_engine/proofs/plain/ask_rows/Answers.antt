use Rattle.std.proofs.Common.{◌≡◌, ◌∷◌, List, Some, map, true, ap, sym, ◌∙◌, rules}
use Rattle.std.specs.List.{flat_map}
use Rattle.rg_policy.specs.declared.tags.Tag.{Tag}
use Rattle.rg_tags.specs.declared.row.TagRow.{TagRow}
use Rattle.rg_facts.specs.Best.{after}
use Rattle.rg_facts.specs.Candidates.{Candidate, Setting, row_lies, tags_in}
use Rattle.rg_facts.specs.Engines.{asked_for, row_matching}
use Rattle.rg_facts.specs.declared.best.Pass.TheVariants.{All}
use Rattle.rg_plain_engine.proofs.Listing.{first_matcher, later_matchers, row_next}
use Rattle.rg_plain_engine.proofs.plain.ask_rows.Goals as goal

pub rows-preserved-then-row_lies : goal.rows-preserved-then-row_lies
rows-preserved-then-row_lies c =
    let facts = c.args.facts.now in
    let s = c.args.setting.now in
    let row = c.in-Some-Some.row.now in
    let later = c.in-Some-Some.later.now in
    let made : Tag → List Candidate = λ tag. asked_for (Some tag) c.args.evaluators.now in
    let listed : c.rows.rows.now ≡ row ∷ later = search rules in
    let matched : c.rows.matchers.now ≡ c.in-Some-Some.matcher.now ∷ c.in-Some-Some.more.now = search rules in
    let matchers = sym matched ∙ c.rows.invariant.matchers ∙ ap (map (row_matching facts.def)) listed in
    let lies : row_lies facts s.request row ≡ true =
    sym (ap (λ (x : Setting). row_lies facts x.request row) c.setting.view_is)
    ∙ sym (c.row_lies.ensures facts (first_matcher facts.def _ _ row later matchers)) ∙ c.if-row_lies.true in
    record {
      same = ap (after All s (flat_map made (tags_in facts s.request later))) (c.ask_tags-best.ensures ∙ ap (λ (tags : List Tag). after All s (flat_map made tags) c.rows.best) c.as_slice.ensures)
          ∙ row_next facts s.request made row later All s c.rows.best lies
          ∙ ap (λ (rows : List TagRow). after All s (flat_map made (tags_in facts s.request rows)) c.rows.best) (sym listed)
          ∙ c.rows.invariant.same;
      matchers = later_matchers facts.def _ _ row later matchers;
    }
