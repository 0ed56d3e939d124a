use Rattle.std.proofs.Common.{◌≡◌, ◌++◌, take, sym, ◌∙◌, arith, rules}
use Rattle.std.proofs.lemmas.Grind.{common_steps}
use Rattle.rg_run_script.proofs.Limits.{line_with, over_line, over_many, within_limits}
use Rattle.rg_run_script.proofs.Streams.{read_more, read_to_end}
use Rattle.rg_run_script.proofs.reading.read_all.Goals as goal

pub returns-then-n-eq0-clause-all : goal.returns-then-n-eq0-clause-all
returns-then-n-eq0-clause-all g c = read_to_end _ _ _ c.reads.invariant.read (c.in-Ok.ensures.used_up c.if-n-eq0.true (search rules))

pub returns-then-n-eq0-clause-short : goal.returns-then-n-eq0-clause-short
returns-then-n-eq0-clause-short g c = within_limits _ _ (search rules) c.reads.invariant.line

pub returns-then-spare-n-clause-long : goal.returns-then-spare-n-clause-long
returns-then-spare-n-clause-long g c = λ _.
    over_many _ _ _ _ _ _ _ c.reads.invariant.read c.in-Ok.ensures.gave (search rules) c.reads.invariant.line (search rules) (search rules) (search rules)

pub returns-in-None-clause-long : goal.returns-in-None-clause-long
returns-in-None-clause-long g c = λ _.
    over_line _ _ _ _ _ _ _ c.reads.invariant.read c.in-Ok.ensures.gave (search rules) c.reads.invariant.line (search rules) (search rules)
    (sym c.after_bytes.ensures.value ∙ c.in-None.is)

pub reads-preserved : goal.reads-preserved
reads-preserved g c =
    let items : c.extend_from_slice.new.self.items ≡ c.reads.bytes.items ++ take c.in-Ok.n c.read.new.room = grind (arith, common_steps) in
    record {
      read = rw items (read_more _ _ _ _ _ _ c.reads.invariant.read c.in-Ok.ensures.gave);
      line = rw items (line_with _ _ _ _ c.reads.invariant.line (sym c.after_bytes.ensures.value ∙ c.in-Some.is));
      bound = search rules;
      within = grind (arith, common_steps);
      kept = c.in-Ok.ensures.kept ∙ c.reads.invariant.kept;
    }
