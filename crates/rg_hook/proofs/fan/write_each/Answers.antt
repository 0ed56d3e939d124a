use Rattle.std.proofs.Common.{◌≤◌, arith}
use Rattle.std.proofs.lemmas.List.Elements.{All-set}
use Rattle.rg_hook.specs.Sinks.{drop_at}
use Rattle.rg_hook.proofs.Zips.{rest_more, zips_all, zips_more}
use Rattle.rg_hook.proofs.fan.write_each.Goals as goal

pub loop-place-preserved : goal.loop-place-preserved
loop-place-preserved g c =
    let i = c.loop-place in
    record {
      given = zips_more _ c.args.sinks.now i.sinks c.args.failures.now i.failures i.place c.index-sinks-place.result c.write_one.new.sink 0 c.write_one.new.failures (omega arith) (omega arith) i.invariant.sinks i.invariant.failures i.invariant.given c.write_one.ensures.after;
      sinks = rest_more c.args.sinks.now i.sinks i.place c.index-sinks-place.result c.write_one.new.sink (omega arith) i.invariant.sinks;
      failures = rest_more c.args.failures.now i.failures i.place 0 c.write_one.new.failures (omega arith) i.invariant.failures;
      within = All-set (λ n. n ≤ drop_at) i.failures i.place c.write_one.new.failures c.write_one.ensures.within i.invariant.within;
    }

pub returns-clause-after : goal.returns-clause-after
returns-clause-after g c = zips_all _ c.args.sinks.now c.loop-place.sinks c.args.failures.now c.loop-place.failures c.loop-place.place (omega arith) (omega arith) c.loop-place.invariant.given
