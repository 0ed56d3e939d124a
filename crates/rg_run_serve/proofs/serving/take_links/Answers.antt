use Rattle.std.proofs.Common.{length, refl}
use Rattle.rg_run_serve.proofs.serving.take_links.Goals as goal

pub returns-in-Ok-totals_of-clause-served : goal.returns-in-Ok-totals_of-clause-served
returns-in-Ok-totals_of-clause-served g c =
    let s = c.in-Ok.served in (
      record { links = s.links; entries = length s.totals.past.history; publications = s.totals.publications; decisions = s.totals.decisions },
      c.in-Ok-totals_of.ensures,
      record {
        given = c.in-Ok.ensures.given;
        all = c.in-Ok.ensures.all;
        past = s.totals.past.history;
        counts = refl;
        legal = c.in-Ok.ensures.legal.1;
        begins = c.in-Ok.ensures.begins;
        list = s.totals.published.list;
        number = c.in-Ok.ensures.number;
        published = c.in-Ok.ensures.published;
        right = c.in-Ok.ensures.right;
        made = c.in-Ok.ensures.made;
        current = c.in-Ok.ensures.current;
        served = c.in-Ok.ensures.served;
        entries = c.in-Ok.ensures.entries;
        few = c.in-Ok.ensures.few;
        faults = c.in-Ok.ensures.faults;
      },
    )
