use Rattle.std.proofs.Common.{ap, sym, ◌∙◌}
use Rattle.rg_cond.specs.Clocks.{clock_of}
use Rattle.rg_cond.specs.Spans.{end_shown}
use Rattle.rg_cond.proofs.Reading.{span_is, fault_is}
use Rattle.rg_cond.proofs.spans.read_span.Goals as goal

pub returns-clause-read : goal.returns-clause-read
returns-clause-read c = rw (span_is c.args.zones.now c.args.text.now _ _ _
    (ap end_shown (sym c.as_str.ensures.spelled) ∙ sym c.read_end.ensures ∙ c.in-Some.is)
    (ap end_shown (sym c.as_str-2.ensures.spelled) ∙ sym c.read_end-2.ensures ∙ c.in-Some-read_end.is)
    (ap (clock_of c.args.zones.now) (sym c.as_str-3.ensures.read) ∙ sym c.named.ensures ∙ c.in-Some-named.is)) c.place.ensures.read

pub returns-clause-sound : goal.returns-clause-sound
returns-clause-sound c = rw (fault_is c.args.zones.now c.args.text.now _ _ _
    (ap end_shown (sym c.as_str.ensures.spelled) ∙ sym c.read_end.ensures ∙ c.in-Some.is)
    (ap end_shown (sym c.as_str-2.ensures.spelled) ∙ sym c.read_end-2.ensures ∙ c.in-Some-read_end.is)
    (ap (clock_of c.args.zones.now) (sym c.as_str-3.ensures.read) ∙ sym c.named.ensures ∙ c.in-Some-named.is)) c.place.ensures.sound

pub returns-clause-refused : goal.returns-clause-refused
returns-clause-refused c = rw (fault_is c.args.zones.now c.args.text.now _ _ _
    (ap end_shown (sym c.as_str.ensures.spelled) ∙ sym c.read_end.ensures ∙ c.in-Some.is)
    (ap end_shown (sym c.as_str-2.ensures.spelled) ∙ sym c.read_end-2.ensures ∙ c.in-Some-read_end.is)
    (ap (clock_of c.args.zones.now) (sym c.as_str-3.ensures.read) ∙ sym c.named.ensures ∙ c.in-Some-named.is)) c.place.ensures.refused
