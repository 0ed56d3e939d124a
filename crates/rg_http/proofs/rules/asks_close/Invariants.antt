use Rattle.std.proofs.Common.{◌≡◌, map, drop}
use Rattle.httparse.specs.Spans.{header_bytes}
use Rattle.rg_http.specs.Rules.{asks_close}
use Rattle.rg_http.proofs.rules.asks_close.Given as goal

abbrev pub invariant-loop-field : goal.invariant-loop-field
invariant-loop-field l =
    asks_close (map (header_bytes l.window) (drop l.field-index l.fields)) ≡ asks_close (map (header_bytes l.window) l.fields)
