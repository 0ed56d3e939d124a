use Rattle.std.proofs.Common.{◌∙◌, ap}
use Rattle.std.specs.Option.{option_map}
use Rattle.std.specs.Str.{chars}
use Rattle.rg_admin.specs.Held.{Planned}
use Rattle.rg_admin.proofs.Serving.{log_found, mapped_twice}
use Rattle.rg_admin.proofs.served.log_at.Goals as goal

pub returns : goal.returns
returns c = mapped_twice (λ l. l.now) (λ (p : Planned). p.log) c.find_named.result ∙ ap (option_map (λ (p : Planned). p.log)) c.find_named.ensures ∙ log_found (chars c.args.service.now) c.args.logs.now
