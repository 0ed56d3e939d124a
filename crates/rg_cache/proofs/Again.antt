-- What is kept of facts is read again.
use Rattle.std.proofs.Common.{◌≡◌, true, cond, Ok, Err, ap, ◌∙◌}
use Rattle.rg_facts.specs.declared.facts.Facts.{Facts}
use Rattle.rg_facts.specs.Sound.{sound}
use Rattle.rg_json.specs.Reading.{reading}
use Rattle.rg_wire.specs.Records.{facts_of}
use Rattle.rg_wire.specs.Shapes.{facts_shape}
use Rattle.rg_download_wire.specs.PrintedFacts.{facts_text}
use Rattle.rg_cache.specs.Kept.{kept_in, kept_text, of_line, read_line}
use Rattle.rg_cache.specs.declared.fault.KeptFault.TheVariants.{Unsound}
use Rattle.rg_cache.proofs.Lines.{line_ends}

pub kept_again : (f : Facts) → reading facts_shape facts_of (facts_text f) ≡ Ok f → sound f ≡ true → kept_in (kept_text f) ≡ Ok f
unfolding kept_in
kept_again f again whole = ap of_line (line_ends (facts_text f)) ∙ ap read_line again ∙ ap (λ b. cond b (Ok f) (Err Unsound)) whole
