-- For proofs alone: what is seen of an index from what it was made from.
use Rattle.std.specs.Prelude.{option_map}
use Rattle.rg_index.specs.declared.origin.Origin.{Origin}
use Rattle.rg_index.specs.declared.origin.Origin.TheVariants.{Built, Changed}
use Rattle.rg_index.specs.Changes.{changed}
use Rattle.rg_index.specs.Indexed.{Indexed}

-- what was given, or another index after a change
abbrev pub seen_from : Origin → Indexed
seen_from (Built def forms) = record { def = def.now; forms = forms.now }
seen_from (Changed seen old new) = record {
  def = seen.now.value.def;
  forms = changed seen.now.value.forms (option_map (λ f. f.now) old) (option_map (λ f. f.now) new);
}
