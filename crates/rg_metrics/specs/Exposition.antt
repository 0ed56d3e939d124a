-- Metrics in the text form of Prometheus (exposition format 0.0.4).
use Rattle.std.specs.Prelude.{ℕ, List, [], ◌++◌, codes, decimal, flat_map, option_map, Option, Some, None}
use Rattle.rg_metrics.specs.declared.family.Kind.{Kind}
use Rattle.rg_metrics.specs.declared.family.Kind.TheVariants as kind
use Rattle.rg_metrics.specs.declared.family.Family.{Family}
use Rattle.rg_metrics.specs.declared.family.Sample.{Sample}

unfoldable pub kind_word : Kind → List ℕ
kind_word kind.Counter = codes "counter"
kind_word kind.Gauge = codes "gauge"

-- the label with its value in braces, where there is one
abbrev pub label_text : List ℕ → Option (List ℕ) → List ℕ
label_text label None = []
label_text label (Some word) = codes "{" ++ (label ++ (codes "=\"" ++ (word ++ codes "\"}")))

-- a line for each value
abbrev pub sample_text : Family → Sample → List ℕ
sample_text f s = f.name.now ++ (label_text f.label.now (option_map (λ w. w.now) s.label) ++ (codes " " ++ (decimal s.value ++ codes "\n")))

abbrev pub type_text : Family → List ℕ
type_text f = codes "# TYPE " ++ (f.name.now ++ (codes " " ++ (kind_word f.kind ++ codes "\n")))

-- a line for its type, and then its values
abbrev pub family_text : Family → List ℕ
family_text f = type_text f ++ flat_map (sample_text f) f.samples.items

abbrev pub families_text : List Family → List ℕ
families_text families = flat_map family_text families
