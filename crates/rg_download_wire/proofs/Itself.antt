-- Facts that were printed are read again as themselves, from their text.
use Rattle.std.proofs.Common.{◌≡◌, ◌≤◌, false, Some, Ok, ap, subst, ◌∙◌, arith}
use Rattle.serde_json.specs.Data.{Data, depth}
use Rattle.serde_json.specs.Read.{max_depth}
use Rattle.serde_json.specs.Written.{compact_text, has_float}
use Rattle.rg_facts.specs.declared.facts.Facts.{Facts}
use Rattle.rg_json.specs.Reading.{reading, reading_of, unless_fault}
use Rattle.rg_json.specs.Texts.{data_of}
use Rattle.rg_wire.specs.Records.{facts_of}
use Rattle.rg_wire.specs.Shapes.{facts_shape}
use Rattle.rg_download_wire.specs.InOrder.{AreFacts}
use Rattle.rg_download_wire.specs.PrintedFacts.{facts_data, facts_text}
use Rattle.rg_download_wire.proofs.Again.{facts_again}
use Rattle.rg_download_wire.proofs.Plain.{facts_are_shallow, facts_have_no_float}
use Rattle.rg_download_wire.proofs.Right.{facts_right}

pub printed_again : (f : Facts) (d : Data) → d ≡ facts_data f
    → (has_float d ≡ false → depth d ≤ max_depth → data_of (compact_text d) ≡ Some d)
    → AreFacts f → reading facts_shape facts_of (facts_text f) ≡ Ok f
unfolding facts_text
printed_again f d seen back own =
    let shallow : depth d ≤ max_depth = omega (arith, ap depth seen, facts_are_shallow f) in
    ap (reading_of facts_shape facts_of) (subst (λ x. data_of (compact_text x) ≡ Some x) seen (back (ap has_float seen ∙ facts_have_no_float f) shallow))
    ∙ ap (unless_fault (facts_of (facts_data f))) (facts_right f own)
    ∙ ap Ok (facts_again f own)
