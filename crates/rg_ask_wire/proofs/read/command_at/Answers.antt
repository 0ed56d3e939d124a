use Rattle.std.proofs.Common.{◌≡◌, ◌≤◌, rules, sym, subst}
use Rattle.serde_json.specs.Data.{Data, null, depth}
use Rattle.serde_json.specs.Read.{max_depth}
use Rattle.serde_json.specs.View.{view}
use Rattle.serde_json.specs.declared.value.Value.{Null, the_lemmas}
use Rattle.rg_ask_wire.specs.Asks.{ask_name}
use Rattle.rg_ask_wire.specs.declared.key.AskKey.TheVariants as own
use Rattle.rg_ask_wire.proofs.Depths.{within_shallow}
use Rattle.rg_ask_wire.proofs.read.command_at.Goals as goal

pub command_in-requires : goal.command_in-requires
command_in-requires c =
    let nothing : view Null ≡ null = search (rules, the_lemmas) in
    subst (λ (d : Data). depth d ≤ max_depth) (sym (c.find_or.ensures nothing)) (within_shallow (ask_name own.Command) (view c.args.value.now) max_depth c.requires)
