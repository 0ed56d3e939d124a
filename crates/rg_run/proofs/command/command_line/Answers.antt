use Rattle.std.proofs.Common.{◌≡◌, ◌∙◌, Option, Some, None, IsSomeAnd, ap, ap₂, rules, true}
use Rattle.std.proofs.lemmas.Result.{IfOk-weaker}
use Rattle.clap.specs.Simple.{app_of_fields, on_top}
use Rattle.clap.specs.Lexer.{usize_max}
use Rattle.clap.specs.Words.{Rule, app_of, rule_of, with_rule}
use Rattle.clap.specs.declared.builder.action.ArgAction.TheVariants.{Append}
use Rattle.clap.specs.declared.builder.arg.Arg.{Arg}
use Rattle.clap.specs.declared.builder.range.ValueRange.{ValueRange}
use Rattle.rg_run.specs.CommandLine.{bare_app, part_rule, word_rule}
use Rattle.rg_run.proofs.command.command_line.Goals as goal

some_of : {X : Type 0} (o : Option X) (P : X → Type 0) (x : X) → ((y : X) → P y → y ≡ x) → IsSomeAnd o P → o ≡ Some x
some_of None P x only h = absurd h
some_of (Some y) P x only h = ap Some (only y h)

pub returns : goal.returns
returns c =
    let bare : app_of c.disable_help_flag.result ≡ bare_app = ap app_of_fields c.disable_help_flag.ensures
    ∙ ap (λ f. app_of_fields (record f { disable_help_flag = true })) c.no_binary_name.ensures
    ∙ ap (on_top (λ s. record s { no_binary_name = true; disable_help_flag = true })) c.new-3.ensures.app in
    let word_is : rule_of c.action-word.result ≡ word_rule = search rules in
    let range : c.num_args.result.num_vals ≡ Some (record { start_inclusive = 0; end_inclusive = usize_max }) = some_of c.num_args.result.num_vals _ _ (λ r is. is) c.num_args.ensures.1 in
    let part_is : rule_of c.action-parts.result ≡ part_rule = ap rule_of c.action-parts.ensures
    ∙ ap (λ (a : Arg). rule_of (record a { action = Some Append })) c.num_args.ensures.0
    ∙ ap (λ (v : Option ValueRange). rule_of (record c.new-2.result { num_vals = v; action = Some Append })) range
    ∙ ap (λ (r : Rule). record r { range = Some (record { start_inclusive = 0; end_inclusive = usize_max }); action = Some Append }) c.new-2.ensures.rule in
    IfOk-weaker c.arg-2.result _ _
    (λ line h. h.shape (search rules) ∙ ap₂ with_rule (c.in_ok-arg.ensures.shape (search rules) ∙ ap₂ with_rule bare word_is) part_is) c.arg-2.ensures
