use Rattle.std.proofs.Common.{◌≡◌, ◌∙◌, ap, ap₂, rules, true}
use Rattle.std.proofs.lemmas.Result.{IfOk-weaker}
use Rattle.clap.specs.Simple.{app_of_fields, on_top}
use Rattle.clap.specs.Words.{app_of, rule_of, with_rule}
use Rattle.rg_explain_script.specs.CommandLine.{all_rule, bare_app, json_rule, number_rule}
use Rattle.rg_explain_script.proofs.words.command_line.Goals as goal

pub returns : goal.returns
returns c =
    let bare : app_of c.disable_help_flag.result ≡ bare_app = ap app_of_fields c.disable_help_flag.ensures
    ∙ ap (λ f. app_of_fields (record f { disable_help_flag = true })) c.no_binary_name.ensures
    ∙ ap (on_top (λ s. record s { no_binary_name = true; disable_help_flag = true })) c.new-4.ensures.app in
    let json_is : rule_of c.action-json.result ≡ json_rule = search rules in
    let all_is : rule_of c.action-all.result ≡ all_rule = search rules in
    let number_is : rule_of c.action-number.result ≡ number_rule = search rules in
    IfOk-weaker c.arg-3.result _ _
    (λ line h. h.shape (search rules) ∙ ap₂ with_rule (c.in_ok-arg-2.ensures.shape (search rules) ∙ ap₂ with_rule (c.in_ok-arg.ensures.shape (search rules) ∙ ap₂ with_rule bare json_is) all_is) number_is) c.arg-3.ensures
