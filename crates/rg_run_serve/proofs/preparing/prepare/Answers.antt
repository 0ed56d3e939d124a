use Rattle.std.proofs.Common.{◌≡◌, ◌⊎◌, inl, inr, ◌∙◌, ◌++◌, None, Some, ap, string_bytes, sym}
use Rattle.rg_run_serve.specs.Preparing.{asking}
use Rattle.rg_run_script.specs.declared.status.Status.{Status}
use Rattle.rg_run_script.specs.declared.status.Status.TheVariants.{Done, BadLine}
use Rattle.rg_run_serve.proofs.Readied.{bad, from_none, prepared, unprepared}
use Rattle.rg_run_serve.proofs.preparing.prepare.Goals as goal

pub returns-in-None : goal.returns-in-None
returns-in-None g c =
    unprepared c.args.workers c.args.bytes.now _ _ (string_bytes c.in_ok-worked.worked.text) _ c.in_ok-worked.worked.status
    (from_none c.args.workers c.args.bytes.now _ _ _ None _ _ _ c.new-preparing.ensures
    (sym c.preparing.view_is ∙ ap (λ a. asking a c.preparing.inside.asks.items) c.in-None.is) c.in_ok-worked.ensures.done)
    c.in_ok-worked.ensures.ends c.in_ok-text-in-None.ensures.done c.in_ok-text-in-None.ensures.bad

pub returns-in-Done : goal.returns-in-Done
returns-in-Done g c =
    prepared c.args.workers c.args.bytes.now _ _ c.in-Some.admin c.preparing.inside.asks.items (string_bytes c.in_ok-opened.text) (string_bytes c.in_ok-worked.worked.text)
    c.in_ok-opened.opened c.in_ok-opened.ensures (string_bytes c.push_str.new.self) c.in_ok-worked.worked.status
    (from_none c.args.workers c.args.bytes.now _ _ _ (Some (record { start = c.in-Some.admin; asks = c.preparing.inside.asks.items })) _ _ _ c.new-preparing.ensures
    (sym c.preparing.view_is ∙ ap (λ a. asking a c.preparing.inside.asks.items) c.in-Some.is) c.in_ok-worked.ensures.done)
    c.in-Done.is (c.in_ok-push_str.ensures.bytes ∙ ap (λ t. string_bytes c.in_ok-opened.text ++ t) c.as_str.ensures.value)

-- a script that isn't done came to a bad line
isnt_done : (status : Status) → (status ≡ Done → ⊥) → (status ≡ Done) ⊎ (status ≡ BadLine) → status ≡ BadLine
isnt_done status other (inl is) = absurd (other is)
isnt_done status other (inr is) = is

pub returns : goal.returns
returns g c =
    bad c.args.workers c.args.bytes.now _ _ c.in-Some.admin c.preparing.inside.asks.items (string_bytes c.in_ok-opened.text) (string_bytes c.in_ok-worked.worked.text)
    c.in_ok-opened.opened c.in_ok-opened.ensures (string_bytes c.push_str.new.self) c.in_ok-worked.worked.status
    (from_none c.args.workers c.args.bytes.now _ _ _ (Some (record { start = c.in-Some.admin; asks = c.preparing.inside.asks.items })) _ _ _ c.new-preparing.ensures
    (sym c.preparing.view_is ∙ ap (λ a. asking a c.preparing.inside.asks.items) c.in-Some.is) c.in_ok-worked.ensures.done)
    (isnt_done c.in_ok-worked.worked.status c.in_default.not-Done c.in_ok-worked.ensures.ends)
    (c.in_ok-push_str.ensures.bytes ∙ ap (λ t. string_bytes c.in_ok-opened.text ++ t) c.as_str.ensures.value)
