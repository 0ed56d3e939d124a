use Rattle.std.proofs.Common.{List, ℕ, ap, ◌∙◌, subst}
use mathlib.Core.List.{IsPrefix}
use Rattle.rg_http.specs.Answers.{Wrote}
use Rattle.rg_link.proofs.writing.send.Goals as goal

pub returns-clause-err : goal.returns-clause-err
returns-clause-err g c =
    subst (λ b. (part : List ℕ) × Wrote (g.T.Link.held c.args.link.now) (g.T.Link.held c.write_whole.new.link) part × IsPrefix part b)
    (c.as_slice.ensures ∙ ap (λ s. s.items) c.in-Ok.ensures) c.in-Err.ensures.err
