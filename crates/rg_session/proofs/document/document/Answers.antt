use Rattle.std.proofs.Common.{◌∙◌, List, [], ◌∷◌, ◌++◌, ℕ, ap, subst}
use Rattle.rg_turn.specs.History.{IsLegal}
use Rattle.rg_turn.specs.Values.{IsCalled}
use Rattle.rg_turn.specs.View.{entry}
use Rattle.rg_cmd.specs.declared.ask.AdminReply.{AdminReply}
use Rattle.rg_admin_laws.specs.Machine.{download_ask, versions}
use Rattle.rg_admin_laws.specs.Steps.{step}
use Rattle.rg_session.proofs.Refreshed.{came}
use Rattle.rg_session.proofs.Rights.{H}
use Rattle.rg_session.proofs.document.document.Goals as goal

pub document_in-requires : goal.document_in-requires
document_in-requires g c =
    let k = c.in-Ok.ensures.called in
    let is = k.1 ∙ ap (λ (s : List ℕ). k.0 ++ entry (download_ask s (versions c.newest.result.now)) c.in-Ok.reply ∷ []) c.requires.service in
    c.documents_come.ensures c.args.turn.now.start k.0 (versions c.newest.result.now) c.in-Ok.reply c.requires.start
    (subst (λ (z : H). IsLegal step c.args.turn.now.start z) is c.in-Ok.ensures.legal)

pub returns-in-Ok-clause-came : goal.returns-in-Ok-clause-came
returns-in-Ok-clause-came g c =
    came c.right_lists_stay_right.ensures c.documents_lead.ensures c.args.turn.now.start c.args.seat.now c.download.new.seat c.args.service.now c.args.publisher.now.list
    c.newest.result.now c.document_in.result c.requires.start c.requires.service c.requires.right c.newest.ensures
    (subst (λ (r : AdminReply). IsCalled c.args.seat.now (download_ask c.args.service.now (versions c.newest.result.now)) r c.download.new.seat) c.document_in.ensures c.in-Ok.ensures.called)
    c.in-Ok.ensures.legal c.in-Ok.ensures.bounded
