use Rattle.std.proofs.Common.{◌∙◌, ap, sym}
use Rattle.rg_turn.proofs.Histories.{begins_trans}
use Rattle.rg_admin_laws.specs.Logs.{Administration}
use Rattle.rg_session.specs.Right.{AreDownloadedFor, AreRightFor}
use Rattle.rg_serve.proofs.Downloading.{one_download, published_more, same_list, same_service, same_start}
use Rattle.rg_serve.proofs.following.Following.refresh.Goals as goal

pub invariant_of-self : goal.invariant_of-self
invariant_of-self g c =
    let at = c.self.invariant in
    let e = c.in-Ok.ensures in
    let r = c.self.inside.refresher in
    let mid = c.self.inside.seat in
    let seat = c.refresh.new.seat in
    let list = c.refresh.new.self.publisher.list in
    let start = ap (λ t. t.start) (sym at.seated) ∙ c.knows.ensures.opening.0 in record {
      seated = e.same.0 ∙ at.seated;
      published_by = e.same.1 ∙ at.published_by;
      serves = λ x is. e.same.2 ∙ at.serves x is;
      right = λ x is. same_start (λ (a : Administration). AreRightFor a seat.history list) c.args.turn.now.start x (sym start ∙ is) e.right;
      made = λ x is. same_start (λ (a : Administration). AreDownloadedFor a seat.history list) c.args.turn.now.start x (sym start ∙ is) (e.made (at.made c.args.turn.now.start start));
      begins = begins_trans g.J.Naming.before.history mid.history seat.history at.begins e.begins;
      more = begins_trans g.J.Naming.published r.publisher.list list at.more (published_more c.refresh.new.self.seq e.refreshed.present r.publisher.list _ list e.refreshed.list);
      downloads = λ fine. same_service seat.history r.service c.refresh.new.self.service g.J.Naming.before seat (sym e.same.2) (one_download g.J.Naming.before mid seat r.service r.publisher.list list c.refresh.new.self.seq e.downloaded e.begins (at.downloads fine));
    }

pub invariant_of-self-in-Err : goal.invariant_of-self-in-Err
invariant_of-self-in-Err g c =
    let at = c.self.invariant in
    let e = c.in-Err.ensures in
    let r = c.self.inside.refresher in
    let seat = c.refresh.new.seat in
    let list = c.refresh.new.self.publisher.list in
    let start = ap (λ t. t.start) (sym at.seated) ∙ c.knows.ensures.opening.0 in record {
      seated = e.same.0 ∙ at.seated;
      published_by = e.same.1 ∙ at.published_by;
      serves = λ x is. e.same.2 ∙ at.serves x is;
      right = λ x is. same_start (λ (a : Administration). AreRightFor a seat.history list) c.args.turn.now.start x (sym start ∙ is) e.right;
      made = λ x is. same_start (λ (a : Administration). AreDownloadedFor a seat.history list) c.args.turn.now.start x (sym start ∙ is) (e.made (at.made c.args.turn.now.start start));
      begins = begins_trans g.J.Naming.before.history c.self.inside.seat.history seat.history at.begins e.begins;
      more = same_list g.J.Naming.published r.publisher.list list (sym e.refused.0) at.more;
      downloads = λ fine. absurd (cc fine);
    }
