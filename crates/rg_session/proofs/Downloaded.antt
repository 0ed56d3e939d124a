-- How publications stay made of downloads.
use Rattle.std.proofs.Common.{◌≡◌, ◌∙◌, ℕ, suc, ◌-◌, false, List, [], ◌∷◌, ◌++◌, length, length-append, Some, slice_get, inl, inr, refl, ap, sym, subst, arith}
use mathlib.Core.List.{IsPrefix}
use Rattle.std.proofs.Math.ListN.{get_or-append}
use Rattle.std.proofs.lemmas.Option.{get_or_from_slice_get, none-some, same_Some, slice_get-get_or, slice_get_within}
use Rattle.rg_turn.specs.Values.{SeatValue}
use Rattle.rg_turn.specs.View.{entry}
use Rattle.rg_turn.specs.declared.rule.Entry.{Entry}
use Rattle.rg_turn.proofs.Histories.{begins_more, begins_trans}
use Rattle.rg_cmd.specs.declared.ask.AdminReply.{AdminReply}
use Rattle.rg_cmd.specs.declared.ask.AdminReply.TheVariants.{Downloaded}
use Rattle.rg_cmd.specs.declared.ask.Ask.{Ask}
use Rattle.rg_cmd.specs.declared.download.Download.{Download}
use Rattle.rg_admin_laws.specs.Leading.{led}
use Rattle.rg_admin_laws.specs.Logs.{Administration}
use Rattle.rg_admin_laws.specs.Machine.{download_ask, is_unchanged, versions}
use Rattle.rg_publish.specs.Publications.{publication}
use Rattle.rg_publish.specs.declared.history.Publication.{Publication}
use Rattle.rg_publish.proofs.Lists.{get_last}
use Rattle.rg_session.specs.declared.refresher.Refresh.{Refresh}
use Rattle.rg_session.specs.declared.refresher.Refresh.TheVariants.{Unchanged, Published}
use Rattle.rg_session.specs.Documents.{Came, Takes}
use Rattle.rg_session.specs.Right.{AreDownloadedFor, IsDownloaded}
use Rattle.rg_session.proofs.Rights.{H, at_more}

get_front : {A : Type 0} (h m : List A) (k : ℕ) (x : A) → IsPrefix h m → slice_get h k ≡ Some x → slice_get m k ≡ Some x
get_front {A} h m k x front at =
    let low = slice_get_within h k x at in
    subst (λ (l : List A). slice_get l k ≡ Some x) front.1
    (slice_get-get_or (h ++ front.0) k x (omega (arith, low, length-append h front.0)) ∙ ap Some (get_or-append h front.0 x k low ∙ get_or_from_slice_get h k x x at))

pub first : (start : Administration) (h : H) (p : Publication) → AreDownloadedFor start h (p ∷ [])
unfolding AreDownloadedFor
first start h p i a b at after = absurd (none-some b after)

pub stays : (start : Administration) (h m : H) (list : List Publication) → IsPrefix h m → AreDownloadedFor start h list → AreDownloadedFor start m list
unfolding AreDownloadedFor
stays start h m list front all i p q at after =
    let was = all i p q at after in record {
      document = was.document;
      stands = get_front h m q.seq (entry (download_ask start.state.plugin (versions p.facts)) (Downloaded was.document)) front was.stands;
      changed = was.changed;
      seq = was.seq;
      leads = was.leads;
    }

-- one publication more
grows : (start : Administration) (h : H) (list : List Publication) (newest new : Publication) → slice_get list (length list - 1) ≡ Some newest → IsDownloaded start.state.plugin h newest new
    → AreDownloadedFor start h list → AreDownloadedFor start h (list ++ new ∷ [])
unfolding AreDownloadedFor
grows start h list newest new last made all i p q at after = elim (at_more list new q (suc i) after) [
  | inl old ↦ elim (at_more list new p i at) [
    | inl before ↦ all i p q before old
    | inr end ↦ absurd (let within = slice_get_within list (suc i) q old in omega (arith, end.0, within))
  ]
  | inr end ↦ elim (at_more list new p i at) [
    | inl before ↦
        let same : newest ≡ p = same_Some newest p (sym last ∙ ap (slice_get list) (omega (arith, end.0)) ∙ before) in
        subst (λ (y : Publication). IsDownloaded start.state.plugin h p y) end.1 (subst (λ (y : Publication). IsDownloaded start.state.plugin h y new) same made)
    | inr past ↦ absurd (omega (arith, end.0, past.0))
  ]
]

module _ (start : Administration) (before after : SeatValue Ask AdminReply Administration) (service : List ℕ) (list : List Publication) (d : Download) (c : Came start before service list d after) where
  abbrev e : Entry Ask AdminReply
  e = entry (download_ask service (versions c.newest.facts)) (Downloaded d)

  goes_on : IsPrefix before.history after.history
  goes_on = subst (λ (h : H). IsPrefix before.history h) (sym c.called.1) (begins_more before.history c.called.0 (e ∷ []) c.called.2)

  -- what was made of a document that came
  pub taken : service ≡ start.state.plugin → (list' : List Publication) (r : Refresh) → Takes list d r list' → AreDownloadedFor start before.history list → AreDownloadedFor start after.history list'
  taken served list' Unchanged takes all =
      subst (λ (l : List Publication). AreDownloadedFor start after.history l) (sym takes.1) (stays start before.history after.history list goes_on all)
  taken served list' (Published serial) takes all =
      let p : Publication = takes.2.0 in
      let new : Publication = publication serial.0 d.seq (led p.facts d) in
      let same : c.newest ≡ p = same_Some c.newest p (sym c.last ∙ takes.2.1) in
      let is : e ≡ entry (download_ask start.state.plugin (versions p.facts)) (Downloaded d) =
      ap (λ (s : List ℕ). entry (download_ask s (versions c.newest.facts)) (Downloaded d)) served
      ∙ ap (λ (q : Publication). entry (download_ask start.state.plugin (versions q.facts)) (Downloaded d)) same
      in
      let there : slice_get after.history d.seq ≡ Some e =
      ap (λ (h : H). slice_get h d.seq) c.called.1 ∙ get_last c.called.0 e d.seq c.leads.seq
      in
      subst (λ (l : List Publication). AreDownloadedFor start after.history l) (sym takes.2.2)
      (grows start after.history list p new takes.2.1 (record { document = d; stands = there ∙ ap Some is; changed = takes.0; seq = refl; leads = refl })
      (stays start before.history after.history list goes_on all))
