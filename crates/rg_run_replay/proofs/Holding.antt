-- What a start, a call and a refresh make of an administration that is held.
use Rattle.std.proofs.Common.{◌≡◌, ◌∙◌, ℕ, ◌+◌, ◌-◌, ◌<◌, ◌≤◌, ◌^◌, true, false, List, [], ◌∷◌, ◌++◌, length, length-append, Option, Some, None, slice_get, ap, ap₂, sym, subst, arith, refl, option_map, if◌then◌else◌}
use Rattle.std.proofs.lemmas.Option.{same_Some}
use Rattle.rg_base.specs.declared.numbers.Serial.{Serial}
use Rattle.rg_turn.specs.History.{IsLegal, state_after, state_at}
use Rattle.rg_turn.specs.Values.{IsCalled, SeatValue, TurnValue, new_seat}
use Rattle.rg_turn.specs.View.{entry}
use Rattle.rg_turn.specs.declared.rule.Entry.{Entry}
use Rattle.rg_turn.proofs.Histories.{state_at_end}
use Rattle.rg_facts.specs.declared.facts.Facts.{Facts}
use Rattle.rg_cmd.specs.declared.ask.AdminReply.{AdminReply}
use Rattle.rg_cmd.specs.declared.ask.AdminReply.TheVariants.{Downloaded}
use Rattle.rg_cmd.specs.declared.ask.Ask.{Ask}
use Rattle.rg_cmd.specs.declared.download.Download.{Download}
use Rattle.rg_admin_laws.specs.Leading.{led}
use Rattle.rg_admin_laws.specs.Logs.{Administration}
use Rattle.rg_admin_laws.specs.Machine.{download_ask, is_unchanged, same_versions, versions}
use Rattle.rg_admin_laws.specs.Starts.{IsStart}
use Rattle.rg_admin_laws.specs.Steps.{step}
use Rattle.rg_admin_laws.specs.Views.{view}
use Rattle.rg_publish.specs.Passes.{Ends, Seeing, new_pass}
use Rattle.rg_publish.specs.Publications.{Published as Shown, publication}
use Rattle.rg_publish.specs.declared.history.Publication.{Publication}
use Rattle.rg_session.specs.Documents.{Leads}
use Rattle.rg_session.specs.Refreshing.{HasDownloaded, HasRefreshed}
use Rattle.rg_session.specs.Right.{AreRightFor}
use Rattle.rg_session.specs.declared.refresher.Refresh.{Refresh}
use Rattle.rg_session.specs.declared.refresher.Refresh.TheVariants.{Unchanged, Published}
use Rattle.rg_run_replay.specs.Held.{IsHeld, held}
use Rattle.rg_run_replay.specs.Running.{IsRefreshed, Running, newest, next_by, opened, refresh_publishes, running, serial_in, serial_of, with_next}

abbrev H : Type 0
H = List (Entry Ask AdminReply)

abbrev TurnNow : Type 0
TurnNow = TurnValue Administration

abbrev SeatNow : Type 0
SeatNow = SeatValue Ask AdminReply Administration

-- ---- the laws that are called

abbrev pub Replies : Type 0
Replies = (s : Administration) (h : H) (e : Entry Ask AdminReply) → IsLegal step s (h ++ e ∷ []) → (step (state_after step s h) e.ask).1 ≡ e.reply

abbrev pub States : Type 0
States = (s : Administration) (h : H) (e : Entry Ask AdminReply) → state_after step s (h ++ e ∷ []) ≡ (step (state_after step s h) e.ask).0

abbrev pub DocumentsLead : Type 0
DocumentsLead = (start : Administration) (h : H) (list : List Publication) (newest : Publication) (d : Download)
    → IsStart start → AreRightFor start h list → slice_get list (length list - 1) ≡ Some newest
    → IsLegal step start (h ++ entry (download_ask start.state.plugin (versions newest.facts)) (Downloaded d) ∷ []) → length h < 2 ^ 62
    → Leads start h list d

-- ---- a call

module _ (replies : Replies) (states : States) (turn : TurnNow) (before after : SeatNow) (ask : Ask) (reply : AdminReply)
    (alone : before.turn.seats ≡ 1) (called : IsCalled before ask reply after) (legal : IsLegal step turn.start after.history) where
  abbrev e : Entry Ask AdminReply
  e = entry ask reply

  -- nobody else calls
  pub alone_called : after.history ≡ before.history ++ e ∷ []
  alone_called = called.1 ∙ ap (λ (z : H). z ++ e ∷ []) (called.4 alone)

  pub alone_legal : IsLegal step turn.start (before.history ++ e ∷ [])
  alone_legal = subst (λ (z : H). IsLegal step turn.start z) alone_called legal

  pub replied : reply ≡ (step (state_after step turn.start before.history) ask).1
  replied = sym (replies turn.start before.history e alone_legal)

  pub moved : state_after step turn.start after.history ≡ (step (state_after step turn.start before.history) ask).0
  moved = ap (state_after step turn.start) alone_called ∙ states turn.start before.history e

-- ---- a refresh

module _ (replies : Replies) (states : States) (lead : DocumentsLead) (turn : TurnNow) (before after : SeatNow) (service : List ℕ) (list : List Publication) (n : ℕ)
    (starts : IsStart turn.start) (serves : service ≡ turn.start.state.plugin) (alone : before.turn.seats ≡ 1) (right : AreRightFor turn.start before.history list)
    (legal : IsLegal step turn.start after.history) (low : length after.history ≤ 2 ^ 62) (downloads : HasDownloaded before service list after n) where
  abbrev p : Publication
  p = downloads.0

  abbrev d : Download
  d = downloads.2.0

  abbrev ask : Ask
  ask = download_ask service (versions p.facts)

  abbrev a : Administration
  a = state_after step turn.start before.history

  whole : after.history ≡ before.history ++ entry ask (Downloaded d) ∷ []
  whole = alone_called replies states turn before after ask (Downloaded d) alone downloads.2.1 legal

  reply_is : Downloaded d ≡ (step a ask).1
  reply_is = replied replies states turn before after ask (Downloaded d) alone downloads.2.1 legal

  long : length after.history ≡ length before.history + 1
  long = ap length whole ∙ length-append before.history (entry ask (Downloaded d) ∷ [])

  as_often : n ≡ length before.history
  as_often = omega (arith, long, downloads.2.2)

  leads : Leads turn.start before.history list d
  leads = lead turn.start before.history list p d starts right downloads.1
      (subst (λ (s : List ℕ). IsLegal step turn.start (before.history ++ entry (download_ask s (versions p.facts)) (Downloaded d) ∷ [])) serves
      (alone_legal replies states turn before after ask (Downloaded d) alone downloads.2.1 legal)) (omega (arith, long, low))

  newest_is : leads.newest ≡ p
  newest_is = same_Some leads.newest p (sym leads.last ∙ downloads.1)

  at_end : state_at step turn.start after.history n ≡ a
  at_end = ap₂ (state_at step turn.start) whole as_often ∙ state_at_end step turn.start before.history (entry ask (Downloaded d) ∷ [])

  module _ (list' : List Publication) (r : Refresh) (has : HasRefreshed turn.start after.history n list r list') where
    present_is : has.present ≡ leads.present
    present_is = same_Some has.present leads.present (sym has.viewed ∙ ap (λ s. view s turn.start.state.plugin) at_end ∙ leads.viewed)

    has_newest : has.newest ≡ p
    has_newest = same_Some has.newest p (sym has.last ∙ downloads.1)

    unchanged_is : is_unchanged d ≡ same_versions (versions has.newest.facts) (versions has.present)
    unchanged_is =
        leads.unchanged
        ∙ ap (λ (q : Publication). same_versions (versions q.facts) (versions leads.present)) (newest_is ∙ sym has_newest)
        ∙ ap (λ (f : Facts). same_versions (versions has.newest.facts) (versions f)) (sym present_is)

  -- what follows by the document
  published : (list' : List Publication) (r : Refresh) → HasRefreshed turn.start after.history n list r list'
      → (o : Option Publication) × (next_by (length list) p (Downloaded d) ≡ o) × (list' ≡ with_next list o) × (serial_in r ≡ option_map serial_of o)
  published list' Unchanged has =
      let is : is_unchanged d ≡ true = unchanged_is list' Unchanged has ∙ sym has.unchanged in
      (None, ap (λ b. if b then None else Some (publication (length list + 1) d.seq (led p.facts d))) is, has.list, refl)
  published list' (Published serial) has =
      let is : is_unchanged d ≡ false = unchanged_is list' (Published serial) has ∙ sym has.unchanged in
      let facts : led p.facts d ≡ has.present = ap (λ (q : Publication). led q.facts d) (sym newest_is) ∙ leads.leads ∙ sym (present_is list' (Published serial) has) in
      let next : Publication = publication serial.0 n has.present in (
        Some next,
        ap (λ b. if b then None else Some (publication (length list + 1) d.seq (led p.facts d))) is
            ∙ ap (λ f. Some (publication (length list + 1) d.seq f)) facts
            ∙ ap₂ (λ m k. Some (publication m k has.present)) (sym has.list.0) (leads.seq ∙ sym as_often),
        has.list.1,
        refl,
      )

  pub refreshed_then : (list' : List Publication) (r : Refresh) → HasRefreshed turn.start after.history n list r list'
      → Ends list (λ q. IsRefreshed (held turn before service list) q (serial_in r) (held turn after service list'))
  refreshed_then list' r has =
      let made = published list' r has in
      let next : refresh_publishes (held turn before service list) p ≡ made.0 = ap (next_by (length list) p) (sym reply_is) ∙ made.1 in (
        p,
        downloads.1,
        record {
          after =
              ap (λ s. running s service list') (moved replies states turn before after ask (Downloaded d) alone downloads.2.1 legal)
              ∙ ap (running (step a ask).0 service) (made.2 ∙ ap (with_next list) (sym next));
          serial = made.3 ∙ ap (option_map serial_of) (sym next);
        },
      )

-- the same of equal ones
pub refreshed_as : (old seen : Running) (given told : Option Serial) (new later : Running) → old ≡ seen → told ≡ given → new ≡ later
    → Ends old.published (λ q. IsRefreshed old q given new) → Ends seen.published (λ q. IsRefreshed seen q told later)
refreshed_as old seen given told new later view serial after ends =
    subst (λ (r : Running). Ends r.published (λ q. IsRefreshed r q told later)) view
    (subst (λ (o : Option Serial). Ends old.published (λ q. IsRefreshed old q o later)) (sym serial)
    (subst (λ (r : Running). Ends old.published (λ q. IsRefreshed old q given r)) after ends))

-- ---- the start

-- what is taken from a list of one
pub only : {A : Type 0} (x y : A) (rest : List A) → x ∷ [] ≡ rest ++ y ∷ [] → y ≡ x
only x y [] is = cc is
only x y (z ∷ []) is = absurd (cc is)
only x y (z ∷ w ∷ rest) is = absurd (cc is)

pub opened_held : (admin : Administration) (turn : TurnNow) (seat : SeatNow) (service : List ℕ) (p : Shown) (pass : Seeing) → IsStart admin → turn.start ≡ admin → seat ≡ new_seat turn.turn
    → seat.turn.seats ≡ 1 → service ≡ admin.state.plugin → ((h : H) → AreRightFor admin h p.list) → pass ≡ new_pass p → IsHeld turn seat service p pass
opened_held admin turn seat service p pass starts start seat_is alone serves right pass_is = record {
  seated = ap (λ (s : SeatNow). s.turn) seat_is;
  alone = alone;
  starts = subst IsStart (sym start) starts;
  serves = serves ∙ ap (λ (a : Administration). a.state.plugin) (sym start);
  right = subst (λ (a : Administration). AreRightFor a seat.history p.list) (sym start) (right seat.history);
  reads = ap (λ (s : Seeing). s.book) pass_is;
}

pub opened_is : (admin : Administration) (turn : TurnNow) (seat : SeatNow) (service : List ℕ) (list : List Publication) → turn.start ≡ admin → seat ≡ new_seat turn.turn → service ≡ admin.state.plugin
    → ((f : Facts) × (view admin admin.state.plugin ≡ Some f) × (list ≡ publication 1 0 f ∷ [])) → opened admin ≡ Some (held turn seat service list)
opened_is admin turn seat service list start seat_is serves (f, viewed, listed) =
    ap (option_map (λ (facts : Facts). running admin admin.state.plugin (publication 1 0 facts ∷ []))) viewed
    ∙ ap Some (sym (
    ap (λ (s : SeatNow). held turn s service list) seat_is
    ∙ ap (λ a. running a service list) start
    ∙ ap (λ s. running admin s list) serves
    ∙ ap (running admin admin.state.plugin) listed
    ))

-- ---- the newest publication

-- what its engine decides by
pub newest_facts : (list : List Publication) (seen : Running) (engine facts : Facts) → list ≡ seen.published → Ends list (λ p. engine ≡ p.facts) → facts ≡ engine
    → option_map (λ (p : Publication). p.facts) (newest seen) ≡ Some facts
newest_facts list seen engine facts same (p, last, is) copied =
    ap (λ (l : List Publication). option_map (λ (p : Publication). p.facts) (slice_get l (length l - 1))) (sym same)
    ∙ ap (option_map (λ (p : Publication). p.facts)) last
    ∙ ap Some (sym (copied ∙ is))
