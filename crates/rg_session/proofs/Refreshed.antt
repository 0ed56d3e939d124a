-- What a refresh leaves.
use Rattle.std.proofs.Common.{◌≡◌, ◌∙◌, ℕ, ◌+◌, ◌-◌, ◌<◌, ◌≤◌, ◌^◌, true, List, [], ◌∷◌, ◌++◌, length, Some, slice_get, refl, ap, sym, subst, arith}
use Rattle.std.proofs.lemmas.List.{length-append, same_from_push}
use Rattle.std.proofs.lemmas.Option.{same_Some}
use mathlib.Core.List.{IsPrefix}
use Rattle.rg_base.specs.Counts.{Counts}
use Rattle.rg_turn.specs.History.{IsLegal, state_at}
use Rattle.rg_turn.specs.Values.{IsCalled, SeatValue}
use Rattle.rg_turn.specs.View.{entry}
use Rattle.rg_turn.specs.declared.rule.Entry.{Entry}
use Rattle.rg_turn.proofs.Histories.{state_at_end}
use Rattle.rg_facts.specs.Sound.{sound}
use Rattle.rg_facts.specs.declared.facts.Facts.{Facts}
use Rattle.rg_cmd.specs.declared.ask.AdminReply.{AdminReply}
use Rattle.rg_cmd.specs.declared.ask.AdminReply.TheVariants.{Downloaded}
use Rattle.rg_cmd.specs.declared.ask.Ask.{Ask}
use Rattle.rg_cmd.specs.declared.download.Download.{Download}
use Rattle.rg_publish.specs.Bounds.{WorkWithin}
use Rattle.rg_admin_laws.specs.Leading.{led}
use Rattle.rg_admin_laws.specs.Logs.{Administration}
use Rattle.rg_admin_laws.specs.Machine.{download_ask, versions}
use Rattle.rg_admin_laws.specs.Starts.{IsStart}
use Rattle.rg_admin_laws.specs.Steps.{step}
use Rattle.rg_admin_laws.specs.Views.{view}
use Rattle.rg_publish.specs.Passes.{Ends}
use Rattle.rg_publish.specs.Publications.{publication}
use Rattle.rg_publish.specs.declared.history.Publication.{Publication}
use Rattle.rg_session.specs.declared.refresher.Refresh.{Refresh}
use Rattle.rg_session.specs.declared.refresher.Refresh.TheVariants.{Unchanged, Published}
use Rattle.rg_session.specs.Documents.{Came, IsFit, Leads, Takes}
use Rattle.rg_session.specs.Refreshing.{HasDownloaded, HasRefreshed, IsWithin, KeepsBounds, is_partial}
use Rattle.rg_session.specs.Right.{AreRightFor}
use Rattle.rg_session.proofs.Rights.{H}

abbrev SeatNow : Type 0
SeatNow = SeatValue Ask AdminReply Administration

-- what this crate's laws say
abbrev Stay : Type 0
Stay = (start : Administration) (h later : H) (list : List Publication) → IsPrefix h later → AreRightFor start h list → AreRightFor start later list

abbrev Lead : Type 0
Lead = (start : Administration) (h : H) (list : List Publication) (newest : Publication) (d : Download) → IsStart start → AreRightFor start h list → slice_get list (length list - 1) ≡ Some newest
    → IsLegal step start (h ++ entry (download_ask start.state.plugin (versions newest.facts)) (Downloaded d) ∷ []) → length h < 2 ^ 62 → Leads start h list d

abbrev More : Type 0
More = (start : Administration) (h : H) (list : List Publication) (newest : Publication) (n : ℕ) (facts : Facts) → AreRightFor start h list → slice_get list (length list - 1) ≡ Some newest → newest.seq < n → n < length h
    → view (state_at step start h n) start.state.plugin ≡ Some facts → AreRightFor start h (list ++ publication (length list + 1) n facts ∷ [])

-- ---- a document that came

pub came_at : Stay → Lead → (start : Administration) (before after : SeatNow) (service : List ℕ) (list : List Publication) (newest : Publication) (d : Download) → IsStart start → service ≡ start.state.plugin
    → AreRightFor start before.history list → slice_get list (length list - 1) ≡ Some newest → IsCalled before (download_ask service (versions newest.facts)) (Downloaded d) after
    → IsLegal step start after.history → length after.history ≤ 2 ^ 62 → Came start before service list d after
came_at stay lead start before after service list newest d starts plugin right last called legal low =
    let e : List ℕ → Entry Ask AdminReply = λ s. entry (download_ask s (versions newest.facts)) (Downloaded d) in
    let is : after.history ≡ called.0 ++ e start.state.plugin ∷ [] = called.1 ∙ ap (λ s. called.0 ++ e s ∷ []) plugin in
    let long : length after.history ≡ length called.0 + 1 = ap length called.1 ∙ length-append called.0 (e service ∷ []) in record {
      newest = newest;
      last = last;
      called = called;
      leads = lead start called.0 list newest d starts (stay start before.history called.0 list called.2 right) last (subst (λ (z : H). IsLegal step start z) is legal) (omega (arith, long, low));
    }

-- by an engine of the newest publication
pub came : Stay → Lead → (start : Administration) (before after : SeatNow) (service : List ℕ) (list : List Publication) (engine : Facts) (d : Download) → IsStart start → service ≡ start.state.plugin
    → AreRightFor start before.history list → Ends list (λ p. engine ≡ p.facts) → IsCalled before (download_ask service (versions engine)) (Downloaded d) after
    → IsLegal step start after.history → length after.history ≤ 2 ^ 62 → Came start before service list d after
came stay lead start before after service list engine d starts plugin right ends called legal low =
    came_at stay lead start before after service list ends.0 d starts plugin right ends.1
    (subst (λ (f : Facts). IsCalled before (download_ask service (versions f)) (Downloaded d) after) ends.2 called) legal low

pub fits : (start : Administration) (h : H) (list : List Publication) (d : Download) → Leads start h list d → Ends list (λ p. IsFit p.facts d)
fits start h list d l = (l.newest, l.last, record { soundly = ap sound l.leads ∙ l.soundly; forward = l.forward })

-- ---- what was made of it

module _ (start : Administration) (before after : SeatNow) (service : List ℕ) (list : List Publication) (d : Download) (c : Came start before service list d after) where
  abbrev h : H
  h = c.called.0

  abbrev e : Entry Ask AdminReply
  e = entry (download_ask service (versions c.newest.facts)) (Downloaded d)

  long : length after.history ≡ length h + 1
  long = ap length c.called.1 ∙ length-append h (e ∷ [])

  there : view (state_at step start after.history (length h)) start.state.plugin ≡ Some c.leads.present
  there =
      ap (λ (z : H). view (state_at step start z (length h)) start.state.plugin) c.called.1
      ∙ ap (λ a. view a start.state.plugin) (state_at_end step start h (e ∷ [])) ∙ c.leads.viewed

  -- the facts of the last publication lead there
  ends_there : (p : Publication) → slice_get list (length list - 1) ≡ Some p → led p.facts d ≡ c.leads.present
  ends_there p at = ap (λ (q : Publication). led q.facts d) (same_Some p c.leads.newest (sym at ∙ c.leads.last)) ∙ c.leads.leads

  pub downloaded : HasDownloaded before service list after d.seq
  downloaded = (c.newest, c.last, (d, c.called, omega (arith, long, c.leads.seq)))

  pub refreshed : (list' : List Publication) (r : Refresh) → Takes list d r list' → HasRefreshed start after.history d.seq list r list'
  refreshed list' Unchanged taken = record {
    newest = c.leads.newest;
    last = c.leads.last;
    present = c.leads.present;
    viewed = ap (λ n. view (state_at step start after.history n) start.state.plugin) c.leads.seq ∙ there;
    unchanged = sym taken.0 ∙ c.leads.unchanged;
    list = taken.1;
  }
  refreshed list' (Published serial) taken = record {
    newest = c.leads.newest;
    last = c.leads.last;
    present = c.leads.present;
    viewed = ap (λ n. view (state_at step start after.history n) start.state.plugin) c.leads.seq ∙ there;
    unchanged = sym taken.0 ∙ c.leads.unchanged;
    list = (taken.1, taken.2.2 ∙ ap (λ f. list ++ publication serial.0 d.seq f ∷ []) (ends_there taken.2.0 taken.2.1));
  }

  pub stays_right : More → (list' : List Publication) (r : Refresh) → Takes list d r list' → AreRightFor start after.history list → AreRightFor start after.history list'
  stays_right more list' Unchanged taken right = subst (λ (z : List Publication). AreRightFor start after.history z) (sym taken.1) right
  stays_right more list' (Published serial) taken right =
      let is : list' ≡ list ++ publication (length list + 1) (length h) c.leads.present ∷ [] =
      taken.2.2
      ∙ ap (λ f. list ++ publication serial.0 d.seq f ∷ []) (ends_there taken.2.0 taken.2.1)
      ∙ ap (λ n. list ++ publication n d.seq c.leads.present ∷ []) taken.1
      ∙ ap (λ n. list ++ publication (length list + 1) n c.leads.present ∷ []) c.leads.seq in
      subst (λ (z : List Publication). AreRightFor start after.history z) (sym is)
      (more start after.history list c.leads.newest (length h) c.leads.present right c.leads.last (c.leads.newer taken.0) (omega (arith, long)) there)

  pub keeps_bounds : (old new : Counts) → ((p : Publication) → slice_get list (length list - 1) ≡ Some p → is_partial d ≡ true → IsWithin p.facts d old new) → KeepsBounds after.history list old new
  keeps_bounds old new within front ask last p is at partial =
      let same : e ≡ entry ask (Downloaded last) = (same_from_push h front e (entry ask (Downloaded last)) (sym c.called.1 ∙ is)).1 in
      let document : d ≡ last = cc (ap (λ (x : Entry Ask AdminReply). x.reply) same) in
      subst (λ (x : Download). IsWithin p.facts x old new) document (within p at (subst (λ (x : Download). is_partial x ≡ true) (sym document) partial))

-- no work is within any bounds
pub no_work : (compiles edits : ℕ) (counts : Counts) → WorkWithin compiles edits counts counts
no_work compiles edits counts = record { compiled = omega arith; edited = omega arith; tries = refl }
