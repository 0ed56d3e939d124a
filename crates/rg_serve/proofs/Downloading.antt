-- The refresher's downloads.
use Rattle.std.proofs.Common.{◌≡◌, ◌∙◌, ℕ, ◌+◌, ◌-◌, ◌≤◌, List, [], ◌∷◌, ◌++◌, length, length-append, slice_get, true, Some, ap, sym, subst, refl, arith, append_assoc, append-nil}
use mathlib.Core.List.{IsPrefix}
use Rattle.std.proofs.lemmas.Bool.{eq-eqb}
use Rattle.std.proofs.lemmas.List.Elements.{All-nil}
use Rattle.std.proofs.lemmas.Option.{same_Some}
use Rattle.rg_turn.specs.History.{state_at}
use Rattle.rg_turn.specs.Values.{IsCalled}
use Rattle.rg_turn.specs.View.{entry}
use Rattle.rg_turn.specs.declared.rule.Entry.{Entry}
use Rattle.rg_turn.proofs.Histories.{begins_length, begins_self, begins_whole, state_at_end}
use Rattle.rg_facts.specs.declared.facts.Facts.{Facts}
use Rattle.rg_cmd.specs.declared.ask.AdminReply.{AdminReply}
use Rattle.rg_cmd.specs.declared.ask.AdminReply.TheVariants.{Downloaded}
use Rattle.rg_cmd.specs.declared.ask.Ask.{Ask}
use Rattle.rg_admin_laws.specs.Logs.{Administration}
use Rattle.rg_admin_laws.specs.Machine.{Versions, download_ask, same_versions, versions}
use Rattle.rg_admin_laws.specs.Steps.{step}
use Rattle.rg_admin_laws.specs.Views.{view}
use Rattle.rg_publish.specs.Publications.{publication}
use Rattle.rg_publish.specs.declared.history.Publication.{Publication}
use Rattle.rg_publish.proofs.Lists.{get_last}
use Rattle.rg_session.specs.Refreshing.{HasDownloaded, HasRefreshed, Publishes, is_unpublished}
use Rattle.rg_session.specs.declared.refresher.Refresh.{Refresh}
use Rattle.rg_session.specs.declared.refresher.Refresh.TheVariants.{Unchanged, Published}
use Rattle.rg_serve.specs.Held.{HasLast}
use Rattle.rg_serve.specs.Served.{IsCurrent}
use Rattle.rg_serve.specs.Trails.{Downloads, Seated}
use Rattle.rg_serve.proofs.Alls.{all_more}
use Rattle.rg_serve.proofs.Standing.{stand_further, stand_on}

abbrev H : Type 0
H = List (Entry Ask AdminReply)

abbrev IsDownload : List ℕ → Entry Ask AdminReply → Type 0
IsDownload plugin e = (v : Versions) × (e.ask ≡ download_ask plugin v)

pub no_downloads : (history : H) (plugin : List ℕ) (seat : Seated) → Downloads history plugin seat seat
no_downloads history plugin seat = ([], [], sym (append-nil seat.calls), refl, All-nil (IsDownload plugin))

pub downloads_further : (h m : H) → IsPrefix h m → (plugin : List ℕ) (before after : Seated) → Downloads h plugin before after → Downloads m plugin before after
downloads_further h m begins plugin before after d = (d.0, d.1, d.2, stand_further h m begins d.0 d.1 d.3, d.4)

-- what was published stays
pub published_more : (n : ℕ) (facts : Facts) (before : List Publication) (refresh : Refresh) (after : List Publication) → Publishes n facts before refresh after → IsPrefix before after
published_more n facts before Unchanged after is = subst (λ (l : List Publication). IsPrefix before l) (sym is) (begins_self before)
published_more n facts before (Published serial) after is = (publication serial.0 n facts ∷ [], sym is.1)

pub same_self : (v : Versions) → same_versions v v ≡ true
same_self v = rw (eq-eqb v.policies.0 v.policies.0 refl, eq-eqb v.tags.0 v.tags.0 refl, eq-eqb v.roles.0 v.roles.0 refl) refl

-- the newest publication has the versions of what the plugin sees
abbrev Shows : List Publication → Facts → Type 0
Shows list present = (p : Publication) × (slice_get list (length list - 1) ≡ Some p) × (same_versions (versions p.facts) (versions present) ≡ true)

shows_by : (n : ℕ) (newest : Publication) (present : Facts) (before : List Publication) (refresh : Refresh) (after : List Publication) → Publishes n present before refresh after
    → slice_get before (length before - 1) ≡ Some newest → is_unpublished refresh ≡ same_versions (versions newest.facts) (versions present) → Shows after present
shows_by n newest present before Unchanged after is last same =
    (newest, subst (λ (l : List Publication). slice_get l (length l - 1) ≡ Some newest) (sym is) last, sym same)
shows_by n newest present before (Published serial) after is last same =
    let p = publication serial.0 n present in
    let longer = before ++ p ∷ [] in (
      p,
      subst (λ (l : List Publication). slice_get l (length l - 1) ≡ Some p) (sym is.1) (get_last before p (length longer - 1) (omega (arith, length-append before (p ∷ [])))),
      same_self (versions present),
    )

module _ (before mid after : Seated) (plugin : List ℕ) (list list' : List Publication) (n : ℕ) (downloaded : HasDownloaded mid plugin list after n) where
  abbrev p : Publication
  p = downloaded.0

  abbrev e : Entry Ask AdminReply
  e = entry (download_ask plugin (versions p.facts)) (Downloaded downloaded.2.0)

  abbrev call : IsCalled mid (download_ask plugin (versions p.facts)) (Downloaded downloaded.2.0) after
  call = downloaded.2.1

  at : length call.0 ≡ n
  at = omega (arith, downloaded.2.2, ap length call.1, length-append call.0 (e ∷ []))

  pub one_download : IsPrefix mid.history after.history → Downloads mid.history plugin before mid → Downloads after.history plugin before after
  one_download begins d =
      let stands : slice_get after.history (length call.0) ≡ Some e = subst (λ (h : H). slice_get h (length call.0) ≡ Some e) (sym call.1) (get_last call.0 e (length call.0) refl) in (
        d.0 ++ length call.0 ∷ [],
        d.1 ++ e ∷ [],
        call.3 ∙ ap (λ l. l ++ length call.0 ∷ []) d.2 ∙ append_assoc before.calls d.0 (length call.0 ∷ []),
        stand_on mid.history after.history begins d.0 (length call.0 ∷ []) d.1 (e ∷ []) d.3 (stands, refl),
        all_more (IsDownload plugin) d.1 e d.4 (versions p.facts, refl),
      )

  pub one_longer : (h : H) → IsPrefix h mid.history → length h + 1 ≤ length after.history
  one_longer h begins = omega (arith, begins_length h mid.history begins, begins_length mid.history call.0 call.2, ap length call.1, length-append call.0 (e ∷ []))

  pub has_last : (start : Administration) → plugin ≡ start.state.plugin → (refresh : Refresh) → HasRefreshed start after.history n list refresh list' → HasLast start after.history list' n
  has_last start serves refresh has =
      let shows = shows_by n has.newest has.present list refresh list' has.list has.last has.unchanged in record {
        before = call.0;
        last = e;
        is = call.1;
        at = at;
        from = versions p.facts;
        ask = ap (λ (s : List ℕ). download_ask s (versions p.facts)) serves;
        newest = shows.0;
        newest_is = shows.1;
        present = has.present;
        viewed = has.viewed;
        current = shows.2;
      }

-- nothing came after the last download
pub is_current : (start : Administration) (history : H) (list : List Publication) (n : ℕ) (past : H) → HasLast start history list n → IsPrefix history past → length past ≡ n + 1 → IsCurrent start past list
is_current start history list n past l begins whole =
    let same : history ≡ past = begins_whole history past begins (omega (arith, whole, l.at, ap length l.is, length-append l.before (l.last ∷ []))) in record {
      before = l.before;
      last = l.last;
      past_is = sym same ∙ l.is;
      from = l.from;
      ask = l.ask;
      newest = l.newest;
      newest_is = l.newest_is;
      present = l.present;
      viewed =
          subst (λ (a : Administration). view a start.state.plugin ≡ Some l.present)
          (ap (λ (h : H). state_at step start h n) l.is ∙ (ap (state_at step start (l.before ++ l.last ∷ [])) (sym l.at) ∙ state_at_end step start l.before (l.last ∷ []))) l.viewed;
      current = l.current;
    }

-- ---- what is held, where its parts are the same

pub same_start : (Q : Administration → Type 0) (x y : Administration) → Some x ≡ Some y → Q x → Q y
same_start Q x y same q = subst Q (same_Some x y same) q

pub same_service : (history : H) (service service' : List ℕ) (before after : Seated) → service ≡ service' → Downloads history service before after → Downloads history service' before after
same_service history service service' before after same d = subst (λ (s : List ℕ). Downloads history s before after) same d

pub same_list : (list more more' : List Publication) → more ≡ more' → IsPrefix list more → IsPrefix list more'
same_list list more more' same front = subst (λ (l : List Publication). IsPrefix list l) same front
