-- What an opening, a call and a refresh make of a service that is held.
use Rattle.std.proofs.Common.{◌≡◌, false, ◌∙◌, ℕ, ◌+◌, ◌≤◌, All, List, [], ◌∷◌, ◌++◌, length, length-append, Some, ap, sym, subst, arith, refl, option_map, replicate, take}
use mathlib.Core.List.{IsPrefix}
use Rattle.std.proofs.lemmas.List.{length-replicate}
use Rattle.std.proofs.lemmas.List.Elements.{All-replicate}
use Rattle.std.proofs.lemmas.Option.{same_Some}
use Rattle.rg_turn.specs.History.{IsLegal, state_after, state_at}
use Rattle.rg_turn.specs.Values.{IsCalled, TurnName, TurnValue, new_seat}
use Rattle.rg_turn.specs.View.{entry}
use Rattle.rg_turn.specs.declared.rule.Entry.{Entry}
use Rattle.rg_turn.proofs.Histories.{begins_length, begins_self, begins_whole}
use Rattle.rg_facts.specs.declared.facts.Facts.{Facts}
use Rattle.rg_cmd.specs.declared.ask.AdminReply.{AdminReply}
use Rattle.rg_cmd.specs.declared.ask.AdminReply.TheVariants.{Downloaded}
use Rattle.rg_cmd.specs.declared.ask.Ask.{Ask}
use Rattle.rg_cmd.specs.declared.download.Download.{Download}
use Rattle.rg_admin_laws.specs.Logs.{Administration}
use Rattle.rg_admin_laws.specs.Machine.{download_ask, versions}
use Rattle.rg_admin_laws.specs.Starts.{IsStart}
use Rattle.rg_admin_laws.specs.Steps.{step}
use Rattle.rg_admin_laws.specs.Views.{view}
use Rattle.rg_publish.specs.Passes.{Seeing, new_pass}
use Rattle.rg_publish.specs.Publications.{Published as Shown, publication}
use Rattle.rg_publish.specs.declared.history.Publication.{Publication}
use Rattle.rg_session.specs.Refreshing.{HasDownloaded, HasRefreshed, Publishes}
use Rattle.rg_session.specs.Right.{AreDownloadedFor, AreRightFor}
use Rattle.rg_session.specs.declared.refresher.Refresh.{Refresh}
use Rattle.rg_serve.specs.Held.{IsFollowing, IsHeld, begun, held}
use Rattle.rg_serve.specs.Opened.{IsAsked, IsRefreshed, Opened, opened}
use Rattle.rg_serve.specs.Trails.{Downloads, Seated}
use Rattle.rg_serve.proofs.Alls.{all_front, all_last}
use Rattle.rg_serve.proofs.Downloading.{no_downloads, published_more, same_start}

abbrev H : Type 0
H = List (Entry Ask AdminReply)

abbrev TurnNow : Type 0
TurnNow = TurnValue Administration

abbrev made : Administration → H → ℕ → List Publication → ℕ → Opened
made a h n l w = record { start = a; history = h; calls = n; published = l; workers = w }

-- ---- the passes' beginning

begun_first : (p : Shown) (first : Publication) → p.list ≡ first ∷ [] → begun p ≡ p
begun_first p first listed = ap (λ (l : List Publication). record { book = p.book; list = l }) (ap (take 1) listed ∙ sym listed)

first_stays : (l more : List Publication) → 1 ≤ length l → take 1 (l ++ more) ≡ take 1 l
first_stays [] more some = absurd (omega (arith, some))
first_stays (p ∷ l) more some = refl

begun_stays : (p q : Shown) → 1 ≤ length p.list → q.book ≡ p.book → IsPrefix p.list q.list → begun q ≡ begun p
begun_stays p q some same more =
    ap (λ b. record { book = b; list = take 1 q.list }) same
    ∙ ap (λ (l : List Publication). record { book = p.book; list = l }) (ap (take 1) (sym more.1) ∙ first_stays p.list more.0 some)

-- ---- the opening

module _ (workers : ℕ) (admin : Administration) (turn : TurnNow) (seat : Seated) (rest : List Seated) (start : turn.start ≡ admin)
    (all : rest ++ seat ∷ [] ≡ replicate (workers + 1) (new_seat turn.turn)) where
  abbrev unused : Seated
  unused = new_seat turn.turn

  abbrev IsUnused : Seated → Type 0
  IsUnused s = s ≡ unused

  each_unused : All IsUnused (rest ++ seat ∷ [])
  each_unused = subst (All IsUnused) (sym all) (All-replicate IsUnused (workers + 1) unused refl)

  seat_unused : seat ≡ unused
  seat_unused = all_last IsUnused rest seat each_unused

  pub many : length rest ≡ workers
  many = omega (arith, length-append rest (seat ∷ []), ap length all, length-replicate (workers + 1) unused)

  pub opened_held : (service : List ℕ) (p : Shown) (passes : List Seeing) (watching : Seeing) → IsStart admin → (1 ≤ workers) × (workers ≤ 64) → turn.seats ≡ workers + 1 → service ≡ admin.state.plugin
      → ((h : H) → AreRightFor admin h p.list) → ((a : Administration) (h : H) (q : Publication) → AreDownloadedFor a h (q ∷ [])) → (first : Publication) → p.list ≡ first ∷ [] → passes ++ watching ∷ [] ≡ replicate (workers + 1) (new_pass p) → IsHeld turn seat service p rest passes
  opened_held service p passes watching starts some seats serves right alone first listed passes_are =
      let IsNew : Seeing → Type 0 = λ q. q ≡ new_pass (begun p) in
      let each_new : All IsNew (passes ++ watching ∷ []) = subst (All IsNew) (sym passes_are) (All-replicate IsNew (workers + 1) (new_pass p) (ap new_pass (sym (begun_first p first listed)))) in record {
        seated = ap (λ (s : Seated). s.turn) seat_unused;
        others = all_front IsUnused rest seat each_unused;
        all = omega (arith, many, seats);
        some = omega (arith, many, some.0);
        few = omega (arith, many, some.1);
        pairs = omega (arith, many, length-append passes (watching ∷ []), ap length passes_are, length-replicate (workers + 1) (new_pass p));
        counted = omega (arith, ap (λ (s : Seated). length s.calls) seat_unused);
        starts = subst IsStart (sym start) starts;
        serves = serves ∙ ap (λ (a : Administration). a.state.plugin) (sym start);
        right = subst (λ (a : Administration). AreRightFor a seat.history p.list) (sym start) (right seat.history);
        made = subst (λ (l : List Publication). AreDownloadedFor turn.start seat.history l) (sym listed) (alone turn.start seat.history first);
        first = omega (arith, ap length listed);
        reads = all_front IsNew passes watching each_new;
      }

  pub opened_is : (list : List Publication) → ((f : Facts) × (view admin admin.state.plugin ≡ Some f) × (list ≡ publication 1 0 f ∷ [])) → opened workers admin ≡ Some (held turn seat list rest)
  opened_is list (f, viewed, listed) =
      ap (option_map (λ (facts : Facts). made admin [] 0 (publication 1 0 facts ∷ []) workers)) viewed
      ∙ ap Some (sym (
      ap (λ (s : Seated). held turn s list rest) seat_unused
      ∙ ap (λ a. made a [] 0 list (length rest)) start
      ∙ ap (λ l. made admin [] 0 l (length rest)) listed
      ∙ ap (made admin [] 0 (publication 1 0 f ∷ [])) many
      ))

-- ---- a call

-- what the turn's law says of a reply
abbrev pub Replies : Type 0
Replies = (s : Administration) (h : H) (e : Entry Ask AdminReply) → IsLegal step s (h ++ e ∷ []) → (step (state_after step s h) e.ask).1 ≡ e.reply

module _ (before after : Seated) (ask : Ask) (reply : AdminReply) (counted : length before.calls ≤ length before.history) (called : IsCalled before ask reply after) where
  abbrev e : Entry Ask AdminReply
  e = entry ask reply

  once_more : length after.calls ≡ length before.calls + 1
  once_more = omega (arith, ap length called.3, length-append before.calls (length called.0 ∷ []))

  longer : length after.history ≡ length called.0 + 1
  longer = omega (arith, ap length called.1, length-append called.0 (e ∷ []))

  pub still_counted : length after.calls ≤ length after.history
  still_counted = omega (arith, counted, once_more, longer, begins_length before.history called.0 called.2)

  module _ (alone : length after.history ≡ length after.calls) where
    between : before.history ≡ called.0
    between = begins_whole before.history called.0 called.2 (omega (arith, alone, once_more, longer, counted))

    pub was_alone : length before.history ≡ length before.calls
    was_alone = omega (arith, ap length between, alone, once_more, longer)

    pub whole : after.history ≡ before.history ++ e ∷ []
    whole = called.1 ∙ ap (λ (z : H). z ++ e ∷ []) (sym between)

  module _ (turn : TurnNow) (seats : List Seated) (list : List Publication) where
    pub called_later : (list' : List Publication) → held turn after list' seats ≡ record (held turn before list seats) { history = after.history; calls = length before.calls + 1; published = list' }
    called_later list' = ap (λ n. record { start = turn.start; history = after.history; calls = n; published = list'; workers = length seats }) once_more

    pub asked : Replies → IsLegal step turn.start after.history → IsAsked (held turn before list seats) ask reply (held turn after list seats)
    asked replies legal = record {
      later = called_later list;
      alone = λ alone. (was_alone alone, sym (replies turn.start before.history e (subst (IsLegal step turn.start) (whole alone) legal)), whole alone);
    }

-- ---- a refresh

module _ (before after : Seated) (service : List ℕ) (list list' : List Publication) (n : ℕ) (refresh : Refresh) (turn : TurnNow) (seats : List Seated)
    (counted : length before.calls ≤ length before.history) (serves : service ≡ turn.start.state.plugin) (first : n ≡ length before.calls)
    (downloaded : HasDownloaded before service list after n) (has : HasRefreshed turn.start after.history n list refresh list') where
  abbrev p : Publication
  p = downloaded.0

  abbrev d : Download
  d = downloaded.2.0

  abbrev ask : Ask
  ask = download_ask service (versions p.facts)

  abbrev call : IsCalled before ask (Downloaded d) after
  call = downloaded.2.1

  alone_now : length after.history ≡ length after.calls
  alone_now = omega (arith, downloaded.2.2, first, once_more before after ask (Downloaded d) counted call)

  alone_before : length before.history ≡ length before.calls
  alone_before = was_alone before after ask (Downloaded d) counted call alone_now

  at : n ≡ length before.history
  at = first ∙ sym alone_before

  same_ask : ask ≡ download_ask turn.start.state.plugin (versions has.newest.facts)
  same_ask =
      ap (λ (s : List ℕ). download_ask s (versions p.facts)) serves
      ∙ ap (λ (q : Publication). download_ask turn.start.state.plugin (versions q.facts)) (same_Some p has.newest (sym downloaded.1 ∙ has.last))

  pub refreshed : IsRefreshed (held turn before list seats) refresh (held turn after list' seats)
  refreshed = record {
    later = called_later before after ask (Downloaded d) counted call turn seats list list';
    before = alone_before;
    after = alone_now;
    published = record {
      newest = has.newest;
      last = has.last;
      present = has.present;
      viewed = subst (λ k. view (state_at step turn.start after.history k) turn.start.state.plugin ≡ Some has.present) at has.viewed;
      unchanged = has.unchanged;
      list = subst (λ k. Publishes k has.present list refresh list') at has.list;
    };
    document = d;
    history = whole before after ask (Downloaded d) counted call alone_now ∙ ap (λ (a : Ask). before.history ++ entry a (Downloaded d) ∷ []) same_ask;
  }

  pub refreshed_held : (p p' : Shown) (passes : List Seeing) → p.list ≡ list → p'.list ≡ list' → IsHeld turn before service p seats passes → (after.turn ≡ before.turn) × (p'.book ≡ p.book)
      → (service' : List ℕ) → service' ≡ service → AreRightFor turn.start after.history p'.list → AreDownloadedFor turn.start after.history p'.list → IsHeld turn after service' p' seats passes
  refreshed_held p p' passes was is at same service' served right made =
      let more : IsPrefix p.list p'.list = subst (λ (l : List Publication). IsPrefix l p'.list) (sym was) (subst (λ (l : List Publication). IsPrefix list l) (sym is) (published_more n has.present list refresh list' has.list)) in
      let stays = begun_stays p p' at.first same.1 more in record {
        seated = same.0 ∙ at.seated;
        others = at.others;
        all = at.all;
        some = at.some;
        few = at.few;
        pairs = at.pairs;
        counted = still_counted before after ask (Downloaded d) counted call;
        starts = at.starts;
        serves = served ∙ at.serves;
        right = right;
        made = made;
        first = omega (arith, at.first, begins_length p.list p'.list more);
        reads = subst (λ (b : Shown). All (λ (q : Seeing). q ≡ new_pass b) passes) (sym stays) at.reads;
      }

-- ---- the names of what is served

-- the refresher as it was held, under the names of the turn and the publisher
pub first_following : (t : TurnNow) (name : TurnName Administration) (opening p : Shown) (before seat : Seated) (list : List Publication) (service : List ℕ) (seats : List Seated) (passes : List Seeing)
    → t.turn.start ≡ Some t.start → t.turn ≡ name → opening ≡ begun p → seat ≡ before → p.list ≡ list → IsHeld t seat service p seats passes
    → IsFollowing name opening.book before list seat service p false
first_following t name opening p before seat list service seats passes started named opens begins lists at =
    let from : (x : Administration) → name.start ≡ Some x → Some t.start ≡ Some x = λ x is. sym started ∙ (ap (λ (n : TurnName Administration). n.start) named ∙ is) in record {
      seated = at.seated ∙ named;
      published_by = sym (ap (λ (o : Shown). o.book) opens);
      serves = λ x is. at.serves ∙ ap (λ (a : Administration). a.state.plugin) (same_Some t.start x (from x is));
      right = λ x is. same_start (λ (a : Administration). AreRightFor a seat.history p.list) t.start x (from x is) at.right;
      made = λ x is. same_start (λ (a : Administration). AreDownloadedFor a seat.history p.list) t.start x (from x is) at.made;
      begins = subst (λ (s : Seated). IsPrefix s.history seat.history) begins (begins_self seat.history);
      more = subst (λ (l : List Publication). IsPrefix l p.list) lists (begins_self p.list);
      downloads = λ _. subst (λ (s : Seated). Downloads seat.history service s seat) begins (no_downloads seat.history service seat);
    }
