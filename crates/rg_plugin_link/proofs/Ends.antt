-- Where the loop of a session stands, from its start to its ends.
use Rattle.std.proofs.Common.{◌≡◌, ◌≤◌, ◌<◌, ◌+◌, inl, inr, ℕ, List, [], ◌∷◌, ◌++◌, length, true, false, refl, sym, ◌∙◌, ap, subst, arith, append-nil, length-append}
use Rattle.std.proofs.lemmas.List.{length-map}
use Rattle.std.proofs.lemmas.List.Elements.{All-nil}
use mathlib.Core.List.{IsPrefix}
use Rattle.rg_base.specs.declared.numbers.Moment.{Moment}
use Rattle.rg_http.specs.declared.message.Message.{Message}
use Rattle.rg_http.specs.declared.message.End.{End}
use Rattle.rg_http.specs.declared.message.End.TheVariants.{Ended, Full}
use Rattle.rg_http.specs.Answers.{IsRead, Wrote}
use Rattle.rg_http.specs.Framing.{HasMessage}
use Rattle.rg_http.specs.Messages.{Messages, Stops}
use Rattle.rg_http.specs.Print.{response_text}
use Rattle.rg_http.proofs.Sparing.{read_more, read_none}
use Rattle.rg_http.proofs.Written.{wrote_more, wrote_none}
use Rattle.rg_link.specs.Answers.{end_text, texts}
use Rattle.rg_link.specs.Audits.{AreAudited, AreEnriched}
use Rattle.rg_link.specs.Coming.{BreaksOff}
use Rattle.rg_link.specs.Loop.{StayOpen}
use Rattle.rg_link.specs.Sessions.{Fronts, IsCause, IsTail, MayHaveRun, Wire, message_limit}
use Rattle.rg_link.proofs.Unwritten.{off_at_once}
use Rattle.rg_link.proofs.Ends.{Law, fronts_grow, fronts_more, messages_close, messages_full, messages_stop, stay_more}
use Rattle.rg_link.proofs.Steps.{audited_none, audited_trans, begins_append, begins_refl, enriched_trans}
use Rattle.rg_plugin_link.specs.Exchanges.{AreRight, Decider, Exchange, IsRight, Leads, decided, messages, moments, responses}
use Rattle.rg_plugin_link.specs.Loop.{Going, IsExchanged, IsServed, IsUnanswered, Unserved}
use Rattle.rg_plugin_link.specs.Sessions.{Broken, Served}
use Rattle.rg_plugin_link.proofs.Exchanges.{all_stay, decided_one, leads_more, leads_refl, leads_unused, messages_more, responses_text, right_more}

pub going_start : (plugin : List ℕ) (a : Decider) (wire : Wire) → Going plugin a a wire wire [] 0
going_start plugin a wire = record {
  read = [];
  exchanges = [];
  reads = read_none wire.left;
  fronts = refl;
  stay = tt {0};
  count_is = refl;
  right = All-nil (IsRight plugin a.pass.list);
  leads = leads_refl a;
  written = wrote_none wire.held;
  enriched = refl;
  audited = audited_none plugin a.sinks a.sinks refl;
}

-- behind these exchanges comes none
by_itself : (P : List Exchange → Type 0) (xs : List Exchange) → P xs → P (xs ++ [])
by_itself P xs x = subst P (sym (append-nil xs)) x

module _ (plugin : List ℕ) (a b : Decider) (old mid : Wire) (kept : List ℕ) (count : ℕ) (g : Going plugin a b old mid kept count) (law : Law) where
  -- so much more was read
  reads_now : (new : Wire) (more : List ℕ) → IsRead mid.left more new.left → IsRead old.left (g.read ++ more) new.left
  reads_now new more r = read_more old.left mid.left new.left g.read more g.reads r

  fronts_now : (more : List ℕ) → Fronts (g.read ++ more) (messages g.exchanges) (kept ++ more)
  fronts_now more = fronts_grow law g.read more (messages g.exchanges) kept g.fronts

  below : count < message_limit → length (messages g.exchanges) < message_limit
  below l = let e = length-map g.exchanges (λ (x : Exchange). x.message) in omega (arith, g.count_is, l, e)

  -- ---- one exchange more

  messages_now : (m : Message) (x : Exchange) → x.message ≡ m → messages (g.exchanges ++ x ∷ []) ≡ messages g.exchanges ++ m ∷ []
  messages_now m x e = messages_more g.exchanges x ∙ ap (λ k. messages g.exchanges ++ k ∷ []) e

  fronts_one : (more rest : List ℕ) (m : Message) (x : Exchange) → x.message ≡ m → HasMessage (kept ++ more) m rest → Fronts (g.read ++ more) (messages (g.exchanges ++ x ∷ [])) rest
  fronts_one more rest m x e h =
      subst (λ ms. Fronts (g.read ++ more) ms rest) (sym (messages_now m x e)) (fronts_more (g.read ++ more) (messages g.exchanges) (kept ++ more) m rest (fronts_now more) h)

  right_now : (c : Decider) (m : Message) (x : Exchange) → IsExchanged plugin b c m x → AreRight plugin c.pass.list (g.exchanges ++ x ∷ [])
  right_now c m x e = right_more plugin b.pass.list c.pass.list g.exchanges x e.leads.list g.right e.right

  leads_now : (c : Decider) (m : Message) (x : Exchange) → IsExchanged plugin b c m x → Leads a c (moments (g.exchanges ++ x ∷ [])) (decided (g.exchanges ++ x ∷ []))
  leads_now c m x e = leads_more a b c g.exchanges x g.leads e.leads

  enriched_now : (c : Decider) (m : Message) (x : Exchange) → IsExchanged plugin b c m x → AreEnriched a.enrichers (decided (g.exchanges ++ x ∷ [])) c.enrichers
  enriched_now c m x e =
      subst (λ ds. AreEnriched a.enrichers ds c.enrichers) (sym (decided_one g.exchanges x)) (enriched_trans a.enrichers (decided g.exchanges) x.decided b.enrichers c.enrichers g.enriched e.enriched)

  audited_now : (c : Decider) (x : Exchange) → AreAudited plugin x.decided b.sinks c.sinks → AreAudited plugin (decided (g.exchanges ++ x ∷ [])) a.sinks c.sinks
  audited_now c x e =
      subst (λ ds. AreAudited plugin ds a.sinks c.sinks) (sym (decided_one g.exchanges x)) (audited_trans plugin (decided g.exchanges) x.decided a.sinks b.sinks c.sinks g.audited e)

  written_now : (new : Wire) (x : Exchange) → Wrote mid.held new.held (response_text x.response) → Wrote old.held new.held (texts (responses (g.exchanges ++ x ∷ [])))
  written_now new x w =
      subst (Wrote old.held new.held) (sym (responses_text g.exchanges x)) (wrote_more old.held mid.held new.held (texts (responses g.exchanges)) (response_text x.response) g.written w)

  count_now : (x : Exchange) → count + 1 ≡ length (g.exchanges ++ x ∷ [])
  count_now x = let e = length-append g.exchanges (x ∷ []) in omega (arith, e, g.count_is)

  pub going_more : (c : Decider) (new : Wire) (more rest : List ℕ) (m : Message) → IsRead mid.left more new.left → HasMessage (kept ++ more) m rest → IsServed plugin b c mid.held new.held m → m.close ≡ false → Going plugin a c old new rest (count + 1)
  going_more c new more rest m r h s stays =
      let x = s.exchange in
      let e = s.exchanged in
      record {
        read = g.read ++ more;
        exchanges = g.exchanges ++ x ∷ [];
        reads = reads_now new more r;
        fronts = fronts_one more rest m x e.message h;
        stay = subst StayOpen (sym (messages_now m x e.message)) (stay_more (messages g.exchanges) m g.stay stays);
        count_is = count_now x;
        right = right_now c m x e;
        leads = leads_now c m x e;
        written = written_now new x s.written;
        enriched = enriched_now c m x e;
        audited = audited_now c x s.audited;
      }

  pub served_close : (c : Decider) (new : Wire) (more rest : List ℕ) (m : Message) → IsRead mid.left more new.left → HasMessage (kept ++ more) m rest → IsServed plugin b c mid.held new.held m → m.close ≡ true → count < message_limit → Served plugin a c old new Ended (count + 1)
  served_close c new more rest m r h s shut l =
      let x = s.exchange in
      let e = s.exchanged in
      let now = messages_now m x e.message in
      record {
        read = g.read ++ more;
        exchanges = g.exchanges ++ x ∷ [];
        reads = reads_now new more r;
        are = subst (λ ms. Messages message_limit (g.read ++ more) ms Ended) (sym now) (messages_close (g.read ++ more) (messages g.exchanges) (kept ++ more) m rest (fronts_now more) g.stay (below l) h shut);
        cause = inr (messages g.exchanges, m, now, shut);
        count_is = count_now x;
        right = right_now c m x e;
        leads = leads_now c m x e;
        written = subst (Wrote old.held new.held) (sym (append-nil (texts (responses (g.exchanges ++ x ∷ []))))) (written_now new x s.written);
        enriched = enriched_now c m x e;
        audited = audited_now c x s.audited;
      }

  -- ---- nothing but the end is answered any more

  ended : (new : Wire) (more : List ℕ) (end : End) → IsRead mid.left more new.left → Messages message_limit (g.read ++ more) (messages g.exchanges) end → IsCause end new.ended (messages g.exchanges) → Wrote mid.held new.held (end_text end) → Served plugin a b old new end count
  ended new more end r are cause w = record {
    read = g.read ++ more;
    exchanges = g.exchanges;
    reads = reads_now new more r;
    are = are;
    cause = cause;
    count_is = g.count_is;
    right = g.right;
    leads = g.leads;
    written = wrote_more old.held mid.held new.held (texts (responses g.exchanges)) (end_text end) g.written w;
    enriched = g.enriched;
    audited = g.audited;
  }

  pub served_over : (new : Wire) (more : List ℕ) (end : End) → IsRead mid.left more new.left → Stops (kept ++ more) end → ((ms : List Message) → IsCause end new.ended ms) → Wrote mid.held new.held (end_text end) → count < message_limit → Served plugin a b old new end count
  served_over new more end r stops cause w l =
      ended new more end r (messages_stop (g.read ++ more) (messages g.exchanges) (kept ++ more) end (fronts_now more) g.stay (below l) stops) (cause (messages g.exchanges)) w

  pub served_full : count ≡ message_limit → Served plugin a b old mid Full count
  served_full l =
      let full : length (messages g.exchanges) ≡ message_limit = length-map g.exchanges (λ (x : Exchange). x.message) ∙ sym g.count_is ∙ l in
      ended mid [] Full (read_none mid.left) (messages_full (g.read ++ []) (messages g.exchanges) (kept ++ []) (fronts_now []) g.stay full) (tt {0}) (wrote_none mid.held)

  -- ---- the session breaks off

  -- no message was answered since
  broken_idle : (c : Decider) (new : Wire) (more : List ℕ) (unused : List Moment) (tail part : List ℕ) → IsRead mid.left more new.left → Leads b c unused [] → length unused ≤ 1 → IsTail [] (kept ++ more) tail → Wrote mid.held new.held part → IsPrefix part tail
      → MayHaveRun b.enrichers c.enrichers → c.sinks ≡ b.sinks → Broken plugin a c old new
  broken_idle c new more unused tail part r x short behind w begun run sinks = record {
    read = g.read ++ more;
    whole = g.exchanges;
    last = [];
    rest = kept ++ more;
    unused = unused;
    audited = decided g.exchanges;
    tail = tail;
    part = part;
    ran = b.enrichers;
    reads = reads_now new more r;
    fronts = by_itself (λ xs. Fronts (g.read ++ more) (messages xs) (kept ++ more)) g.exchanges (fronts_now more);
    right = by_itself (AreRight plugin c.pass.list) g.exchanges (all_stay plugin b.pass.list c.pass.list g.exchanges x.list g.right);
    leads = by_itself (λ xs. Leads a c (moments xs ++ unused) (decided xs)) g.exchanges (leads_unused a b c g.exchanges unused g.leads x);
    one = omega arith;
    none_more = short;
    behind = behind;
    written = wrote_more old.held mid.held new.held (texts (responses g.exchanges)) part g.written w;
    begun = begun;
    enriched = by_itself (λ xs. AreEnriched a.enrichers (decided xs) b.enrichers) g.exchanges g.enriched;
    run = run;
    first = by_itself (λ xs. IsPrefix (decided g.exchanges) (decided xs)) g.exchanges (begins_refl (decided g.exchanges));
    lines = subst (AreAudited plugin (decided g.exchanges) a.sinks) (sym sinks) g.audited;
  }

  pub broken_off : (new : Wire) (more : List ℕ) → IsRead mid.left more new.left → BreaksOff (kept ++ more) mid.held new.held → Broken plugin a b old new
  broken_off new more r x = broken_idle b new more [] x.0 x.1 r (leads_refl b) (omega arith) x.2 x.3 x.4 (inl refl) refl

  -- the message has no answer
  broken_unanswered : (c : Decider) (new : Wire) (more : List ℕ) → IsRead mid.left more new.left → IsUnanswered b c → Wrote mid.held new.held [] → c.sinks ≡ b.sinks → Broken plugin a c old new
  broken_unanswered c new more r u w sinks = broken_idle c new more (u.moment ∷ []) [] [] r u.leads (omega arith) (inl refl) w (begins_refl []) u.run sinks

  -- the message's answer isn't whole, or its decision isn't audited
  broken_within : (c : Decider) (new : Wire) (more rest : List ℕ) (m : Message) (x : Exchange) (part : List ℕ) → IsRead mid.left more new.left → HasMessage (kept ++ more) m rest → IsExchanged plugin b c m x → Wrote mid.held new.held part → IsPrefix part (response_text x.response) → c.sinks ≡ b.sinks
      → Broken plugin a c old new
  broken_within c new more rest m x part r h e w begun sinks = record {
    read = g.read ++ more;
    whole = g.exchanges;
    last = x ∷ [];
    rest = rest;
    unused = [];
    audited = decided g.exchanges;
    tail = [];
    part = part;
    ran = c.enrichers;
    reads = reads_now new more r;
    fronts = fronts_one more rest m x e.message h;
    right = right_now c m x e;
    leads = subst (λ ts. Leads a c ts (decided (g.exchanges ++ x ∷ []))) (sym (append-nil (moments (g.exchanges ++ x ∷ [])))) (leads_now c m x e);
    one = omega arith;
    none_more = omega arith;
    behind = inl refl;
    written = wrote_more old.held mid.held new.held (texts (responses g.exchanges)) part g.written w;
    begun = subst (IsPrefix part) (sym (append-nil (response_text x.response ++ []) ∙ append-nil (response_text x.response))) begun;
    enriched = enriched_now c m x e;
    run = inl refl;
    first = subst (IsPrefix (decided g.exchanges)) (sym (decided_one g.exchanges x)) (begins_append (decided g.exchanges) x.decided);
    lines = subst (AreAudited plugin (decided g.exchanges) a.sinks) (sym sinks) g.audited;
  }

  pub broken_unserved : (c : Decider) (new : Wire) (more rest : List ℕ) (m : Message) → IsRead mid.left more new.left → HasMessage (kept ++ more) m rest → Unserved plugin b c mid.held new.held m → Broken plugin a c old new
  broken_unserved c new more rest m r h u = elim (u.1) [ inl x ↦ broken_unanswered c new more r x.0 x.1 u.0 | inr x ↦ broken_within c new more rest m x.0 x.1 r h x.2 x.3 x.4 u.0 ]

pub never_began : (plugin : List ℕ) (law : Law) (a : Decider) (wire : Wire) → Broken plugin a a wire wire
never_began plugin law a wire = broken_off plugin a a wire wire [] 0 (going_start plugin a wire) law wire [] (read_none wire.left) (off_at_once [] wire.held wire.held refl)
