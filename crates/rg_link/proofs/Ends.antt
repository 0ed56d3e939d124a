-- Where the loop of a session stands, from its start to its ends.
use Rattle.std.proofs.Common.{◌≡◌, ◌≤◌, ◌<◌, ◌+◌, ◌-◌, inl, inr, ℕ, zero, suc, List, [], ◌∷◌, ◌++◌, length, Option, Bool, true, false, refl, sym, ap, ◌∙◌, subst, arith, append-nil, length-append}
use Rattle.std.specs.Prelude.{MatchBool}
use mathlib.Core.List.{IsPrefix}
use Rattle.rg_base.specs.declared.numbers.Moment.{Moment}
use Rattle.rg_http.specs.declared.message.Message.{Message}
use Rattle.rg_http.specs.declared.message.Response.{Response}
use Rattle.rg_http.specs.declared.message.End.{End}
use Rattle.rg_http.specs.declared.message.End.TheVariants.{Ended, Full}
use Rattle.rg_http.specs.Framing.{HasMessage}
use Rattle.rg_http.specs.Answers.{IsRead, Wrote}
use Rattle.rg_http.specs.Messages.{Messages, Stops}
use Rattle.rg_http.specs.Print.{response_text}
use Rattle.rg_link.specs.Answers.{Answers, end_text, texts}
use Rattle.rg_link.specs.Audits.{AreAudited}
use Rattle.rg_link.specs.Coming.{BreaksOff}
use Rattle.rg_link.specs.Loop.{Going, IsAnswered, IsServed, IsUnanswered, StayOpen, Unserved}
use Rattle.rg_link.specs.Sessions.{Broken, Fronts, IsCause, IsTail, MayHaveRun, Served, Wire, message_limit}
use Rattle.rg_link.specs.Workers.{Leads, Worker}
use Rattle.rg_http.proofs.Sparing.{read_more, read_none}
use Rattle.rg_http.proofs.Written.{wrote_more, wrote_none}
use Rattle.rg_link.proofs.Unwritten.{off_at_once}
use Rattle.rg_link.proofs.Steps.{answers_more, answers_pubs, audited_none, audited_trans, begins_append, begins_refl, enriched_trans, leads_refl, leads_trans, texts_more}

-- ---- bytes read

-- what is judged stays judged
abbrev pub Law : Type 0
Law = (bytes more : List ℕ) (m : Message) (rest : List ℕ) → HasMessage bytes m rest → HasMessage (bytes ++ more) m (rest ++ more)

pub fronts_grow : Law → (bytes more : List ℕ) (ms : List Message) (rest : List ℕ) → Fronts bytes ms rest → Fronts (bytes ++ more) ms (rest ++ more)
fronts_grow law bytes more [] rest x = ap (λ b. b ++ more) x
fronts_grow law bytes more (m ∷ ms) rest x = (x.0 ++ more, law bytes more m x.0 x.1, fronts_grow law x.0 more ms rest x.2)

pub fronts_more : (bytes : List ℕ) (ms : List Message) (r : List ℕ) (m : Message) (next : List ℕ) → Fronts bytes ms r → HasMessage r m next → Fronts bytes (ms ++ m ∷ []) next
fronts_more bytes [] r m next x y = (next, subst (λ b. HasMessage b m next) (sym x) y, refl)
fronts_more bytes (k ∷ ms) r m next x y = (x.0, x.1, fronts_more x.0 ms r m next x.2 y)

pub stay_more : (ms : List Message) (m : Message) → StayOpen ms → m.close ≡ false → StayOpen (ms ++ m ∷ [])
stay_more [] m x e = (e, tt {0})
stay_more (k ∷ ms) m x e = (x.0, stay_more ms m x.1 e)

goes_open : (close : Bool) (P Q : Type 0) → close ≡ false → Q → MatchBool close P Q
goes_open true P Q e q = absurd (cc)
goes_open false P Q e q = q

goes_shut : (close : Bool) (P Q : Type 0) → close ≡ true → P → MatchBool close P Q
goes_shut true P Q e p = p
goes_shut false P Q e p = absurd (cc)

-- the messages of what follows are those of the whole behind these
messages_join : (most : ℕ) (bytes : List ℕ) (ms : List Message) (rest : List ℕ) (later : List Message) (end : End) → Fronts bytes ms rest → StayOpen ms → length ms ≤ most → Messages (most - length ms) rest later end → Messages most bytes (ms ++ later) end
messages_join most bytes [] rest later end x s l y =
    let e : most - 0 ≡ most = omega arith in
    subst (λ b. Messages most b later end) (sym x) (subst (λ n. Messages n rest later end) e y)
messages_join zero bytes (m ∷ ms) rest later end x s l y = absurd (omega (arith, l))
messages_join (suc most) bytes (m ∷ ms) rest later end x s l y =
    let short : length ms ≤ most = omega (arith, l) in
    let e : suc most - length (m ∷ ms) ≡ most - length ms = omega arith in
    (x.0, x.1, goes_open m.close _ _ s.0 (messages_join most x.0 ms rest later end x.2 s.1 short (subst (λ n. Messages n rest later end) e y)))

-- one of these messages more
one_less : (ms : List Message) → length ms < message_limit → message_limit - length ms ≡ suc (message_limit - (length ms + 1))
one_less ms l = omega arith

pub messages_close : (bytes : List ℕ) (ms : List Message) (rest : List ℕ) (m : Message) (next : List ℕ) → Fronts bytes ms rest → StayOpen ms → length ms < message_limit → HasMessage rest m next → m.close ≡ true → Messages message_limit bytes (ms ++ m ∷ []) Ended
messages_close bytes ms rest m next x s l h c =
    messages_join message_limit bytes ms rest (m ∷ []) Ended x s (omega (arith, l)) (subst (λ n. Messages n rest (m ∷ []) Ended) (sym (one_less ms l)) (next, h, goes_shut m.close _ _ c (refl, refl)))

pub messages_stop : (bytes : List ℕ) (ms : List Message) (rest : List ℕ) (end : End) → Fronts bytes ms rest → StayOpen ms → length ms < message_limit → Stops rest end → Messages message_limit bytes ms end
messages_stop bytes ms rest end x s l y =
    subst (λ k. Messages message_limit bytes k end) (append-nil ms)
    (messages_join message_limit bytes ms rest [] end x s (omega (arith, l)) (subst (λ n. Messages n rest [] end) (sym (one_less ms l)) y))

pub messages_full : (bytes : List ℕ) (ms : List Message) (rest : List ℕ) → Fronts bytes ms rest → StayOpen ms → length ms ≡ message_limit → Messages message_limit bytes ms Full
messages_full bytes ms rest x s l =
    let e : message_limit - length ms ≡ 0 = omega (arith, l) in
    subst (λ k. Messages message_limit bytes k Full) (append-nil ms)
    (messages_join message_limit bytes ms rest [] Full x s (omega (arith, l)) (subst (λ n. Messages n rest [] Full) (sym e) (refl, refl)))

-- ---- the loop

pub going_start : (plugin : List ℕ) (a : Worker) (wire : Wire) → Going plugin a a wire wire [] 0
going_start plugin a wire = record {
  read = [];
  messages = [];
  moments = [];
  own = [];
  decided = [];
  responses = [];
  reads = read_none wire.left;
  fronts = refl;
  stay = tt {0};
  count_is = refl;
  leads = leads_refl a;
  answers = (refl, refl);
  written = wrote_none wire.held;
  enriched = refl;
  audited = audited_none plugin a.sinks a.sinks refl;
}

module _ (plugin : List ℕ) (a b : Worker) (old mid : Wire) (kept : List ℕ) (count : ℕ) (g : Going plugin a b old mid kept count) (law : Law) where
  -- so much more was read
  reads_now : (new : Wire) (more : List ℕ) → IsRead mid.left more new.left → IsRead old.left (g.read ++ more) new.left
  reads_now new more r = read_more old.left mid.left new.left g.read more g.reads r

  fronts_now : (more : List ℕ) → Fronts (g.read ++ more) g.messages (kept ++ more)
  fronts_now more = fronts_grow law g.read more g.messages kept g.fronts

  answers_now : (c : Worker) (m : Message) (r : Response) (x : IsAnswered plugin b c m r) → Answers plugin c.pass.list (g.messages ++ m ∷ []) (g.moments ++ x.moment ∷ []) (g.own ++ x.own) (g.decided ++ x.decided) (g.responses ++ r ∷ [])
  answers_now c m r x =
      answers_more plugin c.pass.list g.messages g.moments g.own g.decided g.responses m x.moment x.own x.decided r x.step
      (answers_pubs plugin b.pass.list c.pass.list g.messages g.moments g.own g.decided g.responses x.leads.list g.answers)

  leads_now : (c : Worker) (m : Message) (r : Response) (x : IsAnswered plugin b c m r) → Leads a c (g.moments ++ x.moment ∷ []) (g.own ++ x.own) (g.decided ++ x.decided)
  leads_now c m r x = leads_trans a b c g.moments (x.moment ∷ []) g.own x.own g.decided x.decided g.leads x.leads

  written_now : (held : Option (List ℕ)) (r : Response) → Wrote mid.held held (response_text r) → Wrote old.held held (texts (g.responses ++ r ∷ []))
  written_now held r w = subst (Wrote old.held held) (sym (texts_more g.responses r)) (wrote_more old.held mid.held held (texts g.responses) (response_text r) g.written w)

  one_more : (m : Message) → count + 1 ≡ length (g.messages ++ m ∷ [])
  one_more m = let e = length-append g.messages (m ∷ []) in omega (arith, e, g.count_is)

  below : count < message_limit → length g.messages < message_limit
  below l = omega (arith, g.count_is, l)

  pub going_more : (c : Worker) (new : Wire) (more rest : List ℕ) (m : Message) → IsRead mid.left more new.left → HasMessage (kept ++ more) m rest → IsServed plugin b c mid.held new.held m → m.close ≡ false → Going plugin a c old new rest (count + 1)
  going_more c new more rest m r h s stays =
      let x = s.answered in
      record {
        read = g.read ++ more;
        messages = g.messages ++ m ∷ [];
        moments = g.moments ++ x.moment ∷ [];
        own = g.own ++ x.own;
        decided = g.decided ++ x.decided;
        responses = g.responses ++ s.response ∷ [];
        reads = reads_now new more r;
        fronts = fronts_more (g.read ++ more) g.messages (kept ++ more) m rest (fronts_now more) h;
        stay = stay_more g.messages m g.stay stays;
        count_is = one_more m;
        leads = leads_now c m s.response x;
        answers = answers_now c m s.response x;
        written = written_now new.held s.response s.written;
        enriched = enriched_trans a.enrichers g.decided x.decided b.enrichers c.enrichers g.enriched x.enriched;
        audited = audited_trans plugin g.decided x.decided a.sinks b.sinks c.sinks g.audited s.audited;
      }

  pub served_close : (c : Worker) (new : Wire) (more rest : List ℕ) (m : Message) → IsRead mid.left more new.left → HasMessage (kept ++ more) m rest → IsServed plugin b c mid.held new.held m → m.close ≡ true → count < message_limit → Served plugin a c old new Ended (count + 1)
  served_close c new more rest m r h s shut l =
      let x = s.answered in
      record {
        read = g.read ++ more;
        messages = g.messages ++ m ∷ [];
        moments = g.moments ++ x.moment ∷ [];
        own = g.own ++ x.own;
        decided = g.decided ++ x.decided;
        responses = g.responses ++ s.response ∷ [];
        reads = reads_now new more r;
        are = messages_close (g.read ++ more) g.messages (kept ++ more) m rest (fronts_now more) g.stay (below l) h shut;
        cause = inr (g.messages, m, refl, shut);
        count_is = one_more m;
        leads = leads_now c m s.response x;
        answers = answers_now c m s.response x;
        written = subst (Wrote old.held new.held) (sym (append-nil (texts (g.responses ++ s.response ∷ [])))) (written_now new.held s.response s.written);
        enriched = enriched_trans a.enrichers g.decided x.decided b.enrichers c.enrichers g.enriched x.enriched;
        audited = audited_trans plugin g.decided x.decided a.sinks b.sinks c.sinks g.audited s.audited;
      }

  -- nothing but the end is answered any more
  stopped : (new : Wire) (more : List ℕ) (end : End) → IsRead mid.left more new.left → Messages message_limit (g.read ++ more) g.messages end → IsCause end new.ended g.messages → Wrote mid.held new.held (end_text end) → Served plugin a b old new end count
  stopped new more end r are cause w = record {
    read = g.read ++ more;
    messages = g.messages;
    moments = g.moments;
    own = g.own;
    decided = g.decided;
    responses = g.responses;
    reads = reads_now new more r;
    are = are;
    cause = cause;
    count_is = g.count_is;
    leads = g.leads;
    answers = g.answers;
    written = wrote_more old.held mid.held new.held (texts g.responses) (end_text end) g.written w;
    enriched = g.enriched;
    audited = g.audited;
  }

  pub served_over : (new : Wire) (more : List ℕ) (end : End) → IsRead mid.left more new.left → Stops (kept ++ more) end → ((ms : List Message) → IsCause end new.ended ms) → Wrote mid.held new.held (end_text end) → count < message_limit → Served plugin a b old new end count
  served_over new more end r stops cause w l =
      stopped new more end r (messages_stop (g.read ++ more) g.messages (kept ++ more) end (fronts_now more) g.stay (below l) stops) (cause g.messages) w

  pub served_full : count ≡ message_limit → Served plugin a b old mid Full count
  served_full l =
      stopped mid [] Full (read_none mid.left) (messages_full (g.read ++ []) g.messages (kept ++ []) (fronts_now []) g.stay (sym g.count_is ∙ l)) (tt {0}) (wrote_none mid.held)

  -- nothing was answered since
  broken_idle : (c : Worker) (new : Wire) (more rest : List ℕ) (unused : List Moment) (tail part : List ℕ) → Fronts (g.read ++ more) g.messages rest → IsRead mid.left more new.left → Leads b c unused [] [] → length unused ≤ 1 → IsTail [] rest tail → Wrote mid.held new.held part → IsPrefix part tail
      → MayHaveRun b.enrichers c.enrichers → c.sinks ≡ b.sinks → Broken plugin a c old new
  broken_idle c new more rest unused tail part fronts r x short behind w begun run sinks = record {
    read = g.read ++ more;
    messages = g.messages;
    rest = rest;
    moments = g.moments;
    unused = unused;
    own = g.own;
    decided = g.decided;
    audited = g.decided;
    whole = g.responses;
    last = [];
    tail = tail;
    part = part;
    ran = b.enrichers;
    reads = reads_now new more r;
    fronts = fronts;
    leads = subst (λ o. Leads a c (g.moments ++ unused) o g.decided) (append-nil g.own)
        (subst (λ d. Leads a c (g.moments ++ unused) (g.own ++ []) d) (append-nil g.decided) (leads_trans a b c g.moments unused g.own [] g.decided [] g.leads x));
    answers = subst (Answers plugin c.pass.list g.messages g.moments g.own g.decided) (sym (append-nil g.responses))
        (answers_pubs plugin b.pass.list c.pass.list g.messages g.moments g.own g.decided g.responses x.list g.answers);
    one = omega arith;
    none_more = short;
    behind = behind;
    written = wrote_more old.held mid.held new.held (texts g.responses) part g.written w;
    begun = begun;
    enriched = g.enriched;
    run = run;
    first = begins_refl g.decided;
    lines = subst (AreAudited plugin g.decided a.sinks) (sym sinks) g.audited;
  }

  pub broken_off : (new : Wire) (more : List ℕ) → IsRead mid.left more new.left → BreaksOff (kept ++ more) mid.held new.held → Broken plugin a b old new
  broken_off new more r x =
      broken_idle b new more (kept ++ more) [] x.0 x.1 (fronts_now more) r (leads_refl b) (omega arith) x.2 x.3 x.4 (inl refl) refl

  -- the message has no answer
  broken_unanswered : (c : Worker) (new : Wire) (more rest : List ℕ) (m : Message) → IsRead mid.left more new.left → HasMessage (kept ++ more) m rest → IsUnanswered b c → Wrote mid.held new.held [] → c.sinks ≡ b.sinks → Broken plugin a c old new
  broken_unanswered c new more rest m r h u w sinks =
      broken_idle c new more (kept ++ more) (u.moment ∷ []) [] [] (fronts_now more) r u.leads (omega arith) (inl refl) w (begins_refl []) u.run sinks

  -- the message's answer isn't whole, or its decision isn't audited
  broken_within : (c : Worker) (new : Wire) (more rest : List ℕ) (m : Message) (response : Response) (part : List ℕ) → IsRead mid.left more new.left → HasMessage (kept ++ more) m rest → IsAnswered plugin b c m response → Wrote mid.held new.held part → IsPrefix part (response_text response) → c.sinks ≡ b.sinks → Broken plugin a c old new
  broken_within c new more rest m response part r h x w begun sinks = record {
    read = g.read ++ more;
    messages = g.messages ++ m ∷ [];
    rest = rest;
    moments = g.moments ++ x.moment ∷ [];
    unused = [];
    own = g.own ++ x.own;
    decided = g.decided ++ x.decided;
    audited = g.decided;
    whole = g.responses;
    last = response ∷ [];
    tail = [];
    part = part;
    ran = c.enrichers;
    reads = reads_now new more r;
    fronts = fronts_more (g.read ++ more) g.messages (kept ++ more) m rest (fronts_now more) h;
    leads = subst (λ t. Leads a c t (g.own ++ x.own) (g.decided ++ x.decided)) (sym (append-nil (g.moments ++ x.moment ∷ []))) (leads_now c m response x);
    answers = answers_now c m response x;
    one = omega arith;
    none_more = omega arith;
    behind = inl refl;
    written = wrote_more old.held mid.held new.held (texts g.responses) part g.written w;
    begun = subst (IsPrefix part) (sym (append-nil (response_text response ++ []) ∙ append-nil (response_text response))) begun;
    enriched = enriched_trans a.enrichers g.decided x.decided b.enrichers c.enrichers g.enriched x.enriched;
    run = inl refl;
    first = begins_append g.decided x.decided;
    lines = subst (AreAudited plugin g.decided a.sinks) (sym sinks) g.audited;
  }

  pub broken_unserved : (c : Worker) (new : Wire) (more rest : List ℕ) (m : Message) → IsRead mid.left more new.left → HasMessage (kept ++ more) m rest → Unserved plugin b c mid.held new.held m → Broken plugin a c old new
  broken_unserved c new more rest m r h u = elim (u.1) [ inl x ↦ broken_unanswered c new more rest m r h x.0 x.1 u.0 | inr x ↦ broken_within c new more rest m x.0 x.1 r h x.2 x.3 x.4 u.0 ]

pub never_began : (plugin : List ℕ) (law : Law) (a : Worker) (wire : Wire) → Broken plugin a a wire wire
never_began plugin law a wire = broken_off plugin a a wire wire [] 0 (going_start plugin a wire) law wire [] (read_none wire.left) (off_at_once [] wire.held wire.held refl)
