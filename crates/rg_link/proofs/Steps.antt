-- How steps of a session join, over plain lists.
use Rattle.std.proofs.Common.{◌≡◌, ◌≤◌, ◌+◌, ◌-◌, ◌⊎◌, ℕ, zero, suc, List, [], ◌∷◌, ◌++◌, length, map, take, drop, Option, Some, Bool, true, false, cond, slice_get, refl, sym, ap, ◌∙◌, subst, arith, inl, inr, append_assoc, append-nil, length-append}
use Rattle.std.proofs.lemmas.List.{take_all}
use Rattle.std.specs.List.{AllZip, filter}
use Rattle.std.specs.Str.{chars}
use mathlib.Core.List.{IsPrefix}
use Rattle.rg_base.specs.declared.numbers.Moment.{Moment}
use Rattle.rg_policy.specs.declared.request.AccessRequest.{AccessRequest}
use Rattle.rg_facts.specs.declared.decision.Decision.{Decision}
use Rattle.rg_http.specs.declared.message.Message.{Message}
use Rattle.rg_http.specs.declared.message.Response.{Response}
use Rattle.rg_http.specs.Print.{response_text}
use Rattle.rg_ports.specs.Moments.{Told}
use Rattle.rg_cmd.specs.declared.ask.AdminCommand.{AdminCommand}
use Rattle.rg_cmd.specs.declared.ask.AdminReply.{AdminReply}
use Rattle.rg_cmd.specs.declared.ask.Ask.{Ask}
use Rattle.rg_admin_laws.specs.Logs.{Administration}
use Rattle.rg_turn.specs.declared.rule.Entry.{Entry}
use Rattle.rg_turn.specs.Values.{SeatValue}
use Rattle.rg_turn.specs.View.{entry}
use Rattle.rg_publish.specs.declared.history.Publication.{Publication}
use Rattle.rg_publish.specs.Passes.{Seeing, risen}
use Rattle.rg_wire.specs.Printing.{audit_line}
use Rattle.rg_hook.specs.Enriching.{EnricherState, Enriching, HaveRun, enriched}
use Rattle.rg_cmd.specs.declared.download.Part.{Part}
use Rattle.rg_rest.specs.declared.call.Call.{Call}
use Rattle.rg_rest.specs.declared.call.Call.TheVariants.{Admin, Decide, Answer}
use Rattle.rg_rest.specs.Responses.{decision_response}
use Rattle.rg_rest.specs.Routes.{call_of}
use Rattle.rg_link.specs.Answers.{Answers, NothingLeft, Takes, ask_of, texts}
use Rattle.rg_link.specs.Audits.{AfterLines, AreAudited, AreEnriched, Decided, IsDecided, audit_lines}
use Rattle.rg_hook.specs.Told.{IsGiven, SinkState}
use Rattle.rg_link.specs.Loop.{decided, IsAnswered, IsCall, IsJudged, IsServed, IsUncalled, IsUnjudged, Unserved}
use Rattle.rg_http.specs.Answers.{Wrote}
use Rattle.rg_http.proofs.Written.{wrote_none}
use Rattle.rg_link.specs.Workers.{Leads, Rises, Stand, Worker, counted, serials}

-- ---- lists

pub begins_trans : {A : Type 0} (h m k : List A) → IsPrefix h m → IsPrefix m k → IsPrefix h k
begins_trans h m k a b = (a.0 ++ b.0, sym (append_assoc h a.0 b.0) ∙ ap (λ l. l ++ b.0) a.1 ∙ b.1)

pub begins_refl : {A : Type 0} (h : List A) → IsPrefix h h
begins_refl h = ([], append-nil h)

pub begins_append : {A : Type 0} (h k : List A) → IsPrefix h (h ++ k)
begins_append h k = (k, refl)

pub prefix_length : {A : Type 0} (xs ys : List A) → IsPrefix xs ys → length xs ≤ length ys
prefix_length xs ys p = let e : length xs + length p.0 ≡ length ys = sym (length-append xs p.0) ∙ ap length p.1 in omega (arith, e)

get_left : {A : Type 0} (xs ys : List A) (k : ℕ) (x : A) → slice_get xs k ≡ Some x → slice_get (xs ++ ys) k ≡ Some x
get_left [] ys k x e = absurd (cc e)
get_left (y ∷ xs) ys zero x e = e
get_left (y ∷ xs) ys (suc k) x e = get_left xs ys k x e

get_more : {A : Type 0} (xs ys : List A) (k : ℕ) (x : A) → IsPrefix xs ys → slice_get xs k ≡ Some x → slice_get ys k ≡ Some x
get_more xs ys k x p e = subst (λ l. slice_get l k ≡ Some x) p.1 (get_left xs p.0 k x e)

pub get_seam : {A : Type 0} (xs : List A) (y : A) → slice_get (xs ++ y ∷ []) (length xs) ≡ Some y
get_seam [] y = refl
get_seam (x ∷ xs) y = get_seam xs y

pub map_join : {A B : Type 0} (f : A → B) (xs ys : List A) → map f (xs ++ ys) ≡ map f xs ++ map f ys
map_join f [] ys = refl
map_join f (x ∷ xs) ys = ap (λ l. f x ∷ l) (map_join f xs ys)

zip_trans : {X : Type 0} (P Q R : X → X → Type 0) → ((x y z : X) → P x y → Q y z → R x z) → (xs ys zs : List X) → AllZip P xs ys → AllZip Q ys zs → AllZip R xs zs
zip_trans P Q R f [] [] [] p q = tt {0}
zip_trans P Q R f [] [] (z ∷ zs) p q = absurd q
zip_trans P Q R f [] (y ∷ ys) zs p q = absurd p
zip_trans P Q R f (x ∷ xs) [] zs p q = absurd p
zip_trans P Q R f (x ∷ xs) (y ∷ ys) [] p q = absurd q
zip_trans P Q R f (x ∷ xs) (y ∷ ys) (z ∷ zs) p q = (f x y z p.0 q.0, zip_trans P Q R f xs ys zs p.1 q.1)

drop_all : {A : Type 0} (xs : List A) → drop (length xs) xs ≡ []
drop_all [] = refl
drop_all (x ∷ xs) = drop_all xs

zip_refl : {X : Type 0} (xs : List X) → AllZip (λ (old new : X). new ≡ old) xs xs
zip_refl [] = tt {0}
zip_refl (x ∷ xs) = (refl, zip_refl xs)

-- ---- sinks and enrichers

after_lines : (xs ys : List (List ℕ)) (a b c : SinkState × ℕ) → AfterLines xs a b → AfterLines ys b c → AfterLines (xs ++ ys) a c
after_lines [] ys a b c x y = subst (λ s. AfterLines ys s c) x y
after_lines (line ∷ xs) ys a b c x y = (x.0, x.1, after_lines xs ys x.0 b c x.2 y)

pick_join : {A : Type 0} (b : Bool) (x : A) (xs ys both : List A) → both ≡ xs ++ ys → cond b (x ∷ both) both ≡ cond b (x ∷ xs) xs ++ ys
pick_join true x xs ys both e = ap (λ l. x ∷ l) e
pick_join false x xs ys both e = e

filter_join : {A : Type 0} (f : A → Bool) (xs ys : List A) → filter f (xs ++ ys) ≡ filter f xs ++ filter f ys
filter_join f [] ys = refl
filter_join f (x ∷ xs) ys = pick_join (f x) x (filter f xs) (filter f ys) (filter f (xs ++ ys)) (filter_join f xs ys)

lines_join : (plugin : List ℕ) (xs ys : List Decided) → audit_lines plugin (xs ++ ys) ≡ audit_lines plugin xs ++ audit_lines plugin ys
lines_join plugin xs ys =
    let line : Decided → List ℕ = λ d. chars (audit_line plugin d.request d.decision) in
    let is_audited : Decided → Bool = λ d. d.decision.audited in
    ap (map line) (filter_join is_audited xs ys) ∙ map_join line (filter is_audited xs) (filter is_audited ys)

pub audited_none : (plugin : List ℕ) (old new : List (SinkState × ℕ)) → new ≡ old → AreAudited plugin [] old new
audited_none plugin old new e = subst (λ s. AreAudited plugin [] old s) (sym e) (zip_refl old)

line_if : (plugin : List ℕ) (d : Decided) (b : Bool) → d.decision.audited ≡ b → audit_lines plugin (d ∷ []) ≡ cond b (chars (audit_line plugin d.request d.decision) ∷ []) []
line_if plugin d true e = ap (λ b. map (λ (x : Decided). chars (audit_line plugin x.request x.decision)) (cond b (d ∷ []) [])) e
line_if plugin d false e = ap (λ b. map (λ (x : Decided). chars (audit_line plugin x.request x.decision)) (cond b (d ∷ []) [])) e

-- a decision that isn't audited gives no line
pub unaudited : (plugin : List ℕ) (asked request : AccessRequest) (serial : ℕ) (decision : Decision) (sinks : List (SinkState × ℕ)) → decision.audited ≡ false → AreAudited plugin (decided asked request serial decision ∷ []) sinks sinks
unaudited plugin asked request serial decision sinks e =
    subst (λ lines. AllZip (AfterLines lines) sinks sinks) (sym (line_if plugin (decided asked request serial decision) false e)) (zip_refl sinks)

zip_one : (line : List ℕ) (old new : List (SinkState × ℕ)) → AllZip (IsGiven line) old new → AllZip (AfterLines (line ∷ [])) old new
zip_one line [] [] z = tt {0}
zip_one line [] (y ∷ ys) z = absurd z
zip_one line (x ∷ xs) [] z = absurd z
zip_one line (x ∷ xs) (y ∷ ys) z = ((y, z.0, refl), zip_one line xs ys z.1)

-- one that is audited gives its line
pub audited_one : (plugin : List ℕ) (asked request : AccessRequest) (serial : ℕ) (decision : Decision) (old new : List (SinkState × ℕ)) → decision.audited ≡ true → AllZip (IsGiven (chars (audit_line plugin request decision))) old new → AreAudited plugin (decided asked request serial decision ∷ []) old new
audited_one plugin asked request serial decision old new e z =
    subst (λ lines. AllZip (AfterLines lines) old new) (sym (line_if plugin (decided asked request serial decision) true e)) (zip_one (chars (audit_line plugin request decision)) old new z)

pub audited_trans : (plugin : List ℕ) (xs ys : List Decided) (a b c : List (SinkState × ℕ)) → AreAudited plugin xs a b → AreAudited plugin ys b c → AreAudited plugin (xs ++ ys) a c
audited_trans plugin xs ys a b c x y =
    subst (λ lines. AllZip (AfterLines lines) a c) (sym (lines_join plugin xs ys))
    (zip_trans (AfterLines (audit_lines plugin xs)) (AfterLines (audit_lines plugin ys)) (AfterLines (audit_lines plugin xs ++ audit_lines plugin ys)) (after_lines (audit_lines plugin xs) (audit_lines plugin ys)) a b c x y)

pub enriched_trans : (es : List EnricherState) (xs ys : List Decided) (fs gs : List EnricherState) → AreEnriched es xs fs → AreEnriched fs ys gs → AreEnriched es (xs ++ ys) gs
enriched_trans es [] ys fs gs x y = subst (λ s. AreEnriched s ys gs) x y
enriched_trans es (d ∷ xs) ys fs gs x y = (x.0, enriched_trans (enriched es d.asked).enrichers xs ys fs gs x.1 y)

-- all of them have run
pub has_run_all : (es : List EnricherState) (q : AccessRequest) (fs : List EnricherState) (r : AccessRequest) → enriched es q ≡ record { enrichers = fs; request = r } → HaveRun es q fs
has_run_all es q fs r e = record {
  n = length es;
  within = omega arith;
  states = sym (
      ap (λ l. (enriched l q).enrichers ++ drop (length es) es) (take_all (length es) es (omega arith))
      ∙ ap (λ l. (enriched es q).enrichers ++ l) (drop_all es)
      ∙ append-nil (enriched es q).enrichers
      ∙ ap (λ (x : Enriching). x.enrichers) e
      );
}

-- ---- what leads from one worker to the next

stand_more : (h k : List (Entry Ask AdminReply)) (places : List ℕ) (own : List (Entry Ask AdminReply)) → IsPrefix h k → Stand h places own → Stand k places own
stand_more h k [] own p x = x
stand_more h k (n ∷ places) [] p x = absurd x
stand_more h k (n ∷ places) (e ∷ own) p x = (get_more h k n e p x.0, stand_more h k places own p x.1)

stand_append : (h : List (Entry Ask AdminReply)) (places : List ℕ) (own : List (Entry Ask AdminReply)) (places2 : List ℕ) (own2 : List (Entry Ask AdminReply)) → Stand h places own → Stand h places2 own2 → Stand h (places ++ places2) (own ++ own2)
stand_append h [] own places2 own2 x y = subst (λ o. Stand h places2 (o ++ own2)) (sym x) y
stand_append h (n ∷ places) [] places2 own2 x y = absurd x
stand_append h (n ∷ places) (e ∷ own) places2 own2 x y = (x.0, stand_append h places own places2 own2 x.1 y)

rises_lower : (low mid : ℕ) (xs : List ℕ) (high : ℕ) → low ≤ mid → Rises mid xs high → Rises low xs high
rises_lower low mid [] high l x = omega (arith, l, x)
rises_lower low mid (s ∷ xs) high l x = (omega (arith, l, x.0), x.1)

pub rises_append : (low : ℕ) (xs : List ℕ) (mid : ℕ) (ys : List ℕ) (high : ℕ) → Rises low xs mid → Rises mid ys high → Rises low (xs ++ ys) high
rises_append low [] mid ys high x y = rises_lower low mid ys high x y
rises_append low (s ∷ xs) mid ys high x y = (x.0, rises_append s xs mid ys high x.1 y)

pub rises_join : (low : ℕ) (xs : List Decided) (mid : ℕ) (ys : List Decided) (high : ℕ) → Rises low (serials xs) mid → Rises mid (serials ys) high → Rises low (serials (xs ++ ys)) high
rises_join low xs mid ys high x y =
    subst (λ l. Rises low l high) (sym (map_join (λ (d : Decided). d.serial) xs ys)) (rises_append low (serials xs) mid (serials ys) high x y)

pub counted_join : (xs ys : List Decided) (n : ℕ) → counted (length (xs ++ ys)) n ≡ counted (length ys) (counted (length xs) n)
counted_join [] ys n = refl
counted_join (x ∷ xs) ys n = counted_join xs ys (risen n)

pub leads_refl : (a : Worker) → Leads a a [] [] []
leads_refl a = record {
  turn = refl;
  told = λ before e. e ∙ ap Some (sym (append-nil before));
  made = ([], sym (append-nil a.seat.calls), refl);
  history = begins_refl a.seat.history;
  publisher = refl;
  list = begins_refl a.pass.list;
  rises = omega arith;
  answered = refl;
}

pub leads_trans : (a b c : Worker) (ts us : List Moment) (own own2 : List (Entry Ask AdminReply)) (ds ds2 : List Decided) → Leads a b ts own ds → Leads b c us own2 ds2 → Leads a c (ts ++ us) (own ++ own2) (ds ++ ds2)
leads_trans a b c ts us own own2 ds ds2 x y = record {
  turn = y.turn ∙ x.turn;
  told = λ before e. y.told (before ++ ts) (x.told before e) ∙ ap Some (append_assoc before ts us);
  made = (
    x.made.0 ++ y.made.0,
    y.made.1 ∙ ap (λ l. l ++ y.made.0) x.made.1 ∙ append_assoc a.seat.calls x.made.0 y.made.0,
    stand_append c.seat.history x.made.0 own y.made.0 own2 (stand_more b.seat.history c.seat.history x.made.0 own y.history x.made.2) y.made.2,
  );
  history = begins_trans a.seat.history b.seat.history c.seat.history x.history y.history;
  publisher = y.publisher ∙ x.publisher;
  list = begins_trans a.pass.list b.pass.list c.pass.list x.list y.list;
  rises = rises_join (length a.pass.list) ds (length b.pass.list) ds2 (length c.pass.list) x.rises y.rises;
  answered = y.answered ∙ ap (counted (length ds2)) x.answered ∙ sym (counted_join ds ds2 a.pass.answered);
}

-- ---- answers

pub decided_more : (pubs all : List Publication) (d : Decided) → IsPrefix pubs all → IsDecided pubs d → IsDecided all d
decided_more pubs all d p x = (x.0, get_more pubs all (d.serial - 1) x.0 p x.1, x.2, x.3)

takes_pubs : (pubs all : List Publication) (m : Message) (call : Call) (P Q : List (Entry Ask AdminReply) → List Decided → Type 0) (own : List (Entry Ask AdminReply)) (ds : List Decided) (r : Response)
    → IsPrefix pubs all → ((o : List (Entry Ask AdminReply)) (d : List Decided) → P o d → Q o d) → Takes pubs m call P own ds r → Takes all m call Q own ds r
takes_pubs pubs all m (Answer response) P Q own ds r p f x = (x.0, f own ds x.1)
takes_pubs pubs all m (Admin command part) P Q [] ds r p f x = absurd x
takes_pubs pubs all m (Admin command part) P Q (e ∷ own) ds r p f x = (x.0, x.1, f own ds x.2)
takes_pubs pubs all m (Decide request) P Q own [] r p f x = absurd x
takes_pubs pubs all m (Decide request) P Q own (d ∷ ds) r p f x = (x.0, decided_more pubs all d p x.1, x.2, f own ds x.3)

takes_more : (pubs : List Publication) (m : Message) (call : Call) (P Q : List (Entry Ask AdminReply) → List Decided → Type 0) (own more : List (Entry Ask AdminReply)) (ds later : List Decided) (r : Response)
    → ((o : List (Entry Ask AdminReply)) (d : List Decided) → P o d → Q (o ++ more) (d ++ later)) → Takes pubs m call P own ds r → Takes pubs m call Q (own ++ more) (ds ++ later) r
takes_more pubs m (Answer response) P Q own more ds later r f x = (x.0, f own ds x.1)
takes_more pubs m (Admin command part) P Q [] more ds later r f x = absurd x
takes_more pubs m (Admin command part) P Q (e ∷ own) more ds later r f x = (x.0, x.1, f own ds x.2)
takes_more pubs m (Decide request) P Q own more [] later r f x = absurd x
takes_more pubs m (Decide request) P Q own more (d ∷ ds) later r f x = (x.0, x.1, x.2, f own ds x.3)

module _ (plugin : List ℕ) where
  pub answers_pubs : (pubs all : List Publication) (ms : List Message) (ts : List Moment) (own : List (Entry Ask AdminReply)) (ds : List Decided) (rs : List Response) → IsPrefix pubs all → Answers plugin pubs ms ts own ds rs → Answers plugin all ms ts own ds rs
  answers_pubs pubs all [] [] own ds [] p x = x
  answers_pubs pubs all [] [] own ds (r ∷ rs) p x = absurd x
  answers_pubs pubs all [] (t ∷ ts) own ds rs p x = absurd x
  answers_pubs pubs all (m ∷ ms) [] own ds rs p x = absurd x
  answers_pubs pubs all (m ∷ ms) (t ∷ ts) own ds [] p x = absurd x
  answers_pubs pubs all (m ∷ ms) (t ∷ ts) own ds (r ∷ rs) p x =
      takes_pubs pubs all m (call_of plugin m t) (λ o d. Answers plugin pubs ms ts o d rs) (λ o d. Answers plugin all ms ts o d rs) own ds r p (λ o d y. answers_pubs pubs all ms ts o d rs p y) x

  -- one more message at the end
  pub answers_more : (pubs : List Publication) (ms : List Message) (ts : List Moment) (own : List (Entry Ask AdminReply)) (ds : List Decided) (rs : List Response) (m : Message) (t : Moment) (o : List (Entry Ask AdminReply)) (d : List Decided) (r : Response)
      → Takes pubs m (call_of plugin m t) NothingLeft o d r → Answers plugin pubs ms ts own ds rs → Answers plugin pubs (ms ++ m ∷ []) (ts ++ t ∷ []) (own ++ o) (ds ++ d) (rs ++ r ∷ [])
  answers_more pubs [] [] own ds [] m t o d r y x =
      subst (λ k. Answers plugin pubs (m ∷ []) (t ∷ []) (k ++ o) (ds ++ d) (r ∷ [])) (sym x.0) (subst (λ k. Answers plugin pubs (m ∷ []) (t ∷ []) o (k ++ d) (r ∷ [])) (sym x.1) y)
  answers_more pubs [] [] own ds (q ∷ rs) m t o d r y x = absurd x
  answers_more pubs [] (u ∷ ts) own ds rs m t o d r y x = absurd x
  answers_more pubs (n ∷ ms) [] own ds rs m t o d r y x = absurd x
  answers_more pubs (n ∷ ms) (u ∷ ts) own ds [] m t o d r y x = absurd x
  answers_more pubs (n ∷ ms) (u ∷ ts) own ds (q ∷ rs) m t o d r y x =
      takes_more pubs n (call_of plugin n u) (λ a b. Answers plugin pubs ms ts a b rs) (λ a b. Answers plugin pubs (ms ++ m ∷ []) (ts ++ t ∷ []) a b (rs ++ r ∷ [])) own o ds d q (λ a b z. answers_more pubs ms ts a b rs m t o d r y z) x

pub texts_more : (rs : List Response) (r : Response) → texts (rs ++ r ∷ []) ≡ texts rs ++ response_text r
texts_more [] r = append-nil (response_text r)
texts_more (q ∷ rs) r = ap (λ l. response_text q ++ l) (texts_more rs r) ∙ sym (append_assoc (response_text q) (texts rs) (response_text r))

-- ---- one message

pub told_one : (x y : Option (List Moment)) (t : Moment) → Told x y t → (before : List Moment) → x ≡ Some before → y ≡ Some (before ++ t ∷ [])
told_one x y t told before e = subst (λ k. Told k y t) e told

-- nothing was called and nothing decided
leads_idle : (a b : Worker) (t : Moment) → Told a.given b.given t → IsUncalled a.seat b.seat → b.pass.book ≡ a.pass.book → IsPrefix a.pass.list b.pass.list → b.pass.answered ≡ a.pass.answered → Leads a b (t ∷ []) [] []
leads_idle a b t told s book list answered = record {
  turn = s.turn;
  told = told_one a.given b.given t told;
  made = ([], s.calls ∙ sym (append-nil a.seat.calls), refl);
  history = s.begins;
  publisher = book;
  list = list;
  rises = prefix_length a.pass.list b.pass.list list;
  answered = answered;
}

uncalled_same : (old new : SeatValue Ask AdminReply Administration) → new ≡ old → IsUncalled old new
uncalled_same old new e = record {
  turn = ap (λ (s : SeatValue Ask AdminReply Administration). s.turn) e;
  begins = subst (λ (s : SeatValue Ask AdminReply Administration). IsPrefix old.history s.history) (sym e) (begins_refl old.history);
  calls = ap (λ (s : SeatValue Ask AdminReply Administration). s.calls) e;
}

list_same : (old new : Seeing) → new ≡ old → IsPrefix old.list new.list
list_same old new e = subst (λ (p : Seeing). IsPrefix old.list p.list) (sym e) (begins_refl old.list)

pub idle_same : (a b : Worker) (t : Moment) → Told a.given b.given t → b.seat ≡ a.seat → b.pass ≡ a.pass → Leads a b (t ∷ []) [] []
idle_same a b t told seat pass =
    leads_idle a b t told (uncalled_same a.seat b.seat seat) (ap (λ (p : Seeing). p.book) pass) (list_same a.pass b.pass pass) (ap (λ (p : Seeing). p.answered) pass)

pub idle_call : (a b : Worker) (t : Moment) → Told a.given b.given t → IsUncalled a.seat b.seat → b.pass ≡ a.pass → Leads a b (t ∷ []) [] []
idle_call a b t told s pass = leads_idle a b t told s (ap (λ (p : Seeing). p.book) pass) (list_same a.pass b.pass pass) (ap (λ (p : Seeing). p.answered) pass)

pub idle_decision : (a b : Worker) (t : Moment) → Told a.given b.given t → b.seat ≡ a.seat → IsUnjudged a.pass b.pass a.enrichers b.enrichers → Leads a b (t ∷ []) [] []
idle_decision a b t told seat u = leads_idle a b t told (uncalled_same a.seat b.seat seat) u.publisher u.list u.answered

leads_called : (a b : Worker) (t : Moment) (m : Message) (command : AdminCommand) (part : Part) (r : Response) → Told a.given b.given t → b.pass ≡ a.pass → (x : IsCall a.seat b.seat m command part r)
    → Leads a b (t ∷ []) (entry (ask_of m command) x.reply ∷ []) []
leads_called a b t m command part r told pass x =
    let c = x.called in
    record {
      turn = x.turn;
      told = told_one a.given b.given t told;
      made = (length c.0 ∷ [], c.3, (subst (λ h. slice_get h (length c.0) ≡ Some (entry (ask_of m command) x.reply)) (sym c.1) (get_seam c.0 (entry (ask_of m command) x.reply)), refl));
      history = x.begins;
      publisher = ap (λ (p : Seeing). p.book) pass;
      list = list_same a.pass b.pass pass;
      rises = prefix_length a.pass.list b.pass.list (list_same a.pass b.pass pass);
      answered = ap (λ (p : Seeing). p.answered) pass;
    }

module _ (plugin : List ℕ) (a b : Worker) (m : Message) (t : Moment) (told : Told a.given b.given t) where
  pub answered_call : (command : AdminCommand) (part : Part) (r : Response) → b.pass ≡ a.pass → b.enrichers ≡ a.enrichers → call_of plugin m t ≡ Admin command part → IsCall a.seat b.seat m command part r → IsAnswered plugin a b m r
  answered_call command part r pass same e x = record {
    moment = t;
    own = entry (ask_of m command) x.reply ∷ [];
    decided = [];
    leads = leads_called a b t m command part r told pass x;
    step = subst (λ k. Takes b.pass.list m k NothingLeft (entry (ask_of m command) x.reply ∷ []) [] r) (sym e) (refl, x.response, (refl, refl));
    enriched = same;
  }

  pub answered_decision : (request : AccessRequest) (d : Decided) → b.seat ≡ a.seat → call_of plugin m t ≡ Decide request → IsJudged a.pass b.pass a.enrichers b.enrichers request d → IsAnswered plugin a b m (decision_response d.decision m.close)
  answered_decision request d seat e x =
      let s = uncalled_same a.seat b.seat seat in
      record {
        moment = t;
        own = [];
        decided = d ∷ [];
        leads = record {
          turn = s.turn;
          told = told_one a.given b.given t told;
          made = ([], s.calls ∙ sym (append-nil a.seat.calls), refl);
          history = s.begins;
          publisher = x.publisher;
          list = x.list;
          rises = let l = prefix_length a.pass.list b.pass.list x.list in (omega (arith, l, x.serial), omega (arith, x.serial));
          answered = x.answered;
        };
        step = subst (λ k. Takes b.pass.list m k NothingLeft [] (d ∷ []) (decision_response d.decision m.close)) (sym e) (x.same, x.is, refl, (refl, refl));
        enriched = x.enriched;
      }

  pub answered_itself : (r : Response) → b.seat ≡ a.seat → b.pass ≡ a.pass → b.enrichers ≡ a.enrichers → call_of plugin m t ≡ Answer r → IsAnswered plugin a b m r
  answered_itself r seat pass same e = record {
    moment = t;
    own = [];
    decided = [];
    leads = idle_same a b t told seat pass;
    step = subst (λ k. Takes b.pass.list m k NothingLeft [] [] r) (sym e) (refl, (refl, refl));
    enriched = same;
  }

  pub unserved_call : (command : AdminCommand) (part : Part) (before after : Option (List ℕ)) → b.pass ≡ a.pass → b.enrichers ≡ a.enrichers → b.sinks ≡ a.sinks → call_of plugin m t ≡ Admin command part
      → (IsUncalled a.seat b.seat × Wrote before after []) ⊎ ((r : Response) × (begun : List ℕ) × IsCall a.seat b.seat m command part r × Wrote before after begun × IsPrefix begun (response_text r)) → Unserved plugin a b before after m
  unserved_call command part before after pass same sinks e (inl u) = (sinks, inl (record { moment = t; leads = idle_call a b t told u.0 pass; run = inl same }, u.1))
  unserved_call command part before after pass same sinks e (inr u) = (sinks, inr (u.0, u.1, answered_call command part u.0 pass same e u.2, u.3, u.4))

  pub unserved_decision : (request : AccessRequest) (before after : Option (List ℕ)) → b.seat ≡ a.seat → call_of plugin m t ≡ Decide request → b.sinks ≡ a.sinks
      → (IsUnjudged a.pass b.pass a.enrichers b.enrichers × Wrote before after []) ⊎ ((d : Decided) × (part : List ℕ) × IsJudged a.pass b.pass a.enrichers b.enrichers request d × Wrote before after part × IsPrefix part (response_text (decision_response d.decision m.close)))
      → Unserved plugin a b before after m
  unserved_decision request before after seat e sinks (inl u) = (sinks, inl (record { moment = t; leads = idle_decision a b t told seat u.0; run = u.0.run }, u.1))
  unserved_decision request before after seat e sinks (inr u) = (sinks, inr (decision_response u.0.decision m.close, u.1, answered_decision request u.0 seat e u.2, u.3, u.4))

  pub unserved_none : (before : Option (List ℕ)) → b.seat ≡ a.seat → b.pass ≡ a.pass → b.enrichers ≡ a.enrichers → b.sinks ≡ a.sinks → Unserved plugin a b before before m
  unserved_none before seat pass same sinks = (sinks, inl (record { moment = t; leads = idle_same a b t told seat pass; run = inl same }, wrote_none before))

  pub served_call : (command : AdminCommand) (part : Part) (before after : Option (List ℕ)) → b.pass ≡ a.pass → b.enrichers ≡ a.enrichers → b.sinks ≡ a.sinks → call_of plugin m t ≡ Admin command part
      → (r : Response) × IsCall a.seat b.seat m command part r × Wrote before after (response_text r) → IsServed plugin a b before after m
  unfolding answered_call
  served_call command part before after pass same sinks e x = record {
    response = x.0;
    answered = answered_call command part x.0 pass same e x.1;
    written = x.2;
    audited = audited_none plugin a.sinks b.sinks sinks;
  }

  pub served_decision : (request : AccessRequest) (before after : Option (List ℕ)) → b.seat ≡ a.seat → call_of plugin m t ≡ Decide request
      → (d : Decided) × IsJudged a.pass b.pass a.enrichers b.enrichers request d × Wrote before after (response_text (decision_response d.decision m.close)) × AreAudited plugin (d ∷ []) a.sinks b.sinks → IsServed plugin a b before after m
  unfolding answered_decision
  served_decision request before after seat e x = record {
    response = decision_response x.0.decision m.close;
    answered = answered_decision request x.0 seat e x.1;
    written = x.2;
    audited = x.3;
  }

  pub served_itself : (r : Response) (before after : Option (List ℕ)) → b.seat ≡ a.seat → b.pass ≡ a.pass → b.enrichers ≡ a.enrichers → b.sinks ≡ a.sinks → call_of plugin m t ≡ Answer r → Wrote before after (response_text r) → IsServed plugin a b before after m
  unfolding answered_itself
  served_itself r before after seat pass same sinks e w = record {
    response = r;
    answered = answered_itself r seat pass same e;
    written = w;
    audited = audited_none plugin a.sinks b.sinks sinks;
  }

  pub unserved_itself : (r : Response) (before after : Option (List ℕ)) → b.seat ≡ a.seat → b.pass ≡ a.pass → b.enrichers ≡ a.enrichers → b.sinks ≡ a.sinks → call_of plugin m t ≡ Answer r
      → (part : List ℕ) × Wrote before after part × IsPrefix part (response_text r) → Unserved plugin a b before after m
  unserved_itself r before after seat pass same sinks e x = (sinks, inr (r, x.0, answered_itself r seat pass same e, x.1, x.2))

-- a call that has no answer, before anything is written
pub call_unserved : (old new : SeatValue Ask AdminReply Administration) (m : Message) (command : AdminCommand) (part : Part) (before : Option (List ℕ)) → IsUncalled old new ⊎ ((r : Response) × IsCall old new m command part r)
    → (IsUncalled old new × Wrote before before []) ⊎ ((r : Response) × (begun : List ℕ) × IsCall old new m command part r × Wrote before before begun × IsPrefix begun (response_text r))
call_unserved old new m command part before (inl u) = inl (u, wrote_none before)
call_unserved old new m command part before (inr x) = inr (x.0, [], x.1, wrote_none before, (response_text x.0, refl))
