-- For proofs alone: the law of the world, by induction over its events.
use Rattle.std.proofs.Common.{arith, max, eqb, ◌≡◌, ◌<◌, ◌≤◌, ◌+◌, ◌-◌, ℕ, zero, suc, Bool, true, false, not, cond, Contains, List, [], ◌∷◌, ◌++◌, length, Option, Some, None, slice_get, refl, ap, sym, ◌∙◌, ◌⊎◌, subst, inl, inr}
use Rattle.std.specs.Option.{option_map}
use Rattle.std.proofs.lemmas.Bool.{and_parts, cases_lt, eq-eqb, eqb-true, false≢true}
use Rattle.std.proofs.lemmas.List.{length-append}
use Rattle.std.proofs.lemmas.Option.{none-some, same_Some}
use Rattle.rg_base.proofs.Lists.{Contains-cases, Contains-first, Contains-later, Contains-none, Contains-slice_get}
use Rattle.rg_turn.specs.History.{IsLegal, state_after, state_at}
use Rattle.rg_turn.specs.View.{entry}
use Rattle.rg_turn.specs.declared.rule.Entry.{Entry}
use Rattle.rg_turn.proofs.Histories.{legal_none, legal_snoc, state_at_end, state_at_front}
use Rattle.rg_admin_laws.specs.World.{Parts, without_at}
use Rattle.rg_admin_laws.specs.World as world
use Rattle.rg_admin_laws.proofs.Lists.{case, not_true}

-- what is asked of the machine, over histories from its start states
pub record Laws (P : Parts) (IsStart : P.State → Type 0) : Type 0 where
  pub weight : P.Versions → ℕ
  pub decides : (v w : P.Versions) → P.same_versions v w ≡ true → v ≡ w
  -- every state of a legal history has the plugin's view
  pub has_view : (s : P.State) (h : world.History P) → IsStart s → IsLegal P.transition s h → (k : ℕ) → k ≤ length h → (f : P.Facts) × (P.view (state_at P.transition s h k) ≡ Some f)
  -- a document's seq is the place where it was made, or an earlier one since which the view stood still
  pub placed : (s : P.State) (h : world.History P) → IsStart s → IsLegal P.transition s h → (k : ℕ) → k < length h → (v : P.Versions) (d : P.Document)
      → P.document_of (P.transition (state_at P.transition s h k) (P.download_ask v)).1 ≡ Some d
      → (P.seq_of d ≤ k) × (P.view (state_at P.transition s h (P.seq_of d)) ≡ P.view (state_at P.transition s h k))
  -- the law of downloads
  pub leads : (s : P.State) (h : world.History P) → IsStart s → IsLegal P.transition s h → (j k : ℕ) → j ≤ k → k < length h → (f g : P.Facts) (d : P.Document)
      → P.view (state_at P.transition s h j) ≡ Some f → P.view (state_at P.transition s h k) ≡ Some g
      → P.document_of (P.transition (state_at P.transition s h k) (P.download_ask (P.versions f))).1 ≡ Some d → P.led f d ≡ g
  -- where something in the document changed the weight is greater
  pub moves : (s : P.State) (h : world.History P) → IsStart s → IsLegal P.transition s h → (j k : ℕ) → j ≤ k → k < length h → (f g : P.Facts) (d : P.Document)
      → P.view (state_at P.transition s h j) ≡ Some f → P.view (state_at P.transition s h k) ≡ Some g
      → P.document_of (P.transition (state_at P.transition s h k) (P.download_ask (P.versions f))).1 ≡ Some d → P.is_unchanged d ≡ false → weight (P.versions f) < weight (P.versions g)
  -- the weight never falls
  pub rises : (s : P.State) (h : world.History P) → IsStart s → IsLegal P.transition s h → (j k : ℕ) → j ≤ k → k ≤ length h → (f g : P.Facts)
      → P.view (state_at P.transition s h j) ≡ Some f → P.view (state_at P.transition s h k) ≡ Some g → weight (P.versions f) ≤ weight (P.versions g)

-- ---- places

at_snoc : {X : Type 0} (xs : List X) (x y : X) (n : ℕ) → slice_get (xs ++ x ∷ []) n ≡ Some y → (slice_get xs n ≡ Some y) ⊎ ((n ≡ length xs) × (x ≡ y))
at_snoc [] x y zero h = inr (refl, same_Some x y h)
at_snoc [] x y (suc n) h = absurd (none-some y h)
at_snoc (z ∷ xs) x y zero h = inl h
at_snoc (z ∷ xs) x y (suc n) h = elim (at_snoc xs x y n h) [ inl there ↦ inl there | inr last ↦ inr (ap suc last.0, last.1) ]

pub at_within : {X : Type 0} (xs : List X) (y : X) (n : ℕ) → slice_get xs n ≡ Some y → n < length xs
at_within [] y n h = absurd (none-some y h)
at_within (x ∷ xs) y zero h = omega arith
at_within (x ∷ xs) y (suc n) h = let rest = at_within xs y n h in omega arith

in_without : {X : Type 0} (n : ℕ) (xs : List X) (y : X) → Contains (without_at n xs) y → Contains xs y
in_without n [] y there = there
in_without zero (x ∷ xs) y there = Contains-later x xs y there
in_without (suc n) (x ∷ xs) y there = elim (Contains-cases x (without_at n xs) y there) [
  | inl here ↦ subst (Contains (x ∷ xs)) here (Contains-first x xs)
  | inr later ↦ Contains-later x xs y (in_without n xs y later)
]

at_kept : {X : Type 0} (xs ys : List X) (y : X) (n : ℕ) → slice_get xs n ≡ Some y → slice_get (xs ++ ys) n ≡ Some y
at_kept [] ys y n h = absurd (none-some y h)
at_kept (x ∷ xs) ys y zero h = h
at_kept (x ∷ xs) ys y (suc n) h = at_kept xs ys y n h

at_last : {X : Type 0} (xs : List X) (x : X) → slice_get (xs ++ x ∷ []) (length xs) ≡ Some x
at_last [] x = refl
at_last (y ∷ xs) x = at_last xs x

in_snoc : {X : Type 0} (xs : List X) (x y : X) → Contains (xs ++ x ∷ []) y → Contains xs y ⊎ (x ≡ y)
in_snoc [] x y there = elim (Contains-cases x [] y there) [ inl is ↦ inr is | inr none ↦ absurd (Contains-none y none) ]
in_snoc (z ∷ xs) x y there = elim (Contains-cases z (xs ++ x ∷ []) y there) [
  | inl is ↦ inl (subst (Contains (z ∷ xs)) is (Contains-first z xs))
  | inr later ↦ elim (in_snoc xs x y later) [ inl h ↦ inl (Contains-later z xs y h) | inr h ↦ inr h ]
]

pub at_below : {X : Type 0} (xs : List X) (n : ℕ) → n < length xs → (x : X) × (slice_get xs n ≡ Some x)
at_below [] n h = absurd (omega (arith, h))
at_below (x ∷ xs) zero h = (x, refl)
at_below (x ∷ xs) (suc n) h = at_below xs n (omega (arith, h))

longer : {X : Type 0} (xs : List X) (x : X) → length (xs ++ x ∷ []) ≡ length xs + 1
longer xs x = length-append xs (x ∷ [])

-- ---- publications

module _ (P : Parts) (s : P.State) (h : world.History P) (ps : List (world.Publication P)) (right : world.AreRight P s h ps) where
  -- every publication's entries are there
  pub seq_low : (i : ℕ) (p : world.Publication P) → slice_get ps i ≡ Some p → p.seq ≤ length h
  seq_low zero p there = let none = right.first p there in omega (arith, none)
  seq_low (suc i) p there = let low = right.within i p there in omega (arith, low)

  -- they are right for the history as it goes on
  pub right_on : (more : world.History P) → world.AreRight P s (h ++ more) ps
  right_on more = record {
    numbered = right.numbered;
    first = right.first;
    rising = right.rising;
    within = λ i p there. let low = right.within i p there in let sum = length-append h more in omega (arith, low, sum);
    viewed = λ i p there. ap P.view (state_at_front P.transition s h more p.seq (seq_low i p there)) ∙ right.viewed i p there;
  }

module _ (P : Parts) (IsStart : P.State → Type 0) (laws : Laws P IsStart) where
  abbrev E : Type 0
  E = Entry P.Ask P.Reply

  abbrev at_state : P.State → List E → ℕ → P.State
  at_state s h k = state_at P.transition s h k

  -- an entry more changes no earlier state
  state_kept : (s : P.State) (h : List E) (e : E) (k : ℕ) → k ≤ length h → at_state s (h ++ e ∷ []) k ≡ at_state s h k
  state_kept s h e k le = state_at_front P.transition s h (e ∷ []) k le

  abbrev next : P.State → List E → P.Ask → E
  next s h a = entry a (P.transition (state_after P.transition s h) a).1

  -- a document on the way is the download at some place, from the versions of an earlier view
  pub record IsGood (s : P.State) (h : List E) (d : world.Sent P) : Type 0 where
    pub base : ℕ
    pub place : ℕ
    pub facts : P.Facts
    pub order : base ≤ place
    pub within : place < length h
    pub viewed : P.view (at_state s h base) ≡ Some facts
    pub from : P.versions facts ≡ d.from
    pub is : P.document_of (P.transition (at_state s h place) (P.download_ask d.from)).1 ≡ Some d.document

  good_grows : (s : P.State) (h : List E) (e : E) (d : world.Sent P) → IsGood s h d → IsGood s (h ++ e ∷ []) d
  good_grows s h e d good = let more = longer h e in record {
    base = good.base;
    place = good.place;
    facts = good.facts;
    order = good.order;
    within = omega (arith, good.within, more);
    viewed = ap P.view (state_kept s h e good.base (omega (arith, good.order, good.within))) ∙ good.viewed;
    from = good.from;
    is = ap (λ x. P.document_of (P.transition x (P.download_ask d.from)).1) (state_kept s h e good.place (omega (arith, good.within))) ∙ good.is;
  }

  pub record Holds (w : world.World P) : Type 0 where
    pub start : IsStart w.start
    pub legal : IsLegal P.transition w.start w.history
    pub right : world.AreRight P w.start w.history (world.publications P w)
    pub sent : (d : world.Sent P) → Contains w.sent d → IsGood w.start w.history d
    pub seen : (pass : ℕ) → (1 ≤ w.seen pass) × (w.seen pass ≤ world.number P w)
    pub tokens : (t : ℕ) → Contains w.tokens t → t ≤ world.number P w
    pub answers : (a : world.Answer P) → Contains w.answers a → world.IsAnswered P w a

  asked_holds : (w : world.World P) (a : P.Ask) → Holds w → Holds (world.asked P w a)
  asked_holds w a holds = record {
    start = holds.start;
    legal = legal_snoc P.transition w.start w.history (next w.start w.history a) holds.legal refl;
    right = right_on P w.start w.history (world.publications P w) holds.right (next w.start w.history a ∷ []);
    sent = λ d there. good_grows w.start w.history (next w.start w.history a) d (holds.sent d there);
    seen = holds.seen;
    tokens = holds.tokens;
    answers = holds.answers;
  }

  abbrev newest_is : (w : world.World P) → slice_get (world.publications P w) (length w.older) ≡ Some w.newest
  newest_is w = at_last w.older w.newest

  downloaded_holds : (w : world.World P) → Holds w → Holds (world.downloaded_from P w (P.versions w.newest.facts))
  downloaded_holds w holds = go (P.document_of (P.transition (world.present P w) ask).1) refl
    where
      from : P.Versions
      from = P.versions w.newest.facts

      ask : P.Ask
      ask = P.download_ask from

      low : w.newest.seq ≤ length w.history
      low = seq_low P w.start w.history (world.publications P w) holds.right (length w.older) w.newest (newest_is w)

      go : (o : Option P.Document) → P.document_of (P.transition (world.present P w) ask).1 ≡ o → Holds (world.asked P (world.sent_with P w from o) ask)
      go None is = asked_holds w ask holds
      go (Some d) is =
          let e = next w.start w.history ask in
          let more = longer w.history e in
          let before = asked_holds w ask holds in
          let new : world.Sent P = record { from = from; document = d } in record {
            start = holds.start;
            legal = before.legal;
            right = before.right;
            sent = λ x there. elim (Contains-cases new w.sent x there) [
              | inl is_new ↦ subst (λ (y : world.Sent P). IsGood w.start (w.history ++ e ∷ []) y) is_new (record {
                base = w.newest.seq;
                place = length w.history;
                facts = w.newest.facts;
                order = low;
                within = omega (arith, more);
                viewed = ap P.view (state_kept w.start w.history e w.newest.seq low) ∙ holds.right.viewed (length w.older) w.newest (newest_is w);
                from = refl;
                is = ap (λ x. P.document_of (P.transition x ask).1) (state_at_end P.transition w.start w.history (e ∷ [])) ∙ is;
              })
              | inr old ↦ before.sent x old
            ];
            seen = holds.seen;
            tokens = holds.tokens;
            answers = holds.answers;
          }

  published_holds : (w : world.World P) (which : ℕ) (d : world.Sent P) → Holds w → Contains w.sent d → world.fits P w d ≡ true → Holds (world.published P w which d)
  published_holds w which d holds there fits = record {
    start = holds.start;
    legal = holds.legal;
    right = record {
      numbered = λ i p is. elim (at_snoc ps new p i is) [
        | inl old ↦ holds.right.numbered i p old
        | inr last ↦ subst (λ (q : world.Publication P). q.serial ≡ i + 1) last.1 (let serial = holds.right.numbered (length w.older) w.newest (newest_is w) in omega (arith, last.0, serial, many))
      ];
      first = λ p is. elim (at_snoc ps new p 0 is) [ inl old ↦ holds.right.first p old | inr last ↦ absurd (omega (arith, last.0, many)) ];
      rising = λ i p q is after. elim (at_snoc ps new q (suc i) after) [
        | inl old ↦ elim (at_snoc ps new p i is) [ inl before ↦ holds.right.rising i p q before old | inr last ↦ absurd (let low = at_within ps q (suc i) old in omega (arith, last.0, low)) ]
        | inr last ↦ elim (at_snoc ps new p i is) [
          | inl before ↦
              let place : i ≡ length w.older = omega (arith, last.0, many) in
              let newest : w.newest ≡ p = same_Some w.newest p (sym (newest_is w) ∙ ap (slice_get ps) (sym place) ∙ before) in
              subst (λ (y : world.Publication P). p.seq < y.seq) last.1 (subst (λ (y : world.Publication P). y.seq < seq) newest later)
          | inr end ↦ absurd (omega (arith, last.0, end.0))
        ]
      ];
      within = λ i p is. elim (at_snoc ps new p (suc i) is) [ inl old ↦ holds.right.within i p old | inr last ↦ subst (λ (y : world.Publication P). y.seq < length w.history) last.1 (omega (arith, good.within, placed.0)) ];
      viewed = λ i p is. elim (at_snoc ps new p i is) [
        | inl old ↦ holds.right.viewed i p old
        | inr last ↦ subst (λ (y : world.Publication P). P.view (at_state w.start w.history y.seq) ≡ Some y.facts) last.1 (found.1 ∙ ap Some (sym reached))
      ];
    };
    sent = λ x stays. holds.sent x (in_without which w.sent x stays);
    seen = λ pass. let s = holds.seen pass in (s.0, omega (arith, s.1, more));
    tokens = λ t is. let low = holds.tokens t is in omega (arith, low, more);
    answers = λ a is. let h = holds.answers a is in (h.0, at_kept ps (new ∷ []) h.0 (a.seen - 1) h.1, h.2);
  }
    where
      ps : List (world.Publication P)
      ps = world.publications P w

      seq : ℕ
      seq = P.seq_of d.document

      new : world.Publication P
      new = record { serial = w.newest.serial + 1; seq = seq; facts = P.led w.newest.facts d.document }

      many : length ps ≡ length w.older + 1
      many = longer w.older w.newest

      more : length (ps ++ new ∷ []) ≡ length ps + 1
      more = longer ps new

      good : IsGood w.start w.history d
      good = holds.sent d there

      parts : (P.same_versions d.from (P.versions w.newest.facts) ≡ true) × (not (P.is_unchanged d.document) ≡ true)
      parts = and_parts (P.same_versions d.from (P.versions w.newest.facts)) (not (P.is_unchanged d.document)) fits

      base : d.from ≡ P.versions w.newest.facts
      base = laws.decides d.from (P.versions w.newest.facts) parts.0

      placed : (seq ≤ good.place) × (P.view (at_state w.start w.history seq) ≡ P.view (at_state w.start w.history good.place))
      placed = laws.placed w.start w.history holds.start holds.legal good.place good.within d.from d.document good.is

      -- the view where the document was made
      found : (g : P.Facts) × (P.view (at_state w.start w.history seq) ≡ Some g)
      found = laws.has_view w.start w.history holds.start holds.legal seq (omega (arith, good.within, placed.0))

      there_at : P.view (at_state w.start w.history w.newest.seq) ≡ Some w.newest.facts
      there_at = holds.right.viewed (length w.older) w.newest (newest_is w)

      low : w.newest.seq ≤ length w.history
      low = seq_low P w.start w.history ps holds.right (length w.older) w.newest (newest_is w)

      more_weight : laws.weight (P.versions w.newest.facts) < laws.weight (P.versions found.0)
      more_weight = subst (λ v. laws.weight v < laws.weight (P.versions found.0)) (good.from ∙ base)
          (laws.moves w.start w.history holds.start holds.legal good.base good.place good.order good.within good.facts found.0 d.document good.viewed (sym placed.1 ∙ found.1)
          (ap (λ v. P.document_of (P.transition (at_state w.start w.history good.place) (P.download_ask v)).1) good.from ∙ good.is) (not_true (P.is_unchanged d.document) parts.1))

      -- an older document doesn't fit
      later : w.newest.seq < seq
      later = elim (cases_lt w.newest.seq seq) [
        | inl lt ↦ lt
        | inr le ↦ absurd (let back = laws.rises w.start w.history holds.start holds.legal seq w.newest.seq le low found.0 w.newest.facts found.1 there_at in omega (arith, back, more_weight))
      ]

      reached : P.led w.newest.facts d.document ≡ found.0
      reached = laws.leads w.start w.history holds.start holds.legal w.newest.seq good.place (omega (arith, later, placed.0)) good.within w.newest.facts found.0 d.document there_at (sym placed.1 ∙ found.1)
          (ap (λ v. P.document_of (P.transition (at_state w.start w.history good.place) (P.download_ask v)).1) (sym base) ∙ good.is)

  -- a number between 1 and that of the publications may be seen
  saw_holds : (w : world.World P) (pass n : ℕ) → Holds w → 1 ≤ n → n ≤ world.number P w → Holds (world.with_seen P w pass n)
  saw_holds w pass n holds some low = record {
    start = holds.start;
    legal = holds.legal;
    right = holds.right;
    sent = holds.sent;
    seen = λ p. case (λ b. (1 ≤ cond b n (w.seen p)) × (cond b n (w.seen p) ≤ world.number P w)) (eqb p pass) (λ _. (some, low)) (λ _. holds.seen p);
    tokens = holds.tokens;
    answers = holds.answers;
  }

  entered_holds : (w : world.World P) (pass : ℕ) (refused : Bool) → Holds w → Holds (world.entered P w pass refused)
  entered_holds w pass true holds = holds
  entered_holds w pass false holds = saw_holds w pass (world.number P w) holds (let many = longer w.older w.newest in omega (arith, many)) (omega arith)

  answered_holds : (w : world.World P) (pass : ℕ) (q : P.Request) → Holds w → Holds (world.answered P w pass q)
  answered_holds w pass q holds =
      let s = holds.seen pass in
      let p = at_below (world.publications P w) (w.seen pass - 1) (omega (arith, s.0, s.1)) in
      let new : world.Answer P = record { pass = pass; request = q; seen = w.seen pass; verdict = option_map (λ (r : world.Publication P). P.eval r.facts q) (world.seen_last P w pass) } in record {
        start = holds.start;
        legal = holds.legal;
        right = holds.right;
        sent = holds.sent;
        seen = holds.seen;
        tokens = holds.tokens;
        answers = λ a is. elim (Contains-cases new w.answers a is) [
          | inl is_new ↦ subst (λ (b : world.Answer P). world.IsAnswered P w b) is_new (p.0, p.1, ap (option_map (λ (r : world.Publication P). P.eval r.facts q)) p.1)
          | inr old ↦ holds.answers a old
        ];
      }

  told_holds : (w : world.World P) → Holds w → Holds (world.happens P w world.Event.Tell)
  told_holds w holds = record {
    start = holds.start;
    legal = holds.legal;
    right = holds.right;
    sent = holds.sent;
    seen = holds.seen;
    tokens = λ t is. elim (in_snoc w.tokens (world.number P w) t is) [ inl old ↦ holds.tokens t old | inr new ↦ omega (arith, new) ];
    answers = holds.answers;
  }

  learnt_holds : (w : world.World P) (pass : ℕ) (o : Option ℕ) → ((n : ℕ) → o ≡ Some n → n ≤ world.number P w) → Holds w → Holds (world.learnt P w pass o)
  learnt_holds w pass None low holds = holds
  learnt_holds w pass (Some n) low holds = let s = holds.seen pass in let l = low n refl in saw_holds w pass (max (w.seen pass) n) holds (omega (arith, s.0)) (omega (arith, s.1, l))

  publish_holds : (w : world.World P) (which : ℕ) (o : Option (world.Sent P)) → ((d : world.Sent P) → o ≡ Some d → Contains w.sent d) → Holds w → Holds (world.published_with P w which o)
  publish_holds w which None there holds = holds
  publish_holds w which (Some d) there holds =
      case (λ b. world.fits P w d ≡ b → Holds (cond b (world.published P w which d) w)) (world.fits P w d) (λ _ fits. published_holds w which d holds (there d refl) fits) (λ _ _. holds) refl

  pub happens_holds : (w : world.World P) (e : world.Event P) → Holds w → Holds (world.happens P w e)
  happens_holds w (world.Event.Admin a) holds = asked_holds w a holds
  happens_holds w world.Event.Download holds = downloaded_holds w holds
  happens_holds w (world.Event.Publish which) holds = publish_holds w which (slice_get w.sent which) (λ d is. Contains-slice_get w.sent which d is) holds
  happens_holds w (world.Event.Enter pass q refused) holds = answered_holds (world.entered P w pass refused) pass q (entered_holds w pass refused holds)
  happens_holds w world.Event.Tell holds = told_holds w holds
  happens_holds w (world.Event.Learn pass which) holds = learnt_holds w pass (slice_get w.tokens which) (λ n is. holds.tokens n (Contains-slice_get w.tokens which n is)) holds

  -- it holds after every list of events
  pub run_holds : (es : List (world.Event P)) (w : world.World P) → Holds w → Holds (world.run P es w)
  run_holds [] w holds = holds
  run_holds (e ∷ es) w holds = run_holds es (world.happens P w e) (happens_holds w e holds)

  pub opens : (s : P.State) (f : P.Facts) → IsStart s → P.view s ≡ Some f → Holds (world.opening P s f)
  opens s f start view = record {
    start = start;
    legal = legal_none P.transition s;
    right = record {
      numbered = λ i p is. elim (at_snoc [] first_one p i is) [ inl none ↦ absurd (none-some p none) | inr last ↦ subst (λ (q : world.Publication P). q.serial ≡ i + 1) last.1 (omega (arith, last.0)) ];
      first = λ p is. subst (λ (q : world.Publication P). q.seq ≡ 0) (same_Some first_one p is) refl;
      rising = λ i p q is after. absurd (none-some q after);
      within = λ i p is. absurd (none-some p is);
      viewed = λ i p is. elim (at_snoc [] first_one p i is) [ inl none ↦ absurd (none-some p none) | inr last ↦ subst (λ (q : world.Publication P). P.view (at_state s [] q.seq) ≡ Some q.facts) last.1 view ];
    };
    sent = λ d there. absurd (Contains-none d there);
    seen = λ pass. (omega arith, omega arith);
    tokens = λ t there. absurd (Contains-none t there);
    answers = λ a there. absurd (Contains-none a there);
  }
    where
      first_one : world.Publication P
      first_one = record { serial = 1; seq = 0; facts = f }

  -- ---- what a pass has seen never falls

  seen_entered : (w : world.World P) (pass q : ℕ) (refused : Bool) → Holds w → w.seen q ≤ (world.entered P w pass refused).seen q
  seen_entered w pass q true holds = omega arith
  seen_entered w pass q false holds = case (λ b. w.seen q ≤ cond b (world.number P w) (w.seen q)) (eqb q pass) (λ _. (holds.seen q).1) (λ _. omega arith)

  seen_learnt : (w : world.World P) (pass q : ℕ) (o : Option ℕ) → w.seen q ≤ (world.learnt P w pass o).seen q
  seen_learnt w pass q None = omega arith
  seen_learnt w pass q (Some n) = case (λ b. eqb q pass ≡ b → w.seen q ≤ cond b (max (w.seen pass) n) (w.seen q)) (eqb q pass)
      (λ _ is. let same = eqb-true q pass is in subst (λ m. w.seen q ≤ max (w.seen m) n) same (omega arith)) (λ _ _. omega arith) refl

  seen_downloaded : (w : world.World P) (q : ℕ) (o : Option P.Document) (from : P.Versions) (a : P.Ask) → w.seen q ≤ (world.asked P (world.sent_with P w from o) a).seen q
  seen_downloaded w q None from a = omega arith
  seen_downloaded w q (Some d) from a = omega arith

  seen_published : (w : world.World P) (which q : ℕ) (o : Option (world.Sent P)) → w.seen q ≤ (world.published_with P w which o).seen q
  seen_published w which q None = omega arith
  seen_published w which q (Some d) = case (λ b. w.seen q ≤ (cond b (world.published P w which d) w).seen q) (world.fits P w d) (λ _. omega arith) (λ _. omega arith)

  seen_rises : (w : world.World P) (e : world.Event P) (q : ℕ) → Holds w → w.seen q ≤ (world.happens P w e).seen q
  seen_rises w (world.Event.Admin a) q holds = omega arith
  seen_rises w world.Event.Download q holds =
      let from = P.versions w.newest.facts in seen_downloaded w q (P.document_of (P.transition (world.present P w) (P.download_ask from)).1) from (P.download_ask from)
  seen_rises w (world.Event.Publish which) q holds = seen_published w which q (slice_get w.sent which)
  seen_rises w (world.Event.Enter pass r refused) q holds = seen_entered w pass q refused holds
  seen_rises w world.Event.Tell q holds = omega arith
  seen_rises w (world.Event.Learn pass which) q holds = seen_learnt w pass q (slice_get w.tokens which)

  pub seen_never_falls : (es : List (world.Event P)) (w : world.World P) (q : ℕ) → Holds w → w.seen q ≤ (world.run P es w).seen q
  seen_never_falls [] w q holds = omega arith
  seen_never_falls (e ∷ es) w q holds =
      let once = seen_rises w e q holds in
      let later = seen_never_falls es (world.happens P w e) q (happens_holds w e holds) in
      omega (arith, once, later)

  -- and is at least each number learnt
  pub learnt_is_seen : (w : world.World P) (pass which n : ℕ) → slice_get w.tokens which ≡ Some n → n ≤ (world.happens P w (world.Event.Learn pass which)).seen pass
  learnt_is_seen w pass which n is = subst (λ (o : Option ℕ). n ≤ (world.learnt P w pass o).seen pass) (sym is)
      (case (λ b. eqb pass pass ≡ b → n ≤ cond b (max (w.seen pass) n) (w.seen pass)) (eqb pass pass) (λ _ _. omega arith) (λ _ other. absurd (false≢true (sym other ∙ eq-eqb pass pass refl))) refl)

-- events after others
pub run_append : (P : Parts) (es more : List (world.Event P)) (w : world.World P) → world.run P (es ++ more) w ≡ world.run P more (world.run P es w)
run_append P [] more w = refl
run_append P (e ∷ es) more w = run_append P es more (world.happens P w e)

-- no event changes where the history began
module _ (P : Parts) where
  start_downloaded : (w : world.World P) (o : Option P.Document) (from : P.Versions) (a : P.Ask) → (world.asked P (world.sent_with P w from o) a).start ≡ w.start
  start_downloaded w None from a = refl
  start_downloaded w (Some d) from a = refl

  start_published : (w : world.World P) (which : ℕ) (o : Option (world.Sent P)) → (world.published_with P w which o).start ≡ w.start
  start_published w which None = refl
  start_published w which (Some d) = case (λ b. (cond b (world.published P w which d) w).start ≡ w.start) (world.fits P w d) (λ _. refl) (λ _. refl)

  start_entered : (w : world.World P) (pass : ℕ) (refused : Bool) → (world.entered P w pass refused).start ≡ w.start
  start_entered w pass true = refl
  start_entered w pass false = refl

  start_learnt : (w : world.World P) (pass : ℕ) (o : Option ℕ) → (world.learnt P w pass o).start ≡ w.start
  start_learnt w pass None = refl
  start_learnt w pass (Some n) = refl

  start_kept : (w : world.World P) (e : world.Event P) → (world.happens P w e).start ≡ w.start
  start_kept w (world.Event.Admin a) = refl
  start_kept w world.Event.Download =
      let from = P.versions w.newest.facts in start_downloaded w (P.document_of (P.transition (world.present P w) (P.download_ask from)).1) from (P.download_ask from)
  start_kept w (world.Event.Publish which) = start_published w which (slice_get w.sent which)
  start_kept w (world.Event.Enter pass q refused) = start_entered w pass refused
  start_kept w world.Event.Tell = refl
  start_kept w (world.Event.Learn pass which) = start_learnt w pass (slice_get w.tokens which)

  pub run_start : (es : List (world.Event P)) (w : world.World P) → (world.run P es w).start ≡ w.start
  run_start [] w = refl
  run_start (e ∷ es) w = run_start es (world.happens P w e) ∙ start_kept w e
