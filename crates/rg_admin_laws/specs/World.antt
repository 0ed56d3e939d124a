-- The world of any machine that gives views and downloads: one history, documents on the way, publications, and passes that decide by them.
use Rattle.std.specs.Prelude.{◌≡◌, ℕ, zero, suc, ◌-◌, ◌==◌, ◌+◌, ◌<◌, max, Bool, not, ◌&&◌, List, [], ◌∷◌, ◌++◌, length, Option, Some, None, option_map, slice_get, if◌then◌else◌}
use Rattle.rg_turn.specs.History.{state_after, state_at}
use Rattle.rg_turn.specs.View.{entry}
use Rattle.rg_turn.specs.declared.rule.Entry.{Entry}

-- a machine with the view of its plugin, the plugin's downloads, and decisions over views
pub record Parts : Type 1 where
  pub State : Type 0
  pub Ask : Type 0
  pub Reply : Type 0
  pub Facts : Type 0
  pub Versions : Type 0
  pub Document : Type 0
  pub Request : Type 0
  pub Verdict : Type 0
  -- the state after an ask, and the reply
  pub transition : State → Ask → State × Reply
  -- what the plugin sees
  pub view : State → Option Facts
  pub versions : Facts → Versions
  pub same_versions : Versions → Versions → Bool
  -- the plugin's download from these versions, and the document of its reply
  pub download_ask : Versions → Ask
  pub document_of : Reply → Option Document
  -- how many entries came before the document
  pub seq_of : Document → ℕ
  -- nothing in it changed
  pub is_unchanged : Document → Bool
  -- the facts to which it leads from these
  pub led : Facts → Document → Facts
  pub eval : Facts → Request → Verdict

-- all but the item at this place
abbrev pub without_at : {X : Type 0} → ℕ → List X → List X
without_at n [] = []
without_at zero (x ∷ xs) = xs
without_at (suc n) (x ∷ xs) = x ∷ without_at n xs

module _ (P : Parts) where
  abbrev pub History : Type 0
  History = List (Entry P.Ask P.Reply)

  -- ---- publications

  pub record Publication : Type 0 where
    -- which publication it is: the first is 1
    pub serial : ℕ
    -- after how many entries the state is that it shows
    pub seq : ℕ
    pub facts : P.Facts

  -- the serials are 1, 2, 3 and so on
  abbrev pub AreNumbered : List Publication → Type 0
  AreNumbered ps = (i : ℕ) (p : Publication) → slice_get ps i ≡ Some p → p.serial ≡ i + 1

  -- publications that are right for a history: the first seq is 0, each later one is greater than the one before and less than
  -- the number of entries, and each shows the plugin's view in the state after that many entries
  pub record AreRight (start : P.State) (h : History) (ps : List Publication) : Type 0 where
    pub numbered : AreNumbered ps
    pub first : (p : Publication) → slice_get ps 0 ≡ Some p → p.seq ≡ 0
    pub rising : (i : ℕ) (p q : Publication) → slice_get ps i ≡ Some p → slice_get ps (suc i) ≡ Some q → p.seq < q.seq
    pub within : (i : ℕ) (p : Publication) → slice_get ps (suc i) ≡ Some p → p.seq < length h
    pub viewed : (i : ℕ) (p : Publication) → slice_get ps i ≡ Some p → P.view (state_at P.transition start h p.seq) ≡ Some p.facts

  -- ---- the world

  -- a document on the way, and the versions that it was asked from
  pub record Sent : Type 0 where
    pub from : P.Versions
    pub document : P.Document

  -- the answer of a pass to a request, and how many publications the pass had seen
  pub record Answer : Type 0 where
    pub pass : ℕ
    pub request : P.Request
    pub seen : ℕ
    pub verdict : Option P.Verdict

  pub record World : Type 0 where
    pub start : P.State
    pub history : History
    -- the documents on the way
    pub sent : List Sent
    -- the publications before the last, and the last
    pub older : List Publication
    pub newest : Publication
    -- the numbers that were told
    pub tokens : List ℕ
    -- how many publications each pass has seen
    pub seen : ℕ → ℕ
    pub answers : List Answer

  abbrev pub publications : World → List Publication
  publications w = w.older ++ w.newest ∷ []

  abbrev pub number : World → ℕ
  number w = length (publications w)

  abbrev pub present : World → P.State
  present w = state_after P.transition w.start w.history

  -- nothing happened yet: there is one publication, of the start's view, which each pass has seen
  abbrev pub opening : P.State → P.Facts → World
  opening start facts = record {
    start = start;
    history = [];
    sent = [];
    older = [];
    newest = record { serial = 1; seq = 0; facts = facts };
    tokens = [];
    seen = λ _. 1;
    answers = [];
  }

  -- ---- events

  pub data Event : Type 0 where
    -- the machine is asked
    Admin : P.Ask → Event
    -- the plugin's download from the versions of the last publication; its document is on the way
    Download : Event
    -- the document at this place is published
    Publish : (which : ℕ) → Event
    -- the pass enters, unless that is refused, and answers the request
    Enter : (pass : ℕ) → P.Request → (refused : Bool) → Event
    -- the number of publications is told
    Tell : Event
    -- the pass learns the number at this place
    Learn : (pass : ℕ) → (which : ℕ) → Event

  -- the history gets the ask with its reply
  abbrev pub asked : World → P.Ask → World
  asked w ask = record w { history = w.history ++ entry ask (P.transition (present w) ask).1 ∷ [] }

  abbrev pub sent_with : World → P.Versions → Option P.Document → World
  sent_with w from None = w
  sent_with w from (Some d) = record w { sent = record { from = from; document = d } ∷ w.sent }

  abbrev pub downloaded_from : World → P.Versions → World
  downloaded_from w from = asked (sent_with w from (P.document_of (P.transition (present w) (P.download_ask from)).1)) (P.download_ask from)

  -- the versions that the document was asked from are the last publication's, and something in it changed
  abbrev pub fits : World → Sent → Bool
  fits w d = P.same_versions d.from (P.versions w.newest.facts) && not (P.is_unchanged d.document)

  -- the document leaves, and the facts to which it leads are published with its seq
  abbrev pub published : World → ℕ → Sent → World
  published w which d = record w {
    sent = without_at which w.sent;
    older = publications w;
    newest = record { serial = w.newest.serial + 1; seq = P.seq_of d.document; facts = P.led w.newest.facts d.document };
  }

  abbrev pub published_with : World → ℕ → Option Sent → World
  published_with w which None = w
  published_with w which (Some d) = if fits w d then published w which d else w

  abbrev pub with_seen : World → ℕ → ℕ → World
  with_seen w pass n = record w { seen = λ p. if p == pass then n else w.seen p }

  abbrev pub entered : World → ℕ → Bool → World
  entered w pass refused = if refused then w else with_seen w pass (number w)

  -- the last publication that the pass has seen
  abbrev pub seen_last : World → ℕ → Option Publication
  seen_last w pass = slice_get (publications w) (w.seen pass - 1)

  -- the answer is by that
  abbrev pub answered : World → ℕ → P.Request → World
  answered w pass request = record w {
    answers = record { pass = pass; request = request; seen = w.seen pass; verdict = option_map (λ (p : Publication). P.eval p.facts request) (seen_last w pass) } ∷ w.answers;
  }

  -- the greater of the two numbers
  abbrev pub learnt : World → ℕ → Option ℕ → World
  learnt w pass None = w
  learnt w pass (Some n) = with_seen w pass (max (w.seen pass) n)

  -- the world after an event; one that isn't possible changes nothing
  abbrev pub happens : World → Event → World
  happens w (Admin ask) = asked w ask
  happens w Download = downloaded_from w (P.versions w.newest.facts)
  happens w (Publish which) = published_with w which (slice_get w.sent which)
  happens w (Enter pass request refused) = answered (entered w pass refused) pass request
  happens w Tell = record w { tokens = w.tokens ++ number w ∷ [] }
  happens w (Learn pass which) = learnt w pass (slice_get w.tokens which)

  abbrev pub run : List Event → World → World
  run [] w = w
  run (e ∷ es) w = run es (happens w e)

  -- an answer is the evaluation over the last publication that its pass had seen
  abbrev pub IsAnswered : World → Answer → Type 0
  IsAnswered w a = (p : Publication) × (slice_get (publications w) (a.seen - 1) ≡ Some p) × (a.verdict ≡ Some (P.eval p.facts a.request))
