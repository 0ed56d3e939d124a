-- How the world of a machine comes to a past, its publications and its answers.
use Rattle.std.proofs.Common.{◌≡◌, ◌∙◌, ℕ, suc, ◌+◌, ◌-◌, ◌==◌, ◌≤◌, ◌&&◌, true, false, not, List, [], ◌∷◌, ◌++◌, length, length-append, map, take, fold, Option, Some, option_map, slice_get, if◌then◌else◌, refl, ap, sym, subst, arith, append_assoc, append-nil}
use mathlib.Core.List.{reverse_aux}
use mathlib.Core.Logic.{dite}
use native.Mathlib.Decide.{dec_lt}
use Rattle.std.proofs.Math.Seq.{take-append_seam}
use Rattle.std.proofs.lemmas.Bool.Decides.{nat_tests}
use Rattle.std.proofs.lemmas.List.Sums.{fold_push}
use Rattle.std.proofs.lemmas.Option.{same_Some, slice_get_within}
use Rattle.rg_turn.specs.History.{IsLegal, state_after}
use Rattle.rg_turn.specs.View.{entry}
use Rattle.rg_turn.specs.declared.rule.Entry.{Entry}
use Rattle.rg_admin_laws.specs.World.{Answer, AreRight, Event, History, Parts, Publication, Sent, World, asked, happens, opening, published, publications, run, sent_with, with_seen}
use Rattle.rg_admin_laws.specs.World.Event.{Admin, Download, Publish, Enter}

pub get_seam : {A : Type 0} (xs : List A) (y : A) (ys : List A) → slice_get (xs ++ y ∷ ys) (length xs) ≡ Some y
get_seam [] y ys = refl
get_seam (x ∷ xs) y ys = get_seam xs y ys

get_next : {A : Type 0} (xs : List A) (y z : A) (ys : List A) → slice_get (xs ++ y ∷ z ∷ ys) (suc (length xs)) ≡ Some z
get_next [] y z ys = refl
get_next (x ∷ xs) y z ys = get_next xs y z ys

pub same_number : (n : ℕ) → (n == n) ≡ true
same_number n = grind (arith, nat_tests)

module _ (P : Parts) where
  -- the entry at the later one's seq is the plugin's download from the versions of the earlier one, and leads from there
  abbrev pub IsMade : History P → Publication P → Publication P → Type 0
  IsMade h p q = (reply : P.Reply) × (d : P.Document) × (slice_get h q.seq ≡ Some (entry (P.download_ask (P.versions p.facts)) reply)) × (P.document_of reply ≡ Some d)
      × (P.is_unchanged d ≡ false) × (P.seq_of d ≡ q.seq) × (P.led p.facts d ≡ q.facts)

  abbrev pub AreMade : History P → List (Publication P) → Type 0
  AreMade h ps = (i : ℕ) (p q : Publication P) → slice_get ps i ≡ Some p → slice_get ps (suc i) ≡ Some q → IsMade h p q

  -- which passes are asked what by the publication of a serial
  abbrev pub Asks : Type 0
  Asks = ℕ → List (ℕ × P.Request)

  abbrev pub answer : Publication P → ℕ × P.Request → Answer P
  answer p a = record { pass = a.0; request = a.1; seen = p.serial; verdict = Some (P.eval p.facts a.1) }

  -- with the answers by one publication more, the last of them first
  abbrev pub with_answers : Asks → List (Answer P) → Publication P → List (Answer P)
  with_answers asks all p = reverse_aux (map (answer p) (asks p.serial)) all

  abbrev pub all_answers : Asks → List (Publication P) → List (Answer P)
  all_answers asks ps = fold (with_answers asks) [] ps

module _ (P : Parts) (start : P.State) (h : History P) (ps : List (Publication P)) (asks : Asks P)
    (legal : IsLegal P.transition start h) (right : AreRight P start h ps) (made : AreMade P h ps) (same : (v : P.Versions) → P.same_versions v v ≡ true) where
  abbrev E : Type 0
  E = Entry P.Ask P.Reply

  -- no number is told
  abbrev the : History P → List (Sent P) → List (Publication P) → Publication P → (ℕ → ℕ) → List (Answer P) → World P
  the done sent older newest seen answers = record {
    start = start;
    history = done;
    sent = sent;
    older = older;
    newest = newest;
    tokens = [];
    seen = seen;
    answers = answers;
  }

  abbrev pub Reaches : World P → Type 0
  Reaches w = (events : List (Event P)) × ((run P events w).history ≡ h) × (publications P (run P events w) ≡ ps) × ((run P events w).answers ≡ all_answers P asks ps)

  by_event : (e : Event P) (w v : World P) → happens P w e ≡ v → Reaches v → Reaches w
  by_event e w v is r = let q = subst Reaches (sym is) r in (e ∷ q.0, q.1, q.2, q.3)

  -- ---- passes answer by the newest publication

  module _ (done : History P) (older : List (Publication P)) (p : Publication P) (numbered : length older + 1 ≡ p.serial) where
    abbrev here : (ℕ → ℕ) → List (Answer P) → World P
    here seen answers = the done [] older p seen answers

    abbrev last : ℕ
    last = length (older ++ p ∷ [])

    found : (n : ℕ) → n ≡ last → slice_get (older ++ p ∷ []) (n - 1) ≡ Some p
    found n is = subst (λ k. slice_get (older ++ p ∷ []) k ≡ Some p) (omega (arith, is, length-append older (p ∷ []))) (get_seam older p [])

    entered_is : (seen : ℕ → ℕ) (answers : List (Answer P)) (a : ℕ × P.Request)
        → happens P (here seen answers) (Enter a.0 a.1 false) ≡ here (with_seen P (here seen answers) a.0 last).seen (answer P p a ∷ answers)
    entered_is seen answers a =
        let now : (ℕ → ℕ) = (with_seen P (here seen answers) a.0 last).seen in
        let n : now a.0 ≡ last = ap (λ b. if◌then◌else◌ {A = ℕ} b last (seen a.0)) (same_number a.0) in
        let told : ℕ → Option P.Verdict → World P = λ k v. here now (record { pass = a.0; request = a.1; seen = k; verdict = v } ∷ answers) in
        ap (λ (v : Option P.Verdict). told (now a.0) v) (ap (option_map (λ (q : Publication P). P.eval q.facts a.1)) (found (now a.0) n))
        ∙ ap (λ k. told k (Some (P.eval p.facts a.1))) (n ∙ (length-append older (p ∷ []) ∙ numbered))

    by_answers : (xs : List (ℕ × P.Request)) (seen : ℕ → ℕ) (answers : List (Answer P))
        → ((seen' : ℕ → ℕ) → Reaches (here seen' (reverse_aux (map (answer P p) xs) answers))) → Reaches (here seen answers)
    by_answers [] seen answers r = r seen
    by_answers (a ∷ xs) seen answers r =
        by_event (Enter a.0 a.1 false) _ _ (entered_is seen answers a) (by_answers xs (with_seen P (here seen answers) a.0 last).seen (answer P p a ∷ answers) r)

  -- ---- an entry is made

  module _ (done : History P) (e : E) (rest : History P) (all : done ++ e ∷ rest ≡ h) where
    stands : slice_get h (length done) ≡ Some e
    stands = subst (λ (l : History P). slice_get l (length done) ≡ Some e) all (get_seam done e rest)

    reply_is : (P.transition (state_after P.transition start done) e.ask).1 ≡ e.reply
    reply_is = subst (λ (l : History P). (P.transition (state_after P.transition start l) e.ask).1 ≡ e.reply)
        (subst (λ (l : History P). take (length done) l ≡ done) all (take-append_seam done (e ∷ rest))) (legal (length done) e stands)

    module _ (older : List (Publication P)) (p : Publication P) (seen : ℕ → ℕ) (answers : List (Answer P)) where
      asked_is : happens P (the done [] older p seen answers) (Admin e.ask) ≡ the (done ++ e ∷ []) [] older p seen answers
      asked_is = ap (λ (r : P.Reply). the (done ++ entry e.ask r ∷ []) [] older p seen answers) reply_is

      -- it is the download that the next publication is made of
      module _ (d : P.Document) (q : Publication P) (ask : e.ask ≡ P.download_ask (P.versions p.facts)) (document : P.document_of e.reply ≡ Some d)
          (changed : P.is_unchanged d ≡ false) (serial : q.serial ≡ p.serial + 1) (seq : P.seq_of d ≡ q.seq) (leads : P.led p.facts d ≡ q.facts) where
        abbrev way : Sent P
        way = record { from = P.versions p.facts; document = d }

        downloaded_is : happens P (the done [] older p seen answers) Download ≡ the (done ++ e ∷ []) (way ∷ []) older p seen answers
        downloaded_is =
            let w = the done [] older p seen answers in
            let from = P.versions p.facts in
            let reply : (P.transition (state_after P.transition start done) (P.download_ask from)).1 ≡ e.reply =
            subst (λ (a : P.Ask). (P.transition (state_after P.transition start done) a).1 ≡ e.reply) ask reply_is
            in
            ap (λ (o : Option P.Document). asked P (sent_with P w from o) (P.download_ask from)) (ap P.document_of reply ∙ document)
            ∙ ap (λ (r : P.Reply). the (done ++ entry (P.download_ask from) r ∷ []) (way ∷ []) older p seen answers) reply
            ∙ ap (λ (a : P.Ask). the (done ++ entry a e.reply ∷ []) (way ∷ []) older p seen answers) (sym ask)

        published_is : happens P (the (done ++ e ∷ []) (way ∷ []) older p seen answers) (Publish 0) ≡ the (done ++ e ∷ []) [] (older ++ p ∷ []) q seen answers
        published_is =
            let w = the (done ++ e ∷ []) (way ∷ []) older p seen answers in
            let with : ℕ → ℕ → P.Facts → World P = λ n k f. the (done ++ e ∷ []) [] (older ++ p ∷ []) (record { serial = n; seq = k; facts = f }) seen answers in
            ap (λ b. if◌then◌else◌ {A = World P} (b && not (P.is_unchanged d)) (published P w 0 way) w) (same (P.versions p.facts))
            ∙ ap (λ b. if◌then◌else◌ {A = World P} (not b) (published P w 0 way) w) changed
            ∙ ap (λ n. with n (P.seq_of d) (P.led p.facts d)) (sym serial)
            ∙ ap (λ k. with q.serial k (P.led p.facts d)) seq
            ∙ ap (λ (f : P.Facts). with q.serial q.seq f) leads

        by_download : Reaches (the (done ++ e ∷ []) [] (older ++ p ∷ []) q seen answers) → Reaches (the done [] older p seen answers)
        by_download r = by_event Download _ _ downloaded_is (by_event (Publish 0) _ _ published_is r)

  -- ---- all entries

  serial_is : (older : List (Publication P)) (p : Publication P) (qs : List (Publication P)) → older ++ p ∷ qs ≡ ps → length older + 1 ≡ p.serial
  serial_is older p qs all = sym (right.numbered (length older) p (subst (λ (l : List (Publication P)). slice_get l (length older) ≡ Some p) all (get_seam older p qs)))

  reach : (rest done : History P) (older : List (Publication P)) (p : Publication P) (qs : List (Publication P)) (seen : ℕ → ℕ) → done ++ rest ≡ h → older ++ p ∷ qs ≡ ps
      → ((q : Publication P) → slice_get ps (suc (length older)) ≡ Some q → length done ≤ q.seq)
      → Reaches (the done [] older p seen (all_answers P asks (older ++ p ∷ [])))
  reach [] done older p [] seen is are late =
      ([], sym (append-nil done) ∙ is, are, ap (all_answers P asks) are)
  reach [] done older p (q ∷ qs) seen is are late =
      let there = subst (λ (l : List (Publication P)). slice_get l (suc (length older)) ≡ Some q) are (get_next older p q qs) in
      absurd (omega (arith, late q there, right.within (length older) q there, ap length is, length-append done []))
  reach (e ∷ rest) done older p [] seen is are late =
      by_event (Admin e.ask) _ _ (asked_is done e rest is older p seen (all_answers P asks (older ++ p ∷ [])))
      (reach rest (done ++ e ∷ []) older p [] seen (append_assoc done (e ∷ []) rest ∙ is) are
      (λ q at. absurd (omega (arith, slice_get_within ps (suc (length older)) q at, ap length are, length-append older (p ∷ [])))))
  reach (e ∷ rest) done older p (q ∷ qs) seen is are late =
      let first = subst (λ (l : List (Publication P)). slice_get l (length older) ≡ Some p) are (get_seam older p (q ∷ qs)) in
      let there = subst (λ (l : List (Publication P)). slice_get l (suc (length older)) ≡ Some q) are (get_next older p q qs) in
      let longer : length (done ++ e ∷ []) ≡ length done + 1 = length-append done (e ∷ []) in
      let is' = append_assoc done (e ∷ []) rest ∙ is in
      let answers = all_answers P asks (older ++ p ∷ []) in
      dite (dec_lt (length done) q.seq)
      (λ later.
      by_event (Admin e.ask) _ _ (asked_is done e rest is older p seen answers)
      (reach rest (done ++ e ∷ []) older p (q ∷ qs) seen is' are
      (λ r at. let s : q ≡ r = same_Some q r (sym there ∙ at) in omega (arith, longer, later, ap (λ (x : Publication P). x.seq) s))))
      (λ now.
      let at : q.seq ≡ length done = omega (arith, now, late q there) in
      let m = made (length older) p q first there in
      let one : entry (P.download_ask (P.versions p.facts)) m.0 ≡ e = same_Some _ e (sym m.2 ∙ (ap (slice_get h) at ∙ stands done e rest is)) in
      let ask = ap (λ (x : E). x.ask) (sym one) in
      let document = subst (λ (x : E). P.document_of x.reply ≡ Some m.1) one m.3 in
      let serial : q.serial ≡ p.serial + 1 = omega (arith, right.numbered (length older) p first, right.numbered (suc (length older)) q there) in
      let are' : (older ++ p ∷ []) ++ q ∷ qs ≡ ps = append_assoc older (p ∷ []) (q ∷ qs) ∙ are in
      let older_longer : length (older ++ p ∷ []) ≡ suc (length older) = omega (arith, length-append older (p ∷ [])) in
      by_download done e rest is older p seen answers m.1 q ask document m.4 serial m.5 m.6
      (by_answers (done ++ e ∷ []) (older ++ p ∷ []) q (serial_is (older ++ p ∷ []) q qs are') (asks q.serial) seen answers
      (λ seen'. subst (λ (a : List (Answer P)). Reaches (the (done ++ e ∷ []) [] (older ++ p ∷ []) q seen' a)) (fold_push (with_answers P asks) [] (older ++ p ∷ []) q)
      (reach rest (done ++ e ∷ []) (older ++ p ∷ []) q qs seen' is' are'
      (λ r after.
      let up = right.rising (suc (length older)) q r there (subst (λ n. slice_get ps n ≡ Some r) (ap suc older_longer) after) in omega (arith, up, at, longer))))))

  -- from the opening on
  pub reached : (p : Publication P) (qs : List (Publication P)) → p ∷ qs ≡ ps → Reaches (opening P start p.facts)
  reached p qs are =
      let there = subst (λ (l : List (Publication P)). slice_get l 0 ≡ Some p) are refl in
      let serial : p.serial ≡ 1 = right.numbered 0 p there in
      let seq : p.seq ≡ 0 = right.first p there in
      let with : ℕ → ℕ → World P = λ n k. the [] [] [] (record { serial = n; seq = k; facts = p.facts }) (λ _. 1) [] in
      let opened : opening P start p.facts ≡ the [] [] [] p (λ _. 1) [] = ap (λ n. with n 0) (sym serial) ∙ ap (λ k. with p.serial k) (sym seq) in
      subst Reaches (sym opened)
      (by_answers [] [] p (omega (arith, serial)) (asks p.serial) (λ _. 1) []
      (λ seen'. reach h [] [] p qs seen' refl are (λ q at. omega arith)))
