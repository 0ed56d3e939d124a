-- Where passes are asked as their decisions say, the answers of each pass are its decisions, in order.
use Rattle.std.proofs.Common.{◌≡◌, ◌∙◌, ℕ, zero, suc, ◌+◌, ◌-◌, ◌==◌, ◌<◌, ◌≤◌, Bool, true, false, List, [], ◌∷◌, ◌++◌, length, length-append, filter, map, fold, Option, Some, option_map, slice_get, if◌then◌else◌, refl, ap, sym, subst, arith, append_assoc, append-nil}
use mathlib.Core.List.{reverse, reverse_aux}
use mathlib.Core.Logic.{dite}
use native.Mathlib.Decide.{ℕ_discrete}
use Rattle.std.proofs.lemmas.Bool.Decides.{nat_tests}
use Rattle.std.proofs.lemmas.List.{map-append}
use Rattle.std.proofs.lemmas.Option.{none-some, same_Some}
use Rattle.rg_admin_laws.specs.World.{Answer, AreNumbered, Parts, Publication}
use Rattle.rg_link.specs.Workers.{Rises}
use Rattle.rg_serve.proofs.Reaching.{Asks, all_answers, answer, get_seam, same_number, with_answers}

other_is : (m n : ℕ) → (m ≡ n → ⊥) → (m == n) ≡ false
other_is m n other = grind (arith, nat_tests, other)

rises_high : (low : ℕ) (ns : List ℕ) (high : ℕ) → Rises low ns high → low ≤ high
rises_high low [] high r = r
rises_high low (n ∷ ns) high r = omega (arith, r.0, rises_high n ns high r.1)

module _ (P : Parts) where
  abbrev As : Type 0
  As = List (Answer P)

  abbrev Rs : Type 0
  Rs = List (ℕ × P.Request)

  -- the serial of the publication that decided, and what the pass was asked
  abbrev pub Decision : Type 0
  Decision = ℕ × P.Request

  abbrev pub serials_of : List Decision → List ℕ
  serials_of ds = map (λ (d : Decision). d.0) ds

  -- the decisions of a pass that have this serial
  by_serial : ℕ → ℕ → List Decision → Rs
  by_serial pass n [] = []
  by_serial pass n (d ∷ ds) = if◌then◌else◌ {A = Rs} (d.0 == n) ((pass, d.1) ∷ by_serial pass n ds) (by_serial pass n ds)

  -- those of all passes, which are numbered from here on
  pub asked_by : ℕ → List (List Decision) → Asks P
  asked_by pass [] n = []
  asked_by pass (ds ∷ rest) n = by_serial pass n ds ++ asked_by (suc pass) rest n

  abbrev pub is_of : ℕ → Answer P → Bool
  is_of pass a = a.pass == pass

  abbrev pub of_pass : ℕ → As → As
  of_pass pass answers = filter (is_of pass) answers

  -- the answer by the publication of the decision's serial
  abbrev pub answer_by : List (Publication P) → ℕ → Decision → Answer P
  answer_by ps pass d = record { pass = pass; request = d.1; seen = d.0; verdict = option_map (λ (p : Publication P). P.eval p.facts d.1) (slice_get ps (d.0 - 1)) }

  -- ---- one pass among answers

  of_onto : (i : ℕ) (xs acc : As) → of_pass i (reverse_aux xs acc) ≡ reverse_aux (of_pass i xs) (of_pass i acc)
  of_onto i [] acc = refl
  of_onto i (x ∷ xs) acc = of_onto i xs (x ∷ acc) ∙ either_way (x.pass == i)
    where
      either_way : (b : Bool) → reverse_aux (of_pass i xs) (if◌then◌else◌ {A = As} b (x ∷ of_pass i acc) (of_pass i acc)) ≡ reverse_aux (if◌then◌else◌ {A = As} b (x ∷ of_pass i xs) (of_pass i xs)) (of_pass i acc)
      either_way true = refl
      either_way false = refl

  of_append : (i : ℕ) (xs ys : As) → of_pass i (xs ++ ys) ≡ of_pass i xs ++ of_pass i ys
  of_append i [] ys = refl
  of_append i (x ∷ xs) ys = ap (λ (l : As). if◌then◌else◌ {A = As} (x.pass == i) (x ∷ l) l) (of_append i xs ys) ∙ either_way (x.pass == i)
    where
      either_way : (b : Bool) → if◌then◌else◌ {A = As} b (x ∷ of_pass i xs ++ of_pass i ys) (of_pass i xs ++ of_pass i ys) ≡ if◌then◌else◌ {A = As} b (x ∷ of_pass i xs) (of_pass i xs) ++ of_pass i ys
      either_way true = refl
      either_way false = refl

  module _ (p : Publication P) (n : ℕ) where
    abbrev told : Rs → As
    told xs = map (answer P p) xs

    own : (i : ℕ) (ds : List Decision) → of_pass i (told (by_serial i n ds)) ≡ told (by_serial i n ds)
    unfolding by_serial
    own i [] = refl
    own i (d ∷ ds) = either_way (own i ds) (d.0 == n)
      where
        either_way : of_pass i (told (by_serial i n ds)) ≡ told (by_serial i n ds) → (b : Bool) → of_pass i (told (if◌then◌else◌ {A = Rs} b ((i, d.1) ∷ by_serial i n ds) (by_serial i n ds))) ≡ told (if◌then◌else◌ {A = Rs} b ((i, d.1) ∷ by_serial i n ds) (by_serial i n ds))
        either_way rest true =
            ap (λ b. if◌then◌else◌ {A = As} b (answer P p (i, d.1) ∷ of_pass i (told (by_serial i n ds))) (of_pass i (told (by_serial i n ds)))) (same_number i)
            ∙ ap (λ (l : As). answer P p (i, d.1) ∷ l) rest
        either_way rest false = rest

    others : (i j : ℕ) → (j ≡ i → ⊥) → (ds : List Decision) → of_pass i (told (by_serial j n ds)) ≡ []
    unfolding by_serial
    others i j apart [] = refl
    others i j apart (d ∷ ds) = either_way (others i j apart ds) (d.0 == n)
      where
        either_way : of_pass i (told (by_serial j n ds)) ≡ [] → (b : Bool) → of_pass i (told (if◌then◌else◌ {A = Rs} b ((j, d.1) ∷ by_serial j n ds) (by_serial j n ds))) ≡ []
        either_way rest true =
            ap (λ b. if◌then◌else◌ {A = As} b (answer P p (j, d.1) ∷ of_pass i (told (by_serial j n ds))) (of_pass i (told (by_serial j n ds)))) (other_is j i apart)
            ∙ rest
        either_way rest false = rest

    -- those of the first of these passes, and those of the rest
    parted : (i j : ℕ) (ds : List Decision) (rest : List (List Decision)) → of_pass i (told (asked_by j (ds ∷ rest) n)) ≡ of_pass i (told (by_serial j n ds)) ++ of_pass i (told (asked_by (suc j) rest n))
    unfolding asked_by
    parted i j ds rest =
        ap (of_pass i) (map-append (answer P p) (by_serial j n ds) (asked_by (suc j) rest n)) ∙ of_append i (told (by_serial j n ds)) (told (asked_by (suc j) rest n))

    none_later : (i j : ℕ) → i < j → (rest : List (List Decision)) → of_pass i (told (asked_by j rest n)) ≡ []
    unfolding asked_by
    none_later i j low [] = refl
    none_later i j low (ds ∷ rest) =
        parted i j ds rest
        ∙ ap (λ (l : As). l ++ of_pass i (told (asked_by (suc j) rest n))) (others i j (λ same. omega (arith, low, same)) ds)
        ∙ none_later i (suc j) (omega (arith, low)) rest

    one_pass : (i j k : ℕ) → i ≡ j + k → (rest : List (List Decision)) (ds : List Decision) → slice_get rest k ≡ Some ds → of_pass i (told (asked_by j rest n)) ≡ told (by_serial i n ds)
    one_pass i j k is [] ds at = absurd (none-some ds at)
    one_pass i j zero is (es ∷ rest) ds at =
        parted i j es rest
        ∙ ap (λ (l : As). of_pass i (told (by_serial j n es)) ++ l) (none_later i (suc j) (omega (arith, is)) rest)
        ∙ append-nil (of_pass i (told (by_serial j n es)))
        ∙ ap (λ m. of_pass i (told (by_serial m n es))) (omega (arith, is))
        ∙ own i es
        ∙ ap (λ (l : List Decision). told (by_serial i n l)) (same_Some es ds at)
    one_pass i j (suc k) is (es ∷ rest) ds at =
        parted i j es rest
        ∙ ap (λ (l : As). l ++ of_pass i (told (asked_by (suc j) rest n))) (others i j (λ same. omega (arith, is, same)) es)
        ∙ one_pass i (suc j) k (omega (arith, is)) rest ds at

  -- ---- all its answers

  module _ (all : List (List Decision)) (i : ℕ) where
    abbrev adds : List Decision → As → Publication P → As
    adds ds acc p = reverse_aux (map (answer P p) (by_serial i p.serial ds)) acc

    alone : (ds : List Decision) → slice_get all i ≡ Some ds → (ps : List (Publication P)) (acc : As) → of_pass i (fold (with_answers P (asked_by 0 all)) acc ps) ≡ fold (adds ds) (of_pass i acc) ps
    alone ds at [] acc = refl
    alone ds at (p ∷ ps) acc =
        alone ds at ps (with_answers P (asked_by 0 all) acc p)
        ∙ ap (λ (a : As). fold (adds ds) a ps)
        (of_onto i (map (answer P p) (asked_by 0 all p.serial)) acc ∙ ap (λ (l : As). reverse_aux l (of_pass i acc)) (one_pass p p.serial i 0 i (omega arith) all ds at))

    -- the serials of these publications are those after n
    abbrev After : ℕ → List (Publication P) → Type 0
    After n [] = Unit {0}
    After n (q ∷ qs) = (q.serial ≡ n + 1) × After (n + 1) qs

    without_head : (d : Decision) (ds : List Decision) (qs : List (Publication P)) (n : ℕ) (acc : As) → d.0 ≤ n → After n qs → fold (adds (d ∷ ds)) acc qs ≡ fold (adds ds) acc qs
    unfolding by_serial
    without_head d ds [] n acc low after = refl
    without_head d ds (q ∷ qs) n acc low after =
        ap (λ b. fold (adds (d ∷ ds)) (reverse_aux (map (answer P q) (if◌then◌else◌ {A = Rs} b ((i, d.1) ∷ by_serial i q.serial ds) (by_serial i q.serial ds))) acc) qs)
        (other_is d.0 q.serial (λ same. omega (arith, low, same, after.0)))
        ∙ without_head d ds qs (n + 1) (adds ds acc q) (omega (arith, low)) after.1

    none_above : (n low high : ℕ) (ds : List Decision) → n < low → Rises low (serials_of ds) high → by_serial i n ds ≡ []
    unfolding by_serial
    none_above n low high [] up r = refl
    none_above n low high (d ∷ ds) up r =
        ap (λ b. if◌then◌else◌ {A = Rs} b ((i, d.1) ∷ by_serial i n ds) (by_serial i n ds)) (other_is d.0 n (λ same. omega (arith, up, r.0, same)))
        ∙ none_above n d.0 high ds (omega (arith, up, r.0)) r.1

    none_left : (qs : List (Publication P)) (acc : As) → fold (adds []) acc qs ≡ acc
    unfolding by_serial
    none_left [] acc = refl
    none_left (q ∷ qs) acc = none_left qs acc

    -- a decision of this publication
    head_here : (q : Publication P) (d : Decision) (ds : List Decision) (acc : As) → d.0 ≡ q.serial → adds (d ∷ ds) acc q ≡ adds ds (answer P q (i, d.1) ∷ acc) q
    unfolding by_serial
    head_here q d ds acc same =
        ap (λ b. reverse_aux (map (answer P q) (if◌then◌else◌ {A = Rs} b ((i, d.1) ∷ by_serial i q.serial ds) (by_serial i q.serial ds))) acc)
        (ap (λ k. k == q.serial) same ∙ same_number q.serial)

    module _ (ps : List (Publication P)) where
      abbrev Rising : ℕ → List Decision → Type 0
      Rising low ds = Rises low (serials_of ds) (length ps)

      abbrev all_by : List Decision → As → As
      all_by ds acc = reverse_aux (map (answer_by ps i) ds) acc

      one_more : (q : Publication P) (qs : List (Publication P)) (n : ℕ) → q.serial ≡ n → slice_get ps (n - 1) ≡ Some q → After n qs
          → ((ds : List Decision) (acc : As) → Rising (n + 1) ds → fold (adds ds) acc qs ≡ all_by ds acc)
          → (ds : List Decision) (acc : As) → Rising n ds → fold (adds ds) acc (q ∷ qs) ≡ all_by ds acc
      one_more q qs n is there after later [] acc r = none_left (q ∷ qs) acc
      one_more q qs n is there after later (d ∷ ds) acc r = dite (ℕ_discrete d.0 n)
          (λ same.
          let a : Answer P = answer P q (i, d.1) in
          let verdict : Publication P → P.Verdict = λ p. P.eval p.facts d.1 in
          let mine : answer_by ps i d ≡ a =
          ap (λ (o : Option P.Verdict). record { pass = i; request = d.1; seen = d.0; verdict = o }) (ap (λ k. option_map verdict (slice_get ps (k - 1))) same ∙ ap (option_map verdict) there)
          ∙ ap (λ k. record { pass = i; request = d.1; seen = k; verdict = Some (verdict q) }) (same ∙ sym is)
          in
          without_head d ds qs n (adds (d ∷ ds) acc q) (omega (arith, same)) after
          ∙ ap (λ (l : As). fold (adds ds) l qs) (head_here q d ds acc (same ∙ sym is))
          ∙ one_more q qs n is there after later ds (a ∷ acc) (subst (λ k. Rising k ds) same r.1)
          ∙ ap (λ (x : Answer P). all_by ds (x ∷ acc)) (sym mine))
          (λ other.
          let up : n + 1 ≤ d.0 = omega (arith, other, r.0) in
          ap (λ (l : Rs). fold (adds (d ∷ ds)) (reverse_aux (map (answer P q) l) acc) qs) (none_above q.serial (n + 1) (length ps) (d ∷ ds) (omega (arith, is)) (up, r.1))
          ∙ later (d ∷ ds) acc (up, r.1))

      all_of : (qs done : List (Publication P)) → done ++ qs ≡ ps → After (length done) qs → (ds : List Decision) (acc : As) → Rising (length done + 1) ds → fold (adds ds) acc qs ≡ all_by ds acc
      all_of [] done is after [] acc r = refl
      all_of [] done is after (d ∷ ds) acc r = absurd (omega (arith, r.0, rises_high d.0 (serials_of ds) (length ps) r.1, ap length is, length-append done []))
      all_of (q ∷ qs) done is after ds acc r =
          let longer : length (done ++ q ∷ []) ≡ length done + 1 = length-append done (q ∷ []) in
          one_more q qs (length done + 1) after.0
          (subst (λ k. slice_get ps k ≡ Some q) (omega arith) (subst (λ (l : List (Publication P)). slice_get l (length done) ≡ Some q) is (get_seam done q qs)))
          after.1
          (λ es a s. all_of qs (done ++ q ∷ []) (append_assoc done (q ∷ []) qs ∙ is) (subst (λ k. After k qs) (sym longer) after.1) es a (subst (λ k. Rising (k + 1) es) (sym longer) s))
          ds acc r

      after_all : AreNumbered P ps → (qs done : List (Publication P)) → done ++ qs ≡ ps → After (length done) qs
      after_all numbered [] done is = tt
      after_all numbered (q ∷ qs) done is = (
        numbered (length done) q (subst (λ (l : List (Publication P)). slice_get l (length done) ≡ Some q) is (get_seam done q qs)),
        subst (λ k. After k qs) (length-append done (q ∷ [])) (after_all numbered qs (done ++ q ∷ []) (append_assoc done (q ∷ []) qs ∙ is)),
      )

      pub answers_are : AreNumbered P ps → (ds : List Decision) → slice_get all i ≡ Some ds → Rising 1 ds → of_pass i (all_answers P (asked_by 0 all) ps) ≡ reverse (map (answer_by ps i) ds)
      answers_are numbered ds at rising = alone ds at ps [] ∙ all_of ps [] refl (after_all numbered ps [] refl) ds [] rising
