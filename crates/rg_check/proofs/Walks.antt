-- From a check line by line to all that is found.
use Rattle.std.proofs.Common.{◌≡◌, ◌⊎◌, ◌+◌, ◌<◌, ◌≤◌, ◌^◌, ◌==◌, ◌&&◌, ◌∙◌, ◌++◌, ◌∷◌, [], arith, inl, inr, ℕ, suc, Bool, true, false, List, length, Option, Some, None, option_map, append_assoc, append-nil, refl, ap, sym, subst, if◌then◌else◌}
use Rattle.std.specs.Option.{option_map_or}
use Rattle.std.proofs.Math.Nat.{min-eq_left}
use Rattle.std.proofs.Math.Numerals.{suc-eq-add-one}
use Rattle.std.proofs.lemmas.Bool.Decides.{nat_tests}
use Rattle.rg_base.specs.declared.numbers.Moment.{Moment}
use Rattle.rg_script.specs.declared.cause.Cause.{Cause}
use Rattle.rg_script.specs.declared.cause.Place.TheVariants.{Start}
use Rattle.rg_script.specs.Lines.{begins_with_feed, lines_of, onto}
use Rattle.rg_run_script.specs.declared.status.Status.{Status}
use Rattle.rg_run_script.specs.declared.status.Status.TheVariants.{Done, BadLine}
use Rattle.rg_run_script.specs.Follow.{Comes, Decided, Output, Script, before, worked}
use Rattle.rg_check.specs.declared.checker.Checker.{Checker}
use Rattle.rg_check.specs.declared.command.Command.{Command}
use Rattle.rg_check.specs.declared.kind.LineKind.{LineKind}
use Rattle.rg_check.specs.Causes.{cause_text, end_text}
use Rattle.rg_check.specs.Checking.{Finding, checked, finding, finding_line, found_by, is_bad_end, outcome, report, status_of}
use Rattle.rg_check.specs.Kinds.{place_after}
use Rattle.rg_check.specs.Reasons.{kind_at, reason_at}
use Rattle.rg_check.specs.Walking.{begins, check_step, end_told, ending, found_from, line_work, next_number, status_after}

-- ---- how many lines there are

onto_length : (b n : ℕ) (lines : List (List ℕ)) → length lines ≤ n → length (onto b lines) ≤ n + 1
onto_length b n [] h = omega arith
onto_length b n (line ∷ lines) h = omega arith

line_more : (feed skipped : Bool) (b n : ℕ) (lines : List (List ℕ)) → length lines ≤ n
    → length (if feed then [] ∷ lines else (if skipped then lines else onto b lines)) ≤ n + 1
line_more true skipped b n lines h = omega arith
line_more false true b n lines h = omega arith
line_more false false b n lines h = onto_length b n lines h

few_lines : (bytes : List ℕ) → length (lines_of bytes) ≤ length bytes
few_lines [] = omega arith
few_lines (b ∷ bs) =
    subst (λ n. length (lines_of (b ∷ bs)) ≤ n) (sym (suc-eq-add-one (length bs))) (line_more (b == 10) (b == 13 && begins_with_feed bs) b (length bs) (lines_of bs) (few_lines bs))

-- ---- one line

pub some_same : {X : Type 0} (a b : X) → Some a ≡ Some b → a ≡ b
some_same {X} a b e = ap (λ o. option_map_or (λ (x : X). x) o a) e

pub none_some : {X A : Type 0} {x : X} → None ≡ Some x → A
none_some e = absurd (let no : ⊥ = cc in no)

-- what is found in these lines from here on is what the output says, and what stands behind its last line
record Walked (lines : List (List ℕ)) (moments : List Moment) (c : Checker) (o : Output Checker) : Type 0 where
  pub even : length lines ≡ length moments
  pub done : o.status ≡ Done
  pub text : o.text ++ report (ending o.state) ≡ report (found_from c.command c.place c.number lines moments)
  pub status : status_after o.state.found (ending o.state) ≡ status_after c.found (found_from c.command c.place c.number lines moments)

next_is : (n k : ℕ) → n + (k + 1) < 2 ^ 64 → next_number n ≡ n + 1
next_is n k h = min-eq_left (omega (arith, h))

status_more : (b : Bool) (f : Finding) (fs : List Finding) → status_after true fs ≡ status_after b (f ∷ fs)
status_more b f [] = refl
status_more b f (g ∷ gs) = refl

status_first : (fs : List Finding) → status_after false fs ≡ status_of fs
status_first [] = refl
status_first (f ∷ fs) = refl

module _ (line : List ℕ) (lines : List (List ℕ)) (m : Moment) (ms : List Moment) (c : Checker) (few : c.number + (length lines + 1) < 2 ^ 64) where
  -- what is found where the first line has this cause
  abbrev found_with : Option Cause → List Finding
  found_with cause =
      option_map_or (λ cause. finding c.number (cause_text c.command c.place (kind_at c.command line m) cause) ∷ found_from c.command c.place (c.number + 1) lines ms) cause
      (found_from c.command (place_after c.place (kind_at c.command line m)) (c.number + 1) lines ms)

  record WalkedOn (fs : List Finding) (o : Output Checker) : Type 0 where
    pub even : length lines ≡ length ms
    pub done : o.status ≡ Done
    pub text : o.text ++ report (ending o.state) ≡ report fs
    pub status : status_after o.state.found (ending o.state) ≡ status_after c.found fs

  same_next : next_number c.number ≡ c.number + 1
  same_next = next_is c.number (length lines) few

  with_cause : (cause : Option Cause) (o : Output Checker) → Walked lines ms (line_work c cause (kind_at c.command line m)).state o
      → WalkedOn (found_with cause) (before (line_work c cause (kind_at c.command line m)).text [] o)
  with_cause None o w = record {
    even = w.even;
    done = w.done;
    text = w.text ∙ ap (λ n. report (found_from c.command (place_after c.place (kind_at c.command line m)) n lines ms)) same_next;
    status = w.status ∙ ap (λ n. status_after c.found (found_from c.command (place_after c.place (kind_at c.command line m)) n lines ms)) same_next;
  }
  with_cause (Some cause) o w =
      let named : List ℕ = finding_line c.number (cause_text c.command c.place (kind_at c.command line m) cause) in
      record {
        even = w.even;
        done = w.done;
        text = append_assoc named o.text (report (ending o.state))
            ∙ ap (λ t. named ++ t) (w.text ∙ ap (λ n. report (found_from c.command c.place n lines ms)) same_next);
        status = w.status ∙ ap (λ n. status_after true (found_from c.command c.place n lines ms)) same_next
            ∙ status_more c.found (finding c.number (cause_text c.command c.place (kind_at c.command line m) cause)) (found_from c.command c.place (c.number + 1) lines ms);
      }

-- ---- all lines

module _ (line : List ℕ) (lines : List (List ℕ)) (m : Moment) (ms : List Moment) (c : Checker) (k : ℕ) (few : c.number + (length lines + 1) < 2 ^ 64)
    (o : Output Checker) (rest : (r : Output Checker) → worked check_step (line_work c (reason_at c.command c.place line m) (kind_at c.command line m)).state (k + 1) lines ms ≡ Some r
    → Walked lines ms (line_work c (reason_at c.command c.place line m) (kind_at c.command line m)).state r) where
  on : (r : Option (Output Checker)) → worked check_step (line_work c (reason_at c.command c.place line m) (kind_at c.command line m)).state (k + 1) lines ms ≡ r
      → option_map (before (line_work c (reason_at c.command c.place line m) (kind_at c.command line m)).text []) r ≡ Some o → Walked (line ∷ lines) (m ∷ ms) c o
  on None is e = none_some e
  on (Some r) is e = subst (Walked (line ∷ lines) (m ∷ ms) c) (some_same _ o e)
      (whole_of (with_cause line lines m ms c few (reason_at c.command c.place line m) r (rest r is)))
    where
      whole_of : WalkedOn line lines m ms c few (found_with line lines m ms c few (reason_at c.command c.place line m)) (before (line_work c (reason_at c.command c.place line m) (kind_at c.command line m)).text [] r)
          → Walked (line ∷ lines) (m ∷ ms) c (before (line_work c (reason_at c.command c.place line m) (kind_at c.command line m)).text [] r)
      whole_of w = record { even = ap suc w.even; done = w.done; text = w.text; status = w.status }

later_few : (c : Checker) (cause : Option Cause) (kind : Option LineKind) (k : ℕ) → c.number + (k + 1) < 2 ^ 64
    → (line_work c cause kind).state.number + k < 2 ^ 64
later_few c None kind k h = rw (next_is c.number k h) (omega (arith, h))
later_few c (Some cause) kind k h = rw (next_is c.number k h) (omega (arith, h))

walks : (lines : List (List ℕ)) (moments : List Moment) (c : Checker) (k : ℕ) (o : Output Checker) → c.number + length lines < 2 ^ 64
    → worked check_step c k lines moments ≡ Some o → Walked lines moments c o
walks [] [] c k o few e = subst (Walked [] [] c) (some_same _ o e) (record { even = refl; done = refl; text = refl; status = refl })
walks [] (m ∷ ms) c k o few e = none_some e
walks (line ∷ lines) [] c k o few e = none_some e
walks (line ∷ lines) (m ∷ ms) c k o few e =
    let less : c.number + (length lines + 1) < 2 ^ 64 = omega (arith, few) in
    on line lines m ms c k less o
    (λ r is. walks lines ms (line_work c (reason_at c.command c.place line m) (kind_at c.command line m)).state (k + 1) r
    (later_few c (reason_at c.command c.place line m) (kind_at c.command line m) (length lines) less) is)
    (worked check_step (line_work c (reason_at c.command c.place line m) (kind_at c.command line m)).state (k + 1) lines ms) refl e

same_lengths : (lines : List (List ℕ)) (moments : List Moment) → length lines ≡ length moments → (length lines == length moments) ≡ true
same_lengths lines moments same = grind (arith, nat_tests)

-- ---- all of a script

told_by : (b : Bool) (n : ℕ) (why : List ℕ) → (if b then finding_line n why else []) ≡ report (if b then finding n why ∷ [] else [])
told_by true n why = sym (append-nil (finding_line n why))
told_by false n why = refl

told_end : (c : Checker) → end_told c ≡ report (ending c)
told_end c = told_by (is_bad_end c.command c.place) c.number end_text

abbrev walk : Checker → Script Checker
walk c = worked check_step c 1

module _ (command : Command) (bytes : List ℕ) (clock clock' : Option (List Moment)) where
  -- the lines come to the findings that are told
  pub record Converted (later : List Moment) (o : Output Checker) : Type 0 where
    pub found : List Finding
    pub comes : Comes (List Finding) (checked command) bytes clock clock' later (outcome found)
    pub text : o.text ++ report (ending o.state) ≡ report found
    pub status : status_after o.state.found (ending o.state) ≡ status_of found

  module _ (by_place : (lines : List (List ℕ)) (moments : List Moment) → found_from command Start 1 lines moments ≡ found_by command lines moments)
      (short : length bytes < 2 ^ 32) where
    converted_from : (later : List Moment) (o : Output Checker) → Comes Checker (walk (begins command)) bytes clock clock' later o → Converted later o
    unfolding checked
    converted_from later o f =
        let lines : List (List ℕ) = lines_of bytes in
        let moments : List Moment = f.moments ++ later in
        let few : 1 + length lines < 2 ^ 64 = omega (arith, few_lines bytes, short) in
        let w = walks lines moments (begins command) 1 o few f.defined in
        let fs : List Finding = found_by command lines moments in
        let same : found_from command Start 1 lines moments ≡ fs = by_place lines moments in
        record {
          found = fs;
          comes = record {
            moments = f.moments;
            given = f.given;
            defined = ap (λ (b : Bool). if b then Some (outcome fs) else None) (same_lengths lines moments w.even);
          };
          text = w.text ∙ ap report same;
          status = w.status ∙ ap (status_after false) same ∙ status_first fs;
        }

    -- of a checker that begins so
    pub converted : (c : Checker) → c ≡ begins command → (later : List Moment) (o : Output Checker) → Comes Checker (walk c) bytes clock clock' later o → Converted later o
    converted c is later o f = converted_from later o (subst (λ c. Comes Checker (walk c) bytes clock clock' later o) is f)

    -- the same of lines that were cut off
    pub cut_off : (c : Checker) → c ≡ begins command → (later : List Moment) × (o : Output Checker) × Comes Checker (walk c) bytes clock clock' later o
        → (later : List Moment) × (o : Output (List Finding)) × Comes (List Finding) (checked command) bytes clock clock' later o
    cut_off c is cut = let v = converted c is cut.0 cut.1 cut.2 in (cut.0, outcome v.found, v.comes)

  -- the text and the status of a check that came to its end
  pub finished : (c : Checker) (old new : List ℕ) (status was : Status) (decided : List Decided) → Converted [] (record { text = old; status = was; state = c; decided = decided })
      → new ≡ old ++ end_told c → status ≡ status_after c.found (ending c)
      → (found : List Finding) × (decided : List Decided) × Comes (List Finding) (checked command) bytes clock clock' []
      (record { text = new; status = status; state = found; decided = decided })
  finished c old new status was decided v text is = (
    v.found,
    [],
    subst (λ (o : Output (List Finding)). Comes (List Finding) (checked command) bytes clock clock' [] o)
        (same_output v.found new status (text ∙ ap (λ t. old ++ t) (told_end c) ∙ v.text) (is ∙ v.status)) v.comes,
  )
    where
      same_output : (fs : List Finding) (text : List ℕ) (status : Status) → text ≡ report fs → status ≡ status_of fs
          → outcome fs ≡ record { text = text; status = status; state = fs; decided = [] }
      same_output fs text status t s =
          sym (ap (λ (t : List ℕ). record { text = t; status = status; state = fs; decided = [] }) t
          ∙ ap (λ (s : Status). record { text = report fs; status = s; state = fs; decided = [] }) s)

either : (b : Bool) (fs : List Finding) → (status_after b fs ≡ Done) ⊎ (status_after b fs ≡ BadLine)
either true [] = inr refl
either false [] = inl refl
either b (f ∷ fs) = inr refl

pub ends_so : (c : Checker) (status : Status) → status ≡ status_after c.found (ending c) → (status ≡ Done) ⊎ (status ≡ BadLine)
ends_so c status is = subst (λ s. (s ≡ Done) ⊎ (s ≡ BadLine)) (sym is) (either c.found (ending c))
