-- A command ends at the line that is named first.
use Rattle.std.proofs.Common.{◌≡◌, ◌+◌, ◌∙◌, ◌++◌, ◌∷◌, [], arith, ℕ, Bool, false, List, length, Option, Some, None, option_map, append_assoc, refl, ap, sym, subst, if◌then◌else◌}
use Rattle.std.specs.Option.{option_map_or}
use Rattle.rg_base.specs.declared.numbers.Moment.{Moment}
use Rattle.rg_script.specs.declared.cause.Place.{Place}
use Rattle.rg_script.specs.declared.cause.Place.TheVariants as place
use Rattle.rg_run_script.specs.declared.status.Status.{Status}
use Rattle.rg_run_script.specs.declared.status.Status.TheVariants.{Done, Usage, BadLine, ReadFault, WriteFault, NetFault, TooLong, KeepFault, NoMemory, BadRecord}
use Rattle.rg_run_script.specs.Follow.{Decided, Output, Step, Work, bad_line_text, before, ends_bad, worked}
use Rattle.rg_run_serve.specs.Serve.{Asking, ended_with, serve_step, taken, unless_begun}
use Rattle.rg_check.specs.declared.command.Command.{Command}
use Rattle.rg_check.specs.declared.command.Command.TheVariants as command
use Rattle.rg_check.specs.Causes.{end_text}
use Rattle.rg_check.specs.Checking.{Finding, begun, finding, found, found_by, is_bad_end, why_bad}
use Rattle.rg_check.specs.Naming.{EndsAtFirst}
use Rattle.rg_check.proofs.Walks.{none_some, some_same}

-- what is printed before it changes nothing
printed_before : {S : Type 0} (text : List ℕ) (decided : List Decided) (o : Output S) (fs : List Finding) → EndsAtFirst o fs → EndsAtFirst (before text decided o) fs
printed_before text decided o [] h = h
printed_before text decided o (f ∷ fs) h =
    (h.0, text ++ h.1, ap (λ t. text ++ t) h.2 ∙ sym (append_assoc text h.1 (bad_line_text f.number)))

pub ends_here : {S : Type 0} (s : S) (n : ℕ) (ms : List Moment) (o : Output S) (why : List ℕ) (rest : List Finding) → ends_bad s n ms ≡ Some o → EndsAtFirst o (finding n why ∷ rest)
ends_here {S} s n [] o why rest e = subst (λ (q : Output S). EndsAtFirst q (finding n why ∷ rest)) (some_same _ o e) (refl, [], refl)
ends_here {S} s n (m ∷ ms) o why rest e = none_some e

pub goes_on : {S : Type 0} (text : List ℕ) (decided : List Decided) (r : Option (Output S)) (o : Output S) (fs : List Finding) → option_map (before text decided) r ≡ Some o
    → ((q : Output S) → r ≡ Some q → EndsAtFirst q fs) → EndsAtFirst o fs
goes_on {S} text decided None o fs e rest = none_some e
goes_on {S} text decided (Some q) o fs e rest = subst (λ (r : Output S). EndsAtFirst r fs) (some_same _ o e) (printed_before text decided q fs (rest q refl))

module _ {S : Type 0} (command : Command) (step : Step S) (place_of : S → Place) (fine : (place : Place) → is_bad_end command place ≡ false) where
  one_line : (s : S) (n : ℕ) (line : List ℕ) (lines : List (List ℕ)) (m : Moment) (ms later : List Moment) (o : Output S) (w : Option (Work S))
      → option_map_or (λ (x : Work S). option_map (before x.text x.decided) (worked step x.state (n + 1) lines ms)) w (ends_bad s n ms) ≡ Some o
      → ((t : S) (q : Output S) → worked step t (n + 1) lines ms ≡ Some q → EndsAtFirst q (found command step place_of t (n + 1) lines (ms ++ later)))
      → EndsAtFirst o (option_map_or (λ (x : Work S). found command step place_of x.state (n + 1) lines (ms ++ later)) w
      (finding n (why_bad command (place_of s) line m) ∷ found command step place_of s (n + 1) lines (ms ++ later)))
  one_line s n line lines m ms later o None e rest = ends_here s n ms o (why_bad command (place_of s) line m) (found command step place_of s (n + 1) lines (ms ++ later)) e
  one_line s n line lines m ms later o (Some w) e rest =
      goes_on w.text w.decided (worked step w.state (n + 1) lines ms) o (found command step place_of w.state (n + 1) lines (ms ++ later)) e (rest w.state)

  pub ends_at_first : (s : S) (n : ℕ) (lines : List (List ℕ)) (ms later : List Moment) (o : Output S) → worked step s n lines ms ≡ Some o
      → EndsAtFirst o (found command step place_of s n lines (ms ++ later))
  ends_at_first s n [] [] later o e =
      subst (λ (b : Bool). EndsAtFirst o (if b then finding n end_text ∷ [] else [])) (sym (fine (place_of s)))
      (subst (λ (q : Output S). EndsAtFirst q []) (some_same _ o e) refl)
  ends_at_first s n [] (m ∷ ms) later o e = none_some e
  ends_at_first s n (line ∷ lines) [] later o e = none_some e
  ends_at_first s n (line ∷ lines) (m ∷ ms) later o e =
      one_line s n line lines m ms later o (step s line m) e (λ t q is. ends_at_first t (n + 1) lines ms later q is)

-- ---- the end of a script of `serve`

abbrev serve_found : Asking → ℕ → List (List ℕ) → List Moment → List Finding
serve_found = found command.Serve serve_step (begun place.Config)

named_before : (k : ℕ) (text : List ℕ) (decided : List Decided) (o : Output Asking) (fs : List Finding)
    → EndsAtFirst (record o { text = o.text ++ bad_line_text k; status = BadLine }) fs
    → EndsAtFirst (record (before text decided o) { text = (text ++ o.text) ++ bad_line_text k; status = BadLine }) fs
named_before k text decided o [] h = h
named_before k text decided o (f ∷ fs) h =
    (h.0, text ++ h.1, append_assoc text o.text (bad_line_text k) ∙ ap (λ t. text ++ t) h.2 ∙ sym (append_assoc text h.1 (bad_line_text f.number)))

begun_before : (k : ℕ) (text : List ℕ) (decided : List Decided) (o : Output Asking) (fs : List Finding) (status : Status) (state : Asking)
    → EndsAtFirst (ended_with k o status state) fs → EndsAtFirst (ended_with k (before text decided o) status state) fs
begun_before k text decided o fs Done None h = named_before k text decided o fs h
begun_before k text decided o fs Done (Some a) h = printed_before text decided o fs h
begun_before k text decided o fs Usage state h = printed_before text decided o fs h
begun_before k text decided o fs BadLine state h = printed_before text decided o fs h
begun_before k text decided o fs ReadFault state h = printed_before text decided o fs h
begun_before k text decided o fs WriteFault state h = printed_before text decided o fs h
begun_before k text decided o fs NetFault state h = printed_before text decided o fs h
begun_before k text decided o fs TooLong state h = printed_before text decided o fs h
begun_before k text decided o fs KeepFault state h = printed_before text decided o fs h
begun_before k text decided o fs NoMemory state h = printed_before text decided o fs h
begun_before k text decided o fs BadRecord state h = printed_before text decided o fs h

serve_end : (s : Asking) (n k : ℕ) → k ≡ n → EndsAtFirst (ended_with k (record { text = []; status = Done; state = s; decided = [] }) Done s) (serve_found s n [] [])
serve_end None n k same = (refl, [], ap bad_line_text same)
serve_end (Some a) n k same = refl

serve_bad : (s : Asking) (n k : ℕ) (ms : List Moment) (o : Output Asking) (why : List ℕ) (rest : List Finding) → ends_bad s n ms ≡ Some o → EndsAtFirst (unless_begun k o) (finding n why ∷ rest)
serve_bad s n k [] o why rest e = subst (λ (q : Output Asking). EndsAtFirst (unless_begun k q) (finding n why ∷ rest)) (some_same _ o e) (refl, [], refl)
serve_bad s n k (m ∷ ms) o why rest e = none_some e

serve_on : (k : ℕ) (text : List ℕ) (decided : List Decided) (r : Option (Output Asking)) (o : Output Asking) (fs : List Finding) → option_map (before text decided) r ≡ Some o
    → ((q : Output Asking) → r ≡ Some q → EndsAtFirst (unless_begun k q) fs) → EndsAtFirst (unless_begun k o) fs
serve_on k text decided None o fs e rest = none_some e
serve_on k text decided (Some q) o fs e rest =
    subst (λ (r : Output Asking). EndsAtFirst (unless_begun k r) fs) (some_same _ o e) (begun_before k text decided q fs q.status q.state (rest q refl))

serve_line : (s : Asking) (n k : ℕ) (line : List ℕ) (lines : List (List ℕ)) (m : Moment) (ms later : List Moment) (o : Output Asking) (w : Option (Work Asking))
    → option_map_or (λ (x : Work Asking). option_map (before x.text x.decided) (worked serve_step x.state (n + 1) lines ms)) w (ends_bad s n ms) ≡ Some o
    → ((t : Asking) (q : Output Asking) → worked serve_step t (n + 1) lines ms ≡ Some q → EndsAtFirst (unless_begun k q) (serve_found t (n + 1) lines (ms ++ later)))
    → EndsAtFirst (unless_begun k o) (option_map_or (λ (x : Work Asking). serve_found x.state (n + 1) lines (ms ++ later)) w
    (finding n (why_bad command.Serve (begun place.Config s) line m) ∷ serve_found s (n + 1) lines (ms ++ later)))
serve_line s n k line lines m ms later o None e rest = serve_bad s n k ms o (why_bad command.Serve (begun place.Config s) line m) (serve_found s (n + 1) lines (ms ++ later)) e
serve_line s n k line lines m ms later o (Some w) e rest =
    serve_on k w.text w.decided (worked serve_step w.state (n + 1) lines ms) o (serve_found w.state (n + 1) lines (ms ++ later)) e (rest w.state)

serve_ends : (s : Asking) (n k : ℕ) (lines : List (List ℕ)) (ms later : List Moment) (o : Output Asking) → k ≡ n + length lines → worked serve_step s n lines ms ≡ Some o
    → EndsAtFirst (unless_begun k o) (serve_found s n lines (ms ++ later))
serve_ends s n k [] [] later o is e = subst (λ (q : Output Asking). EndsAtFirst (unless_begun k q) (serve_found s n [] [])) (some_same _ o e) (serve_end s n k (omega (arith, is)))
serve_ends s n k [] (m ∷ ms) later o is e = none_some e
serve_ends s n k (line ∷ lines) [] later o is e = none_some e
serve_ends s n k (line ∷ lines) (m ∷ ms) later o is e =
    let next : k ≡ (n + 1) + length lines = omega (arith, is) in
    serve_line s n k line lines m ms later o (serve_step s line m) e (λ t q there. serve_ends t (n + 1) k lines ms later q next there)

taken_ends : (lines : List (List ℕ)) (ms later : List Moment) (o : Output Asking) (r : Option (Output Asking)) → worked serve_step None 1 lines ms ≡ r
    → option_map (unless_begun (length lines + 1)) r ≡ Some o → EndsAtFirst o (serve_found None 1 lines (ms ++ later))
taken_ends lines ms later o None there e = none_some e
taken_ends lines ms later o (Some q) there e =
    subst (λ (p : Output Asking). EndsAtFirst p (serve_found None 1 lines (ms ++ later))) (some_same _ o e) (serve_ends None 1 (length lines + 1) lines ms later q (omega arith) there)

pub serve_ends_at_first : (lines : List (List ℕ)) (ms later : List Moment) (o : Output Asking) → taken lines ms ≡ Some o → EndsAtFirst o (found_by command.Serve lines (ms ++ later))
serve_ends_at_first lines ms later o e = taken_ends lines ms later o (worked serve_step None 1 lines ms) refl e
