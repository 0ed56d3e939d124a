-- How tests end: from the lines to the whole, and with the number of a status.
use Rattle.std.proofs.Common.{◌≡◌, ◌⊎◌, ◌∙◌, [], ℕ, Bool, true, false, List, Option, Some, None, inl, inr, is_some, option_map, if◌then◌else◌, refl, ap, sym, subst}
use Rattle.std.proofs.lemmas.Option.{same_Some}
use Rattle.rg_base.specs.declared.numbers.Moment.{Moment}
use Rattle.rg_run_script.specs.declared.status.Status.{Status}
use Rattle.rg_run_script.specs.declared.status.Status.TheVariants.{BadLine, Done, NoMemory}
use Rattle.rg_run_script.specs.Follow.{Comes, Decided, Output, worked}
use Rattle.rg_run_script.specs.Ports.{Ports, ports}
use Rattle.rg_run_script.specs.Runs.{IsRun, OfStatus, Stands}
use Rattle.rg_run_script.specs.Statuses.{number_of}
use Rattle.rg_test_script.specs.Ends.{IsEnd}
use Rattle.rg_test_script.specs.Testing.{Progress, begins, ended, ended_by, framed, test_step, tested}
use Rattle.rg_test_script.specs.declared.form.Form.{Form}

-- ---- the lines

module _ (form : Form) (start : Progress) (bytes : List ℕ) (clock clock' : Option (List Moment)) (begun : start ≡ begins form) where
  abbrev Worked : List Moment → Output Progress → Type 0
  Worked later o = Comes Progress (worked test_step start 1) bytes clock clock' later o

  abbrev Tested : List Moment → Output Progress → Type 0
  Tested later o = Comes Progress (tested form) bytes clock clock' later o

  comes_so : (later : List Moment) (o : Output Progress) → Worked later o → Tested later (ended o)
  unfolding tested
  comes_so later o comes =
      let same : Comes Progress (worked test_step (begins form) 1) bytes clock clock' later o = subst (λ (s : Progress). Comes Progress (worked test_step s 1) bytes clock clock' later o) begun comes in
      record { moments = same.moments; given = same.given; defined = ap (option_map ended) same.defined }

  -- what was printed stands between the top and the summary
  pub tested_so : (text printed : List ℕ) (status last : Status) (state : Progress)
      → (decided : List Decided) × Worked [] (record { text = text; status = status; state = state; decided = decided })
      → printed ≡ framed state status text → last ≡ ended_by state status
      → (state : Progress) × (decided : List Decided) × Tested [] (record { text = printed; status = last; state = state; decided = decided })
  tested_so text printed status last state comes framed_so ended_so =
      let o : Output Progress = record { text = text; status = status; state = state; decided = comes.0 } in (
        state,
        [],
        subst (λ t. Tested [] (record { text = t; status = last; state = state; decided = [] })) (sym framed_so)
            (subst (λ l. Tested [] (record { text = framed state status text; status = l; state = state; decided = [] })) (sym ended_so) (comes_so [] o comes.1)),
      )

  -- where memory was refused before that
  pub unframed : (text : List ℕ) (status : Status) (state : Progress)
      → (decided : List Decided) × Worked [] (record { text = text; status = status; state = state; decided = decided })
      → (later : List Moment) × (o : Output Progress) × Tested later o
  unframed text status state comes =
      let o : Output Progress = record { text = text; status = status; state = state; decided = comes.0 } in ([], ended o, comes_so [] o comes.1)

  pub cut_off : (later : List Moment) × (o : Output Progress) × Worked later o → (later : List Moment) × (o : Output Progress) × Tested later o
  cut_off cut = (cut.0, ended cut.1, comes_so cut.0 cut.1 cut.2)

all_met : (s : Progress) (b : Bool) (last : Status) → last ≡ (if b then Done else BadLine) → (last ≡ Done) ⊎ (last ≡ BadLine)
all_met s true last is = inl is
all_met s false last is = inr is

pub ends_so : (s : Progress) (status last : Status) → (status ≡ Done) ⊎ (status ≡ BadLine) → last ≡ ended_by s status → (last ≡ Done) ⊎ (last ≡ BadLine)
ends_so s status last (inl done) is = all_met s _ last (is ∙ ap (ended_by s) done)
ends_so s status last (inr bad) is = inr (is ∙ ap (ended_by s) bad)

-- ---- statuses

abbrev Answer : Form → Ports → Ports → ℕ → Type 0
Answer form p q n = OfStatus n (IsRun (Stands Progress (tested form)) p q)

module _ (asked : Option Form) where
  pub answered_so : (p q : Ports) (status : Status) (n : ℕ) (found : Form) → n ≡ number_of status → Some found ≡ asked → IsRun (Stands Progress (tested found)) p q status
      → (form : Form) → asked ≡ Some form → Answer form p q n
  answered_so p q status n found number read run form is =
      (status, number, subst (λ (f : Form). IsRun (Stands Progress (tested f)) p q status) (same_Some found form (read ∙ is)) run)

  pub no_answer : (p q : Ports) (n : ℕ) → None ≡ asked → (form : Form) → asked ≡ Some form → Answer form p q n
  no_answer p q n none form is = absurd (let no : ⊥ = let wrong : None ≡ Some form = none ∙ is in cc in no)

  pub not_usage : {A : Type 0} (found : Form) → Some found ≡ asked → asked ≡ None → A
  not_usage found some none = absurd (let no : ⊥ = let wrong : Some found ≡ None = some ∙ none in cc in no)

  pub not_refused : {A : Type 0} → is_some asked ≡ true → asked ≡ None → A
  not_refused some none = absurd (let no : ⊥ = let wrong : false ≡ true = sym (ap is_some none) ∙ some in cc in no)

  pub ended_so : (p q : Ports) (n m : ℕ) → m ≡ n → ((form : Form) → asked ≡ Some form → Answer form p q n) → (asked ≡ None → n ≡ 1) → IsEnd asked m
  ended_so p q n m same answers usage = end_of asked answers usage
    where
      end_of : (o : Option Form) → ((form : Form) → o ≡ Some form → Answer form p q n) → (o ≡ None → n ≡ 1) → IsEnd o m
      end_of None answers usage = same ∙ usage refl
      end_of (Some form) answers usage = (p, q, subst (Answer form p q) (sym same) (answers form refl))

-- memory was refused before anything was done
pub undone : (form : Form) (p : Ports) (n : ℕ) → n ≡ 9 → Answer form p p n
undone form p n is = (NoMemory, is, record { stands = (refl, inl refl); reads = refl; writes = refl })

pub never_begun : (form : Form) (n : ℕ) → n ≡ 9 → IsEnd (Some form) n
never_begun form n is = let p : Ports = ports None true 0 None None 0 in (p, p, undone form p n is)
