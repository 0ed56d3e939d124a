-- One session more.
use Rattle.std.proofs.Common.{◌≡◌, ◌∙◌, ℕ, ◌+◌, Bool, List, [], ◌∷◌, ◌++◌, length-append, subst, refl, arith}
use Rattle.rg_turn.specs.Values.{TurnName, new_seat}
use Rattle.rg_admin_laws.specs.Logs.{Administration}
use Rattle.rg_publish.specs.Passes.{Seeing, new_pass}
use Rattle.rg_publish.specs.Publications.{Published}
use Rattle.rg_serve.specs.Held.{IsAtWork}
use Rattle.rg_serve.specs.Trails.{Follow, IsSession, Seated, Session}

follow_more : (plugin : List ℕ) (seat : Seated) (pass : Seeing) (sessions : List (Session plugin)) (mid_seat : Seated) (mid_pass : Seeing)
    → Follow plugin seat pass sessions mid_seat mid_pass → (s : Session plugin) → s.before.seat ≡ mid_seat → s.before.pass ≡ mid_pass
    → Follow plugin seat pass (sessions ++ s ∷ []) s.after.seat s.after.pass
follow_more plugin seat pass [] mid_seat mid_pass f s bs bp = (bs ∙ f.0, bp ∙ f.1, (refl, refl))
follow_more plugin seat pass (x ∷ rest) mid_seat mid_pass f s bs bp = (f.0, f.1, follow_more plugin x.after.seat x.after.pass rest mid_seat mid_pass f.2 s bs bp)

module _ (turn : TurnName Administration) (opening : Published) (plugin : List ℕ) (seat : Seated) (pass : Seeing) (parts amount : ℕ) (is_short : Bool) where
  pub one_more : IsAtWork turn opening plugin seat pass parts amount is_short → (given : List ℕ) → given ≡ plugin
      → (seat' : Seated) (pass' : Seeing) (parts' amount' : ℕ) → seat'.turn ≡ seat.turn → pass'.book ≡ pass.book → parts' ≡ parts → amount' ≡ amount + 1
      → IsSession given seat pass seat' pass' → IsAtWork turn opening plugin seat' pass' parts' amount' is_short
  one_more at given same seat' pass' parts' amount' turn_is book_is parts_is amount_is session = record {
    seated = turn_is ∙ at.seated;
    reads = book_is ∙ at.reads;
    part = parts_is ∙ at.part;
    trail = λ fine.
        let t = at.trail fine in
        let s = subst (λ n. IsSession n seat pass seat' pass') same session in
        let longer = t.0 ++ s.0 ∷ [] in (
          longer,
          subst (λ (p : Seeing). Follow plugin (new_seat turn) (new_pass opening) longer seat' p) s.4
              (subst (λ (z : Seated). Follow plugin (new_seat turn) (new_pass opening) longer z s.0.after.pass) s.3
              (follow_more plugin (new_seat turn) (new_pass opening) t.0 seat pass t.1 s.0 s.1 s.2)),
          omega (arith, length-append t.0 (s.0 ∷ []), t.2, amount_is),
        );
  }
