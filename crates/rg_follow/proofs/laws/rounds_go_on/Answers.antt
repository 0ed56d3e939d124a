use Rattle.rg_follow.proofs.GoingOn.{Laws, never_back, no_version_falls}
use Rattle.rg_follow.proofs.laws.rounds_go_on.Goals as goal

laws : (c : goal.After-versions_never_fall) → Laws
laws c = record {
  on = c.settled_is_a_view.ensures.on;
  anew = c.settled_is_a_view.ensures.anew;
  rise = c.versions_never_fall.ensures;
}

pub returns-clause-never_back : goal.returns-clause-never_back
returns-clause-never_back c = λ start h starts legal service j kept. never_back (laws c) start h starts legal service j kept

pub returns-clause-no_version_falls : goal.returns-clause-no_version_falls
returns-clause-no_version_falls c = λ start h starts legal service j kept. no_version_falls (laws c) start h starts legal service j kept
