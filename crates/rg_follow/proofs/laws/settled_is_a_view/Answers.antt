use Rattle.rg_follow.proofs.Settled.{Laws, anew, on}
use Rattle.rg_follow.proofs.laws.settled_is_a_view.Goals as goal

laws : (c : goal.After-unchanged_from_present_versions) → Laws
laws c = record {
  leads = c.downloads_lead.ensures;
  rise = c.versions_never_fall.ensures;
  unchanged = c.unchanged_from_present_versions.ensures.together;
}

pub returns-clause-on : goal.returns-clause-on
returns-clause-on c = on (laws c)

pub returns-clause-anew : goal.returns-clause-anew
returns-clause-anew c = anew (laws c)
