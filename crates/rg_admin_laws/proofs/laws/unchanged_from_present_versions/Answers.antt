use Rattle.rg_admin_laws.proofs.Further.{policies_where, roles_where, tags_where, unchanged_where}
use Rattle.rg_admin_laws.proofs.laws.unchanged_from_present_versions.Goals as goal

pub returns-clause-policies : goal.returns-clause-policies
returns-clause-policies c = policies_where

pub returns-clause-tags : goal.returns-clause-tags
returns-clause-tags c = tags_where

pub returns-clause-roles : goal.returns-clause-roles
returns-clause-roles c = roles_where

pub returns-clause-together : goal.returns-clause-together
returns-clause-together c = unchanged_where
