-- What the policies of a service are read under. To be read first; then Items, Effects, Sources, Compiling. The other files serve proofs.
use Rattle.std.specs.Prelude.{ℕ, List, ◌∷◌, ◌++◌, unwrap_or}
use Rattle.rg_defs.specs.declared.service_def.ServiceDef.{ServiceDef}
use Rattle.rg_evalr.specs.declared.frame.Frame.{Frame}
use Rattle.rg_evalr.specs.declared.frame.Side.{Side}
use Rattle.rg_evalr.specs.declared.frame.Side.TheVariants.{Resource, Tag}

-- the definition of the policies of a side; where there is no tag definition there are no tag policies
abbrev pub def_of : Frame → Side → ServiceDef
def_of frame Resource = frame.def
def_of frame Tag = unwrap_or frame.tag_def frame.def

-- the access that they are asked for: tag policies are asked for it as one of the service's component
abbrev pub requested_access : Frame → Side → List ℕ → List ℕ
requested_access frame Resource access = access
requested_access frame Tag access = frame.def.name ++ 58 ∷ access
