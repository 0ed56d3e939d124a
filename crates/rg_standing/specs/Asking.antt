-- What a policy is asked. To be read first; then Hits, Matching, Standing.
use Rattle.std.specs.Prelude.{List, [], Option, Some, None}
use Rattle.rg_policy.specs.declared.request.AccessRequest.{AccessRequest}
use Rattle.rg_policy.specs.declared.request.Element.{Element}
use Rattle.rg_policy.specs.declared.tags.Tag.{Tag}
use Rattle.rg_resmatch.specs.Tests.{tag_elements}
use Rattle.rg_evalr.specs.Items.{Context}
use Rattle.rg_evalr.specs.declared.frame.Frame.{Frame}
use Rattle.rg_evalr.specs.declared.frame.Side.{Side}
use Rattle.rg_evalr.specs.declared.frame.Side.TheVariants.{Resource, Tag as Tagged}

-- what the policies of a side are read under, and what they are asked
pub record Asked : Type 0 where
  pub frame : Frame
  pub side : Side
  pub context : Context

-- the tag as an element, nothing where there is no tag
abbrev pub tag_as_elements : Option Tag → List Element
tag_as_elements None = []
tag_as_elements (Some tag) = tag_elements tag.kind

-- what is asked about: the request's resource, or the tag
abbrev pub elements_for : Side → AccessRequest → Option Tag → List Element
elements_for Resource q tag = q.resource.elements.items
elements_for Tagged q tag = tag_as_elements tag
