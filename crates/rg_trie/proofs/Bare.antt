-- A struct that consists of one marker: its only machine value, and that owning that value takes nothing.
use Rattle.std.proofs.Common.{[], ◌∷◌, refl}
use Rattle.std.specs.contracts.marker.PhantomData as phantom
use seplogic.Ra.Ura.{Ura}
use base.Logic.{ent, emp}
use denote.Builtin.{unit}
use denote.RattleType.{RattleType}
use denote.Shadow.{makes_shadow}
use denote.Struct.Struct.{Struct}
use mir.Syntax.{Sym}
use mir.Val.{Val, vstruct, vcons, vnil}
use types.Logic.{Logic, sem}

-- a struct whose one field is a struct without fields
abbrev pub bare : Val
bare = vstruct (vcons (vstruct vnil) vnil)

abbrev pub Bare : Sym → RattleType
Bare name = Struct (record { name = name; args = []; types = []; fields = (phantom.the_field unit).row ∷ [] })

pub from_nothing : (name : Sym) {M : Type 1} {𝓤 : Ura M} (𝓛 : Logic 𝓤) → ent 𝓤 (emp 𝓤) (sem 𝓛 ((Bare name).own_val (tt, tt) (bare ∷ [])))
from_nothing name 𝓛 =
    makes_shadow 𝓛 ((Bare name).own_val (tt, tt) (bare ∷ [])) (λ outer. (tt, ((λ inner. (tt, tt)), tt)))
    ((vstruct vnil ∷ [], tt), (refl, ((tt, (refl, tt)), tt)))
