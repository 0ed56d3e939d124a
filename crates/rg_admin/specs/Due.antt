-- What the change under way does to the list of logs.
use Rattle.std.specs.Prelude.{ℕ, ◌<◌, not, List, [], ◌∷◌, ◌++◌, map, filter}
use Rattle.rg_admin_laws.specs.Logs.{is_log_of}
use Rattle.rg_admin.specs.Held.{Planned, settled}
use Rattle.rg_admin.specs.declared.planning.Due.{Due}
use Rattle.rg_admin.specs.declared.planning.Due.TheVariants.{Each, Gains, Loses}

-- the logs after it
abbrev pub done : Due → List Planned → List Planned
done Each ps = map settled ps
done (Gains p) ps = ps ++ p ∷ []
done (Loses service) ps = filter (λ (p : Planned). not (is_log_of service p.log)) ps

-- a list of this length and capacity has room for it
abbrev pub HasRoom : Due → ℕ → ℕ → Type 0
HasRoom Each len capacity = Unit {0}
HasRoom (Gains p) len capacity = len < capacity
HasRoom (Loses service) len capacity = Unit {0}
