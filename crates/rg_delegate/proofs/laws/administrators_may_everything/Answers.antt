use Rattle.rg_delegate.proofs.Keeping.{admin_asks, admin_may, admin_sees}
use Rattle.rg_delegate.proofs.laws.administrators_may_everything.Goals as goal

pub returns : goal.returns
returns c = record { administer = admin_may; see = admin_sees; ask = admin_asks }
