use Rattle.rg_delegate.proofs.Ordering.{kept_in_order, seen_in_order}
use Rattle.rg_delegate.proofs.laws.rising_ids_are_in_order.Goals as goal

pub returns : goal.returns
returns c = record { any = kept_in_order; seen = seen_in_order }
