-- A product and then a sum, each cut to 64 bits, are the whole cut once.
use Rattle.std.proofs.Common.{◌≡◌, ℕ, ◌+◌, ◌*◌, ◌%◌, ◌^◌}
use Rattle.std.proofs.Math.Nat.{mod-add-mod}

pub cut_once : (x : ℕ) → ((x * 6364136223846793005) % 2 ^ 64 + 1442695040888963407) % 2 ^ 64 ≡ (x * 6364136223846793005 + 1442695040888963407) % 2 ^ 64
cut_once x = mod-add-mod (x * 6364136223846793005) (2 ^ 64) 1442695040888963407
