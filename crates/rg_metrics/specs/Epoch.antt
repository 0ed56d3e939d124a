-- The epoch of a service: a number that tells its configuration and its history from others.
use Rattle.std.specs.Prelude.{ℕ, ◌*◌, ◌/◌, ◌%◌, ◌^◌, ◌++◌, List, ◌∷◌, bit_xor, fold}

-- one round of FNV-1a
abbrev pub fnv_step : ℕ → ℕ → ℕ
fnv_step hash byte = (bit_xor hash byte * 0x100000001b3) % 2 ^ 64

abbrev pub first_hash : ℕ
first_hash = 0xcbf29ce484222325

-- FNV-1a in 64 bits: a round for each byte
abbrev pub fnv : List ℕ → ℕ
fnv bytes = fold fnv_step first_hash bytes

-- of a configuration line and the first record; the byte between them, 0, stands in neither
abbrev pub hash_of : List ℕ → List ℕ → ℕ
hash_of line first = fnv (line ++ 0 ∷ first)

-- so many of the 64 bits are cut off, and 53 are left, which a float tells exactly
abbrev pub cut_bits : ℕ
cut_bits = 11

-- the epoch of a service with this line as its configuration, and this as its first record, or [] where it has none yet
abbrev pub epoch_of : List ℕ → List ℕ → ℕ
epoch_of line first = hash_of line first / 2 ^ cut_bits
