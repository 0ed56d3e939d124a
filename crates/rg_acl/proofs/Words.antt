-- The characters of the words that code writes.
use Rattle.rg_items.proofs.Words.{owner_chars, user_chars}

pub ruleset words = (user_chars, owner_chars)
