-- Faults of a round that say that memory was refused.
use Rattle.std.specs.Prelude.{Bool, true, false}
use Rattle.rg_client.specs.declared.fault.ClientFault.TheVariants.{NoMemory as ClientShort}
use Rattle.rg_follow.specs.declared.fault.FollowFault.{FollowFault}
use Rattle.rg_follow.specs.declared.fault.FollowFault.TheVariants.{Ask, NoMemory}
use Rattle.rg_json.specs.declared.fault.WireFault.TheVariants.{NoMemory as BodyShort}
use Rattle.rg_remote.specs.declared.fault.AskFault.TheVariants.{Body, Client, NoMemory as AskShort}

abbrev pub is_short : FollowFault → Bool
is_short NoMemory = true
is_short (Ask AskShort) = true
is_short (Ask (Body BodyShort)) = true
is_short (Ask (Client ClientShort)) = true
is_short _ = false
