-- The message that a refusal hands back.
use Rattle.dm_stream.specs.declared.sender.GiveError.{GiveError}
use Rattle.dm_stream.specs.declared.sender.GiveError.TheVariants.{Worn, NoMemory}

abbrev pub message_in : {M : Type 0} → GiveError M → M
message_in (Worn m) = m
message_in (NoMemory m why) = m
