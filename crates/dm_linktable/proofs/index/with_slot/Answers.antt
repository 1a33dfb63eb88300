use Rattle.dm_linktable.proofs.Bits.{bit_set, or_above}
use Rattle.dm_linktable.proofs.index.with_slot.Goals as goal

pub returns : goal.returns
returns c = record { bits = λ s. bit_set c.args.slots c.args.slot s c.requires; some = or_above c.args.slots c.args.slot c.requires }
