use Rattle.dm_linktable.proofs.Names.{◌<◌, ◌^◌, arith, bit_at-trailing_zeros, w128}
use Rattle.dm_linktable.proofs.index.lowest_slot.Goals as goal

pub returns : goal.returns
returns c =
    let fits : c.args.slots < 2 ^ 128 = omega arith in
    let low = bit_at-trailing_zeros w128 c.args.slots c.requires fits in
    record { within = low.0; one = low.1 }
