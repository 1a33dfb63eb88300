use Rattle.dm_linktable.proofs.Names.{arith, ◌<◌, ◌^◌}
use Rattle.dm_linktable.proofs.Bits.{bit_clear, clear_less}
use Rattle.dm_linktable.proofs.index.without_slot.Goals as goal

pub returns : goal.returns
returns c =
    let fits : c.args.slots < 2 ^ 128 = omega arith in
    record {
      bits = λ s. bit_clear c.args.slots c.args.slot s c.requires fits;
      fewer = clear_less c.args.slots c.args.slot c.requires fits;
    }
