use Rattle.dm_kernel.proofs.Making.{image_at}
use Rattle.dm_kernel.proofs.make.image_of.Goals as goal

pub returns-clause-fits : goal.returns-clause-fits
returns-clause-fits c =
    image_at c.args.boot.now.images c.as_slice.result.now c.args.place c.from.result c.index-as_slice-from.result c.requires.images c.requires.image c.as_slice.ensures
    c.from.ensures c.index-as_slice-from.is
