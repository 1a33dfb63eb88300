use Rattle.dm_law_always.proofs.RunLabels.{fits_always}
use Rattle.dm_law_always.proofs.laws.fits_always.Goals as goal

pub returns : goal.returns
returns c = fits_always
