use Rattle.dm_text.proofs.Names.{sym, subst, EndFits}
use Rattle.dm_text.proofs.back.end_fits.Goals as goal

pub returns-in-Registers : goal.returns-in-Registers
returns-in-Registers c = λ h. subst EndFits (sym c.in-Registers.is) c.registers_fit.ensures
