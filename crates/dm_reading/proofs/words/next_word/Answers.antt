-- There is nothing but what stands between words.
use Rattle.dm_reading.proofs.Names.{sym, stands_in}
use Rattle.dm_reading.proofs.WordCuts.{words-none}
use Rattle.dm_reading.proofs.words.next_word.Goals as goal

pub returns-in-None-clause-none : goal.returns-in-None-clause-none
returns-in-None-clause-none c = words-none (stands_in c.args.gap) c.args.line.now (sym c.in-None.ensures)
