use Rattle.dm_text.proofs.Names.{arith}
use Rattle.dm_text.proofs.Numbers.{three_put}
use Rattle.dm_text.proofs.within.put_many_digits.Goals as goal

pub returns-clause-text : goal.returns-clause-text
returns-clause-text c = three_put _ _ _ c.args.n c.requires.digits (omega arith) c.put_byte-one.ensures.text c.put_two_digits.ensures.text
