use Rattle.dm_text.proofs.Numbers.{two_put}
use Rattle.dm_text.proofs.Pairs.{pair_at}
use Rattle.dm_text.proofs.within.put_two_digits.Goals as goal

pub returns-clause-text : goal.returns-clause-text
returns-clause-text c =
    let p = pair_at c.args.n c.requires.digits in
    two_put _ _ _ c.args.n _ _ p.0 p.1 c.put_byte-half.ensures.text c.put_byte.ensures.text
