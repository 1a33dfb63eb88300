-- What a process does, word by word.
use Rattle.dm_text.proofs.ends.put_doing.Goals as goal

pub returns-in-Ready-clause-ok : goal.returns-in-Ready-clause-ok
returns-in-Ready-clause-ok c = rw c.in-Ready.is c.put_words.ensures.ok

pub returns-in-Waiting-clause-ok : goal.returns-in-Waiting-clause-ok
returns-in-Waiting-clause-ok c = rw c.in-Waiting.is c.put_words-in-Waiting.ensures.ok

pub returns-in-Moving-clause-ok : goal.returns-in-Moving-clause-ok
returns-in-Moving-clause-ok c = rw c.in-Moving.is (rw c.direction_name.ensures at c.put_words-in-Moving.ensures.ok)
