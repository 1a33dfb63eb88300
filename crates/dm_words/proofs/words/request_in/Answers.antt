use Rattle.dm_words.proofs.Names.{sym, ◌∙◌, found_of, rows_of}
use Rattle.dm_words.proofs.CommandWords.{unused, used_rows}
use Rattle.dm_words.proofs.words.request_in.Goals as goal

pub returns-in-Some-clause-asked : goal.returns-in-Some-clause-asked
returns-in-Some-clause-asked c = c.request_of_command.ensures.asked ∙ sym (used_rows _ _ _ c.in-Some.name.now (rows_of (found_of c.in-Some.found.now)) c.in-Some.ensures.name c.in-Some.ensures.rows)

pub returns-in-None-clause-asked : goal.returns-in-None-clause-asked
returns-in-None-clause-asked c = sym (unused _ _ _ c.in-None.ensures.name)
