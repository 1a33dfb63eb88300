use Rattle.dm_words.proofs.Names.{◌∙◌, found_of, rows_of}
use Rattle.dm_words.proofs.CommandWords.{named_request}
use Rattle.dm_words.proofs.words.request_of_command.Goals as goal

pub returns-in-Some-clause-asked : goal.returns-in-Some-clause-asked
returns-in-Some-clause-asked c = c.request_of_form.ensures.asked ∙ named_request c.args.name.now _ (rows_of (found_of c.args.found.now)) _ c.as_bytes.ensures.value c.in-Some.ensures

pub returns-in-None-clause-asked : goal.returns-in-None-clause-asked
returns-in-None-clause-asked c = named_request c.args.name.now _ (rows_of (found_of c.args.found.now)) _ c.as_bytes.ensures.value c.in-None.ensures
