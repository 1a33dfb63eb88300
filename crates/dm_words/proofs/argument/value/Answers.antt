use Rattle.dm_words.proofs.Names.{◌∙◌, found_of, first_value-rows}
use Rattle.dm_words.proofs.argument.value.Goals as goal

pub returns : goal.returns
returns c = c.get_str.ensures ∙ first_value-rows (found_of c.args.matches.now) c.args.name.now
