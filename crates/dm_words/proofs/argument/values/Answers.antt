use Rattle.dm_words.proofs.Names.{◌∙◌, found_of, raw_values-rows}
use Rattle.dm_words.proofs.argument.values.Goals as goal

pub returns : goal.returns
returns c = c.get_strs.ensures ∙ raw_values-rows (found_of c.args.matches.now) c.args.name.now
