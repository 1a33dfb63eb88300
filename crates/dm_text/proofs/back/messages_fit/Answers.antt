use Rattle.dm_text.proofs.Names.{message_word}
use Rattle.dm_text.proofs.Lists.{each_fits}
use Rattle.dm_text.proofs.back.messages_fit.Goals as goal

pub returns : goal.returns
returns c = each_fits message_word c.args.ids.now c.ids_fit.ensures
