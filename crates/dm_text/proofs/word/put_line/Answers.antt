use Rattle.dm_text.proofs.Names.{refl}
use Rattle.dm_text.proofs.Kept.{behind, further, kept-as, named}
use Rattle.dm_text.proofs.word.put_line.Goals as goal

pub returns-clause-ok : goal.returns-clause-ok
returns-clause-ok c = named _ _ _ _ _ c.in_ok-put_begun.ensures.ok c.in_ok-push.ensures.items

pub returns-in_err-push-clause-err : goal.returns-in_err-push-clause-err
returns-in_err-push-clause-err c = kept-as _ _ _ _ (further _ _ _ _ (behind c.args.into.now.items c.args.name.now _ refl) c.in_ok-put_begun.ensures.ok) c.in_err-push.ensures.items
