use Rattle.dm_text.proofs.Names.{refl}
use Rattle.dm_text.proofs.Kept.{behind, further, kept-as, kept-twice, listed}
use Rattle.dm_text.proofs.ends.put_linked.Goals as goal

pub returns-clause-ok : goal.returns-clause-ok
returns-clause-ok c = listed c.args.into.now.items c.args.name.now _ _ _ _ _ _ refl c.in_ok-put_begun.ensures.ok c.in_ok-put_link.ensures.ok c.in_ok-push.ensures.items

pub returns-in_err-put_link-clause-err : goal.returns-in_err-put_link-clause-err
returns-in_err-put_link-clause-err c = kept-twice _ c.args.into.now.items c.args.name.now _ _ _ _ refl c.in_ok-put_begun.ensures.ok c.in_err-put_link.ensures.err

pub returns-in_err-push-clause-err : goal.returns-in_err-push-clause-err
returns-in_err-push-clause-err c =
    kept-as _ _ _ _ (further _ _ _ _ (further _ _ _ _ (behind c.args.into.now.items c.args.name.now _ refl) c.in_ok-put_begun.ensures.ok) c.in_ok-put_link.ensures.ok) c.in_err-push.ensures.items
