use Rattle.dm_text.proofs.Names.{codes, refl}
use Rattle.dm_text.proofs.Kept.{behind, further, kept-behind, kept-twice, listed-last}
use Rattle.dm_text.proofs.ends.put_process.Goals as goal

pub returns-clause-ok : goal.returns-clause-ok
returns-clause-ok c = listed-last _ _ (codes "process") _ _ _ _ _ _ c.in_ok-put_begun.ensures.ok c.in_ok-put_doing.ensures.ok c.put_last.ensures.ok

pub returns-clause-err : goal.returns-clause-err
returns-clause-err c =
    kept-behind _ _ _ _ (further _ _ _ _ (further _ _ _ _ (behind c.args.into.now.items (codes "process") _ refl) c.in_ok-put_begun.ensures.ok) c.in_ok-put_doing.ensures.ok) c.put_last.ensures.err

pub returns-in_err-put_doing-clause-err : goal.returns-in_err-put_doing-clause-err
returns-in_err-put_doing-clause-err c = kept-twice _ c.args.into.now.items (codes "process") _ _ _ _ refl c.in_ok-put_begun.ensures.ok c.in_err-put_doing.ensures.err
