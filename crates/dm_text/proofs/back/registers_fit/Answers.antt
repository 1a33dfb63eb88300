use Rattle.dm_text.proofs.Names.{◌≡◌, [], ◌∷◌, length, only_if, sized}
use Rattle.dm_text.proofs.Lists.{all_fit}
use Rattle.dm_text.proofs.back.registers_fit.Goals as goal

pub returns : goal.returns
returns c =
    (tt, (c.process_fits.ensures.pid, all_fit (sized 32) c.args.r.now (only_if (length c.args.r.now ≡ 16) (sized 32 c.args.pc) ∷ []) c.words_fit.ensures ((c.are_sixteen.ensures, c.process_fits.ensures.word), tt)))
