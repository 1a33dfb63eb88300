use Rattle.std.specs.Prelude.{OnOk}
use Rattle.dm_text.proofs.Names.{◌≡◌, [], ◌∷◌, ◌++◌, codes, length, map, refl, ap, subst, sym, decimal, pid_word, only_if, sized, spelled_line}
use Rattle.dm_text.proofs.Kept.{behind, further, kept-behind, kept-twice, listed-last}
use Rattle.dm_text.proofs.Lists.{spellings-more}
use Rattle.dm_text.proofs.ends.put_registers.Goals as goal

pub returns-clause-ok : goal.returns-clause-ok
returns-clause-ok c =
    subst (λ t. OnOk c.put_last.result (c.put_last.new.into.items ≡ t))
    (ap (λ ws. c.args.into.now.items ++ spelled_line (codes "registers" ∷ pid_word c.args.pid ∷ ws)) (sym (spellings-more (sized 32) c.args.r.now (only_if (length c.args.r.now ≡ 16) (sized 32 c.args.pc) ∷ []))))
    (listed-last _ _ (codes "registers") (pid_word c.args.pid ∷ []) (map decimal c.args.r.now) (decimal c.args.pc ∷ []) _ _ _ c.in_ok-put_begun.ensures.ok c.in_ok-put_numbers.ensures.ok c.put_last.ensures.ok)

pub returns-clause-err : goal.returns-clause-err
returns-clause-err c =
    kept-behind _ _ _ _ (further _ _ _ _ (further _ _ _ _ (behind c.args.into.now.items (codes "registers") _ refl) c.in_ok-put_begun.ensures.ok) c.in_ok-put_numbers.ensures.ok) c.put_last.ensures.err

pub returns-in_err-put_numbers-clause-err : goal.returns-in_err-put_numbers-clause-err
returns-in_err-put_numbers-clause-err c = kept-twice _ c.args.into.now.items (codes "registers") _ _ _ _ refl c.in_ok-put_begun.ensures.ok c.in_err-put_numbers.ensures.err
