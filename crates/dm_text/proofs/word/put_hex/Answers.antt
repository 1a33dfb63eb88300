use Rattle.dm_text.proofs.Names.{◌++◌, ◌∷◌, [], ap, sym, ◌∙◌, append-nil}
use Rattle.dm_text.proofs.Spacing.{hex-more}
use Rattle.dm_text.proofs.Kept.{behind, further, kept-as}
use Rattle.dm_text.proofs.word.put_hex.Goals as goal

pub loop-byte-init : goal.loop-byte-init
loop-byte-init c = sym (append-nil c.args.into.now.items)

pub loop-byte-preserved : goal.loop-byte-preserved
loop-byte-preserved c =
    hex-more _ _ _ _ _ _ _ c.loop-byte-test.true c.loop-byte.invariant
    (c.in_ok-push.ensures.items ∙ ap (λ n. c.loop-byte.into.items ++ n ∷ []) c.hex_digit.ensures)
    (c.in_ok-push-2.ensures.items ∙ ap (λ n. c.push.new.list.items ++ n ∷ []) c.hex_digit-in-loop-byte.ensures)

pub returns-in_err-push-clause-err : goal.returns-in_err-push-clause-err
returns-in_err-push-clause-err c = kept-as _ _ _ _ (behind _ _ _ c.loop-byte.invariant) c.in_err-push.ensures.items

pub returns-in_err-push-2-clause-err : goal.returns-in_err-push-2-clause-err
returns-in_err-push-2-clause-err c = kept-as _ _ _ _ (further _ _ _ _ (behind _ _ _ c.loop-byte.invariant) c.in_ok-push.ensures.items) c.in_err-push-2.ensures.items
