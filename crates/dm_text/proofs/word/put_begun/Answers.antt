-- A name, and words behind it.
use Rattle.std.specs.Prelude.{OnOk}
use Rattle.dm_text.proofs.Names.{◌≡◌, List, ℕ, ◌++◌, map, ap, subst, ◌∙◌, spaced, word_text}
use Rattle.dm_text.proofs.Kept.{kept-all, kept-too}
use Rattle.dm_text.proofs.word.put_begun.Goals as goal

pub returns-clause-ok : goal.returns-clause-ok
returns-clause-ok c =
    subst (λ (t : List ℕ). OnOk c.put_words.result (c.put_words.new.into.items ≡ t ++ spaced (map word_text c.args.words.now)))
    (c.in_ok-extend_from_slice.ensures.items ∙ ap (λ (n : List ℕ). c.args.into.now.items ++ n) c.as_bytes.ensures.value) c.put_words.ensures.ok

pub returns-clause-err : goal.returns-clause-err
returns-clause-err c = kept-too _ _ _ _ _ c.in_ok-extend_from_slice.ensures.items c.put_words.ensures.err

pub returns-in_err-extend_from_slice-clause-err : goal.returns-in_err-extend_from_slice-clause-err
returns-in_err-extend_from_slice-clause-err c = kept-all _ _ _ c.in_err-extend_from_slice.ensures.items
