-- One byte more, a byte that is refused, or no more.
use Rattle.dm_asm.proofs.Names.{◌∙◌, ap, sym, source_words, bytes_behind, listed_bytes}
use Rattle.dm_asm.proofs.Meant.{listed-more, listed-none, listed-refused}
use Rattle.dm_asm.proofs.statements.add_listed.Goals as goal

pub returns : goal.returns
returns c =
    sym c.loop-word.invariant
    ∙ ap (λ ws. bytes_behind c.loop-word.image.items (listed_bytes ws)) c.in_default.ensures.none
    ∙ listed-none c.loop-word.image.items

pub returns-in-Err : goal.returns-in-Err
returns-in-Err c =
    sym c.loop-word.invariant
    ∙ ap (λ ws. bytes_behind c.loop-word.image.items (listed_bytes ws)) c.in-Some.ensures.some
    ∙ listed-refused c.loop-word.image.items c.in-Some.word.now (source_words c.in-Some.others.now) c.in-Err.why c.in-Err.ensures.value

pub loop-word-preserved : goal.loop-word-preserved
loop-word-preserved c =
    ap (λ items. bytes_behind items (listed_bytes (source_words c.in-Some.others.now))) c.in_ok-push-in-Ok.ensures.items
    ∙ listed-more c.loop-word.image.items c.in-Some.word.now (source_words c.in-Some.others.now) c.in-Ok.byte c.in-Ok.ensures.value
    ∙ ap (λ ws. bytes_behind c.loop-word.image.items (listed_bytes ws)) (sym c.in-Some.ensures.some)
    ∙ c.loop-word.invariant
