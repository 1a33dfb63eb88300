use Rattle.std.proofs.Common.{◌++◌, ap, ◌∙◌}
use Rattle.dm_look.specs.Letters.{letter_of}
use Rattle.dm_look.specs.LetterText.{text_of_letter}
use Rattle.dm_look.proofs.Texts.{letters-more, letters-none}
use Rattle.dm_look.proofs.contents.write_letters.Goals as goal

pub loop-message-init : goal.loop-message-init
loop-message-init c = letters-none (λ m. m.now) c.args.into.now.items c.args.messages.now

pub loop-message-preserved : goal.loop-message-preserved
loop-message-preserved c = letters-more (λ m. m.now) _ _ _ _ _ _ c.loop-message-test.true c.loop-message.invariant
    (c.in_ok-write_letter.ensures ∙ ap (λ m. c.loop-message.into.items ++ text_of_letter (letter_of m.now)) c.message-item.is)
