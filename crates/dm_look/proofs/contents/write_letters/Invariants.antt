use Rattle.std.proofs.Common.{◌≡◌, ◌++◌, map, take}
use Rattle.std.specs.Prelude.{filter_map}
use Rattle.dm_look.specs.Letters.{letter_of}
use Rattle.dm_look.specs.LetterText.{text_of_letters}
use Rattle.dm_look.proofs.contents.write_letters.Given as goal

abbrev pub invariant-loop-message : goal.invariant-loop-message
invariant-loop-message l = l.into.items ≡ l.initial.into.items ++ text_of_letters (filter_map letter_of (map (λ m. m.now) (take l.message-index l.messages)))
