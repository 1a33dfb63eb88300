use Rattle.dm_text.proofs.Names.{◌≡◌, ◌++◌}
use Rattle.std.specs.Prelude.{drop}
use Rattle.dm_look.specs.LetterText.{carried_text}
use Rattle.dm_look.proofs.letters.put_carried.Given as goal

abbrev pub invariant-loop-place : goal.invariant-loop-place
invariant-loop-place l = l.into.items ++ carried_text l.id l.place (drop l.place l.links) ≡ l.initial.into.items ++ carried_text l.id 0 l.links
