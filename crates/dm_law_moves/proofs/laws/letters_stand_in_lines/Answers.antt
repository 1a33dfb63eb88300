use Rattle.dm_law_moves.proofs.LetterLines.{letters_stand_in_lines}
use Rattle.dm_law_moves.proofs.laws.letters_stand_in_lines.Goals as goal

pub returns : goal.returns
returns c = letters_stand_in_lines
