-- The command has taken the options so far.
use Rattle.dm_words.proofs.Shapes.{HasTaken}
use Rattle.dm_words.proofs.argument.with_options.Given as goal

abbrev pub invariant-loop-option : goal.invariant-loop-option
invariant-loop-option l = HasTaken l.name l.options l.option-index l.command
