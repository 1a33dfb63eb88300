-- With the commands that are left it has all of them.
use Rattle.dm_words.proofs.Names.{◌≡◌, map, drop, app_of, bare, form_shape, with_shapes}
use Rattle.dm_words.proofs.words.with_commands.Given as goal

abbrev pub invariant-loop-command : goal.invariant-loop-command
invariant-loop-command l = with_shapes (app_of l.line) (map form_shape (drop l.command-index l.commands)) ≡ with_shapes bare (map form_shape l.commands)
