use Rattle.dm_text.proofs.Names.{◌≡◌, ◌++◌, take, text_of_ends}
use Rattle.dm_text.proofs.text.write_ends.Given as goal

abbrev pub invariant-loop-end : goal.invariant-loop-end
invariant-loop-end l = l.into.items ≡ l.initial.into.items ++ text_of_ends (take l.end-index l.ends)
