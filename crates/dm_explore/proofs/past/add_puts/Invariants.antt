use Rattle.std.specs.Prelude.{◌≡◌, ◌++◌, take}
use Rattle.dm_explore.specs.Past.{puts_in}
use Rattle.dm_explore.proofs.past.add_puts.Given as goal

-- those of the lines so far were added
abbrev pub invariant-loop-line : goal.invariant-loop-line
invariant-loop-line l = l.puts.items ≡ l.fn.puts.items ++ puts_in (take l.line-index l.lines)
