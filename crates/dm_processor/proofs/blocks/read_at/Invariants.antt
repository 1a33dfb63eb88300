-- So many bytes are copied.
use Rattle.dm_processor.proofs.Names.{◌≡◌, ◌-◌, ◌≤◌, length, take, drop, concat}
use Rattle.dm_processor.proofs.blocks.read_at.Given as goal

abbrev pub invariant-loop-done : goal.invariant-loop-done
invariant-loop-done l = record { within : l.done ≤ length l.into; copied : take l.done l.into ≡ take l.done (drop l.at (concat l.blocks)) }

abbrev pub decreases-loop-done : goal.decreases-loop-done
decreases-loop-done l = length l.into - l.done
