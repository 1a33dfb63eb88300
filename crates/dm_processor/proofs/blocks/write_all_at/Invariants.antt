-- So many bytes are copied.
use Rattle.dm_processor.proofs.Names.{◌≡◌, ◌+◌, ◌-◌, ◌≤◌, ◌++◌, length, take, drop, concat, AreWhole}
use Rattle.dm_processor.proofs.blocks.write_all_at.Given as goal

abbrev pub invariant-loop-done : goal.invariant-loop-done
invariant-loop-done l = record {
  within : l.done ≤ length l.from;
  whole : AreWhole l.blocks;
  copied : concat l.blocks ≡ (take l.at (concat l.initial.blocks) ++ take l.done l.from) ++ drop (l.at + l.done) (concat l.initial.blocks);
}

abbrev pub decreases-loop-done : goal.decreases-loop-done
decreases-loop-done l = length l.from - l.done
