use Rattle.dm_records.proofs.Names.{◌≡◌, ◌≤◌, filter, length, range_with_len, has}
use Rattle.dm_records.proofs.machines.Machines.count.Given as goal

abbrev pub invariant-loop-machine : goal.invariant-loop-machine
invariant-loop-machine l = record { count : l.count ≡ length (filter (has l.fn.self) (range_with_len 0 l.machine)); few : l.count ≤ l.machine }
