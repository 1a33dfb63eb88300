use Rattle.dm_statebytes.proofs.Names.{◌≡◌, ◌-◌, length, take, number, read_times, with_front, registers}
use Rattle.dm_statebytes.proofs.reading.registers_at.Given as goal

abbrev pub invariant-loop-place : goal.invariant-loop-place
invariant-loop-place l = (with_front (take l.place l.registers) (read_times (number 4).read (16 - l.place) l.rest) ≡ registers.read l.bytes) × (length l.registers ≡ 16)
