use Rattle.dm_statebytes.proofs.Names.{◌≡◌, ◌++◌, take, All, flat_map, number, Fits}
use Rattle.dm_statebytes.proofs.writing.put_registers.Given as goal

abbrev pub invariant-loop-value : goal.invariant-loop-value
invariant-loop-value l = (l.out.items ≡ l.fn.out.items ++ flat_map (number 4).spell (take l.value-index l.registers)) × All (Fits 4) (take l.value-index l.registers)
