use Rattle.std.proofs.Common.{◌≡◌, drop}
use Rattle.dm_outside.specs.Memory.{entries, file_named}
use Rattle.dm_outside.proofs.mem_shelf.find.Given as goal

abbrev pub invariant-loop-key : goal.invariant-loop-key
invariant-loop-key l = file_named (entries (drop l.key-index l.files)) l.name ≡ file_named (entries l.files) l.name
