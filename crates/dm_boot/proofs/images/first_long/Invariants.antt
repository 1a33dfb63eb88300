use Rattle.dm_boot.proofs.Imports.{◌≡◌, drop, first_long}
use Rattle.dm_boot.proofs.images.first_long.Given as goal

abbrev pub invariant-loop-i : goal.invariant-loop-i
invariant-loop-i l = first_long l.i (drop l.i l.images) ≡ first_long 0 l.images
