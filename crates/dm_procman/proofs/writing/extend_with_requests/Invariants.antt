use Rattle.dm_procman.proofs.Names.{◌≡◌, ◌++◌, take}
use Rattle.std.specs.List.{All, flat_map}
use Rattle.dm_procman.specs.Packed.{FitsRequest, request}
use Rattle.dm_procman.proofs.writing.extend_with_requests.Given as goal

abbrev pub invariant-loop-request : goal.invariant-loop-request
invariant-loop-request l = (l.out.items ≡ l.fn.out.items ++ flat_map request.spell (take l.request-index l.pending)) × All FitsRequest (take l.request-index l.pending)
