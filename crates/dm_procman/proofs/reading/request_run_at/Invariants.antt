use Rattle.dm_procman.proofs.Names.{◌≡◌}
use Rattle.std.proofs.Common.{◌-◌}
use Rattle.dm_packet.specs.Field.{read_times}
use Rattle.dm_procman.specs.Packed.{request}
use Rattle.dm_packet.proofs.Loop.{with_front}
use Rattle.dm_procman.proofs.reading.request_run_at.Given as goal

abbrev pub invariant-loop : goal.invariant-loop
invariant-loop l = with_front l.pending (read_times request.read (l.count - l.counter) l.rest) ≡ read_times request.read l.count l.bytes
