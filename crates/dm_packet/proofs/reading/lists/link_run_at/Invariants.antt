use Rattle.dm_packet.proofs.Names.{◌≡◌, ◌-◌, length, read_times, link}
use Rattle.dm_packet.proofs.Loop.{with_front}
use Rattle.dm_packet.proofs.reading.lists.link_run_at.Given as goal

abbrev pub invariant-loop : goal.invariant-loop
invariant-loop l = (with_front l.links.items (read_times link.read (l.count - l.counter) l.rest) ≡ read_times link.read l.count l.bytes) × (length l.links.items ≡ l.counter)
