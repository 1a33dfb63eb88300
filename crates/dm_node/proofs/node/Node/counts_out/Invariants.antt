use Rattle.dm_node.proofs.Names.{◌≡◌, ◌*◌, ◌≤◌, counts_out, node_state}
use Rattle.dm_node.proofs.node.Node.counts_out.Given as goal

abbrev pub invariant-loop-to : goal.invariant-loop-to
invariant-loop-to l = record { count : l.count ≡ counts_out (node_state l.self) l.to; few : l.count ≤ 8 * l.to }
