use Rattle.dm_node.proofs.Names.{Spoke, first_out, node_state, so_far}
use Rattle.dm_node.proofs.node.Node.send_again.Given as goal

abbrev pub invariant-loop-place : goal.invariant-loop-place
invariant-loop-place l =
    Spoke (so_far l.fn.wires l.fn.lines.items) (so_far l.wires l.lines.items) (first_out (node_state l.self) l.to l.place)
