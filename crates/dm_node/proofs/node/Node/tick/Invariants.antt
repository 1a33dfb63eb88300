use Rattle.dm_node.proofs.Names.{◌∷◌, Says, Spoke, all_out, counts_out, node_state, so_far}
use Rattle.dm_line.specs.declared.line.Line.TheVariants as line
use Rattle.dm_node.proofs.node.Node.tick.Given as goal

abbrev pub invariant-loop-to : goal.invariant-loop-to
invariant-loop-to l =
    Spoke (so_far l.fn.wires l.fn.lines.items) (so_far l.wires l.lines.items)
    (Says (line.Resent l.self.kernel.here (counts_out (node_state l.self) l.self.machines)) ∷ all_out (node_state l.self) l.to)
