use Rattle.dm_node.proofs.Names.{◌-◌, List, window, Node, Sent, Spoken, takes_kept, Gave, HasStreams, node_state, so_far}
use Rattle.dm_node.proofs.node.Node.take_kept.Given as goal

-- what the rounds that are left say comes behind what was said, whatever stands on the wires
abbrev pub invariant-loop-round : goal.invariant-loop-round
invariant-loop-round l =
    record {
      streams : HasStreams l.self;
      rest : (wires : List (List Sent)) (after : Node) (new : Spoken) → Gave after (so_far wires l.lines.items) new (takes_kept (window - l._round) (node_state l.self) l.from)
          → Gave after (so_far wires l.fn.lines.items) new (takes_kept window (node_state l.fn.self) l.from);
    }
