use Rattle.dm_node.proofs.Names.{◌≡◌, ◌-◌, Ack, window, Node, Spoken, MayAct, arrives, lets_go, Gave, HasStreams, node_state, so_far}
use Rattle.dm_node.proofs.node.Node.hear.Given as goal

-- what the rounds that are left say comes behind what was said
abbrev pub invariant-loop-round : goal.invariant-loop-round
invariant-loop-round l =
    record {
      may : MayAct (node_state l.self);
      streams : HasStreams l.self;
      here : l.self.kernel.here ≡ l.fn.self.kernel.here;
      rest : (after : Node) (new : Spoken) → Gave after (so_far l.wires l.lines.items) new (lets_go (window - l._round) (node_state l.self) l.from)
          → Gave after (so_far l.fn.wires l.fn.lines.items) new (arrives (node_state l.fn.self) l.from (Ack l.fn.count));
    }
