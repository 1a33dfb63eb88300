use Rattle.dm_node.proofs.Names.{Result, into_iter_items, All, IsLawfulPart, Node, Stop, Spoken, acts, MayAct, Answers, HasStreams, node_state, so_far}
use Rattle.dm_node.proofs.node.Node.act.Given as goal

-- what answers the parts that are left answers all
abbrev pub invariant-loop-part : goal.invariant-loop-part
invariant-loop-part l =
    record {
      can_next : (goal.iterator-loop-part).can_next l.part-iterator;
      finite : (goal.iterator-loop-part).is_finite l.part-iterator;
      fit : All IsLawfulPart (into_iter_items l.part-iterator);
      streams : HasStreams l.self;
      may : MayAct (node_state l.self);
      rest : (r : Result Unit Stop) (after : Node) (new : Spoken) → Answers r after (so_far l.wires l.lines.items) new (acts (node_state l.self) (into_iter_items l.part-iterator))
          → Answers r after (so_far l.fn.wires l.fn.lines.items) new (acts (node_state l.fn.self) l.fn.parts.items);
    }
