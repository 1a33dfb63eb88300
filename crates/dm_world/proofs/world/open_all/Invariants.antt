use Rattle.dm_world.proofs.Names.{◌≡◌, ℕ, length, slice_get, Some, Node, node_opened, AreNodes, node_state}
use Rattle.dm_world.proofs.world.open_all.Given as goal

abbrev pub invariant-loop-here : goal.invariant-loop-here
invariant-loop-here l =
    record {
      size : length l.nodes.items ≡ l.here;
      nodes : AreNodes l.nodes.items;
      opened : (m : ℕ) (n : Node) → slice_get l.nodes.items m ≡ Some n → node_state n ≡ node_opened l.boot m;
    }
