use Rattle.dm_world.proofs.Names.{sym, subst, arrives_packet, ActsLawfully, MayArrivePacket, Gave, node_in, node_state, on_ok_weaker, slice_index_or, so_far}
use Rattle.dm_world.proofs.Nodes.{acted, here_at, is_node_at, node_at, packet_lawfully}
use Rattle.dm_world.proofs.step.receive.Goals as goal

pub arrive-requires-clause-may : goal.arrive-requires-clause-may
arrive-requires-clause-may c =
    subst (λ n. MayArrivePacket n c.args.packet) (sym (node_at c.args.boot.now c.args.nodes.now c.from.result c.args.m c.index-nodes-from.result c.from.ensures c.requires.within)) c.requires.may

pub arrive-requires-clause-streams : goal.arrive-requires-clause-streams
arrive-requires-clause-streams c = (is_node_at c.args.nodes.now c.from.result c.args.m c.index-nodes-from.result c.from.ensures c.requires.within c.requires.nodes).streams

pub returns : goal.returns
returns c =
    let b = c.args.boot.now in
    let nodes = c.args.nodes.now in
    let n = node_in b nodes c.args.m in
    let p = c.args.packet in
    let x = c.arrive.new.self in
    let old = so_far c.args.wires.now c.args.lines.now.items in
    let new = so_far c.arrive.new.wires c.arrive.new.lines.items in
    let same = node_at b nodes c.from.result c.args.m c.index-nodes-from.result c.from.ensures c.requires.within in
    on_ok_weaker c.arrive.result
    (λ (gave : Gave x old new (arrives_packet (node_state (slice_index_or nodes c.from.result c.index-nodes-from.result)) p)). acted b nodes c.from.result c.args.m x old new (arrives_packet n p) c.from.ensures c.requires.within c.requires.nodes (subst (λ s. Gave x old new (arrives_packet s p)) same gave)
    (subst (λ k. ActsLawfully k (arrives_packet n p)) (here_at b nodes c.args.m c.index-nodes-from.result c.requires.within c.requires.nodes) (packet_lawfully n p c.requires.may)))
    c.arrive.ensures
