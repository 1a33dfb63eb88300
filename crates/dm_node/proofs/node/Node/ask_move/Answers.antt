use Rattle.dm_node.proofs.Names.{arith, IsMachine, node_state, so_far}
use Rattle.dm_kernel.specs.Asking as kernel
use Rattle.dm_node.proofs.Parts.{lawful_parts, turn_answered}
use Rattle.dm_node.proofs.Here.{asks_move_stays}
use Rattle.dm_node.proofs.Staying.{turned_may}
use Rattle.dm_node.proofs.node.Node.ask_move.Goals as goal

pub act-requires-clause-may : goal.act-requires-clause-may
act-requires-clause-may c =
    let n = node_state c.args.self.now in
    let gives = kernel.asks_move n.kernel c.args.pid c.args.to in
    turned_may n c.ask_move.new.self c.in-Ok.parts.items gives c.in-Ok.ensures.answers
    (asks_move_stays n.kernel c.args.pid c.args.to) c.requires.may.acts

pub act-requires-clause-parts : goal.act-requires-clause-parts
act-requires-clause-parts c =
    let n = node_state c.args.self.now in
    let few : IsMachine c.args.to = omega (arith, c.requires.to) in
    let gives = kernel.asks_move n.kernel c.args.pid c.args.to in
    lawful_parts c.ask_move.new.self c.in-Ok.parts.items gives c.in-Ok.ensures.answers
    (λ t is. c.moves_are_asked_lawfully.ensures n.kernel c.args.pid c.args.to t c.requires.may.kernel.here few c.requires.lawful is)

pub returns-in-Ok : goal.returns-in-Ok
returns-in-Ok c =
    let n = node_state c.args.self.now in
    let gives = kernel.asks_move n.kernel c.args.pid c.args.to in
    turn_answered c.act.result c.act.new.self n c.ask_move.new.self c.in-Ok.parts.items gives (so_far c.args.wires.now c.args.lines.now.items) (so_far c.act.new.wires c.act.new.lines.items)
    c.in-Ok.ensures.answers
    c.act.ensures
