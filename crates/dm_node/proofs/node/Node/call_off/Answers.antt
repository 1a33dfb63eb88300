use Rattle.dm_node.proofs.Names.{node_state, so_far}
use Rattle.dm_kernel.specs.Coming as kernel
use Rattle.dm_node.proofs.Parts.{lawful_parts, turn_answered}
use Rattle.dm_node.proofs.Here.{calls_off_stays}
use Rattle.dm_node.proofs.Staying.{turned_may}
use Rattle.dm_node.proofs.node.Node.call_off.Goals as goal

pub act-requires-clause-may : goal.act-requires-clause-may
act-requires-clause-may c =
    let n = node_state c.args.self.now in
    let gives = kernel.calls_off n.kernel c.args.pid in
    turned_may n c.call_off.new.self c.in-Ok.parts.items gives c.in-Ok.ensures.answers
    (calls_off_stays n.kernel c.args.pid) c.requires.may.acts

pub act-requires-clause-parts : goal.act-requires-clause-parts
act-requires-clause-parts c =
    let n = node_state c.args.self.now in
    let gives = kernel.calls_off n.kernel c.args.pid in
    lawful_parts c.call_off.new.self c.in-Ok.parts.items gives c.in-Ok.ensures.answers
    (λ t is. c.calls_off_lawfully.ensures n.kernel c.args.pid t c.requires.may.kernel.here c.requires.lawful is)

pub returns-in-Ok : goal.returns-in-Ok
returns-in-Ok c =
    let n = node_state c.args.self.now in
    let gives = kernel.calls_off n.kernel c.args.pid in
    turn_answered c.act.result c.act.new.self n c.call_off.new.self c.in-Ok.parts.items gives (so_far c.args.wires.now c.args.lines.now.items) (so_far c.act.new.wires c.act.new.lines.items)
    c.in-Ok.ensures.answers
    c.act.ensures
