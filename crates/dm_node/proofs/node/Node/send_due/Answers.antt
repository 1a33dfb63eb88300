use Rattle.dm_node.proofs.Names.{Some, ap, ◌∙◌, due, here, node_state, so_far}
use Rattle.dm_node.specs.Out.{numbered}
use Rattle.dm_packet.specs.declared.Packet.TheVariants as packet
use Rattle.dm_node.proofs.States.{due_sent, none_due}
use Rattle.dm_node.proofs.node.Node.send_due.Goals as goal

pub returns-in_ok-send_data-in-Some-clause-gave : goal.returns-in_ok-send_data-in-Some-clause-gave
returns-in_ok-send_data-in-Some-clause-gave c =
    let n = node_state c.args.self.now in
    let to = c.args.to in
    let seq = c.in-Some.seq in
    let m = c.in-Some.message.now in
    due_sent n c.sent_due.new.self to (packet.Data c.here-here.result to seq m) (due (n.senders to)) (so_far c.args.wires.now c.args.lines.now.items) (so_far c.send_data.new.wires c.send_data.new.lines.items)
    (ap (λ h. Some (packet.Data h to seq m)) c.here-here.ensures ∙ ap (numbered (here n) to) c.in-Some.ensures.due) c.sent_due.ensures.state c.sent_due.ensures.streams c.in_ok-send_data-in-Some.ensures

pub returns-in-None-clause-gave : goal.returns-in-None-clause-gave
returns-in-None-clause-gave c =
    let n = node_state c.args.self.now in
    none_due c.args.self.now c.args.to (due (n.senders c.args.to)) (so_far c.args.wires.now c.args.lines.now.items) (ap (numbered (here n) c.args.to) c.in-None.ensures.due) c.requires.streams
