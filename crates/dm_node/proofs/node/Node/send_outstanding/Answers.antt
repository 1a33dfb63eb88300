use Rattle.dm_node.proofs.Names.{Some, ap, ◌∙◌, on_ok_weaker, outstanding, here, node_state, so_far}
use Rattle.dm_node.specs.Out.{numbered}
use Rattle.dm_packet.specs.declared.Packet.TheVariants as packet
use Rattle.dm_node.proofs.States.{again_none, again_sent}
use Rattle.dm_node.proofs.node.Node.send_outstanding.Goals as goal

pub returns-in-Some : goal.returns-in-Some
returns-in-Some c =
    let n = node_state c.args.self.now in
    let to = c.args.to in
    let seq = c.in-Some.seq in
    let m = c.in-Some.message.now in
    let old = so_far c.args.wires.now c.args.lines.now.items in
    let new = so_far c.send_data.new.wires c.send_data.new.lines.items in
    on_ok_weaker c.send_data.result
    (again_sent n to (packet.Data c.here-here.result to seq m) (outstanding (n.senders to) c.args.place) old new
    (ap (λ h. Some (packet.Data h to seq m)) c.here-here.ensures ∙ ap (numbered (here n) to) c.in-Some.ensures.outstanding))
    c.send_data.ensures

pub returns-in-None : goal.returns-in-None
returns-in-None c =
    let n = node_state c.args.self.now in
    again_none n c.args.to (outstanding (n.senders c.args.to) c.args.place) (so_far c.args.wires.now c.args.lines.now.items) (ap (numbered (here n) c.args.to) c.in-None.ensures.outstanding)
