use Rattle.dm_node.proofs.Names.{◌≡◌, ℕ, subst, ◌∙◌, arith, Spoke, first_out, node_state, so_far}
use Rattle.dm_node.proofs.Speaking.{spoke_none}
use Rattle.dm_node.proofs.States.{again_more}
use Rattle.dm_node.proofs.node.Node.send_again.Goals as goal

pub loop-place-init : goal.loop-place-init
loop-place-init c = spoke_none (so_far c.args.wires.now c.args.lines.now.items)

pub loop-place-preserved : goal.loop-place-preserved
loop-place-preserved c =
    let n = node_state c.args.self.now in
    let l = c.loop-place in
    again_more n c.args.to l.place (so_far c.args.wires.now c.args.lines.now.items) (so_far l.wires l.lines.items) (so_far c.send_outstanding.new.wires c.send_outstanding.new.lines.items) l.invariant c.in_ok-send_outstanding.ensures

pub returns : goal.returns
returns c =
    let n = node_state c.args.self.now in
    let l = c.loop-place in
    let end : l.place ≡ c.count_out-count.result = omega (arith, l.auto.place-end, c.loop-place-test.false) in
    subst (λ (k : ℕ). Spoke (so_far c.args.wires.now c.args.lines.now.items) (so_far l.wires l.lines.items) (first_out n c.args.to k)) (end ∙ c.count_out-count.ensures.count) l.invariant
