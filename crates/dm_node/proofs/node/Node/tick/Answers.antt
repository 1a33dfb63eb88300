use Rattle.dm_node.proofs.Names.{◌≡◌, ℕ, ◌+◌, ◌∷◌, ◌++◌, [], ap, sym, refl, subst, ◌∙◌, arith, eq-eqb, Says, Spoke, all_out, counts_out, here, node_state, so_far}
use Rattle.dm_line.specs.declared.line.Line.TheVariants as line
use Rattle.dm_node.proofs.Speaking.{spoke_line}
use Rattle.dm_node.proofs.States.{all_more, all_same, apart}
use Rattle.dm_node.proofs.node.Node.tick.Goals as goal
use Rattle.dm_node.proofs.node.Node.tick.Goals.{then-to-here+in_ok-send_again, else-to-here}

pub loop-to-init : goal.loop-to-init
loop-to-init c =
    let n = node_state c.args.self.now in
    let lines = c.args.lines.now.items in
    spoke_line c.args.wires.now lines c.say.new.lines.items (line.Resent (here n) (counts_out n n.machines))
    (c.in_ok-say.ensures.ok
    ∙ ap (λ h. lines ++ line.Resent h c.counts_out-count.result ∷ []) c.here-here.ensures
    ∙ ap (λ k. lines ++ line.Resent (here n) k ∷ []) c.counts_out-count.ensures)

pub loop-to-preserved : goal.loop-to-preserved
loop-to-preserved c =
    let n = node_state c.args.self.now in
    let l = c.loop-to in
    let old = so_far c.args.wires.now c.args.lines.now.items in
    let mid = so_far l.wires l.lines.items in
    let told = line.Resent (here n) (counts_out n n.machines) in
    elim c.if-to-here.branch [
      | then-to-here+in_ok-send_again w ↦
          subst (λ x. Spoke old (so_far x c.if-to-here.lines.items) (Says told ∷ all_out n (l.to + 1))) (sym w.wires-is)
          (subst (λ x. Spoke old (so_far w.send_again.new.wires x) (Says told ∷ all_out n (l.to + 1))) (sym (ap (λ v. v.items) w.lines-is))
          (all_more n l.to told old mid (so_far w.send_again.new.wires w.send_again.new.lines.items) (apart (here n) l.to (λ e. w.if-to-here.true (sym e ∙ sym c.here-here.ensures))) l.invariant
          w.in_ok-send_again.ensures))
      | else-to-here w ↦
          subst (λ x. Spoke old (so_far x c.if-to-here.lines.items) (Says told ∷ all_out n (l.to + 1))) (sym w.wires-is)
          (subst (λ x. Spoke old (so_far l.wires x) (Says told ∷ all_out n (l.to + 1))) (sym (ap (λ v. v.items) w.lines-is))
          (all_same n l.to told old mid (eq-eqb (here n) l.to (sym (w.if-to-here.false ∙ c.here-here.ensures))) l.invariant))
    ]

pub returns : goal.returns
returns c =
    let n = node_state c.args.self.now in
    let l = c.loop-to in
    let old = so_far c.args.wires.now c.args.lines.now.items in
    let told = line.Resent (here n) (counts_out n n.machines) in
    let end : l.to ≡ c.args.self.now.machines = omega (arith, l.auto.to-end, c.loop-to-test.false) in
    record { state = refl; streams = c.requires.streams; outs = subst (λ (k : ℕ). Spoke old (so_far l.wires l.lines.items) (Says told ∷ all_out n k)) end l.invariant }
