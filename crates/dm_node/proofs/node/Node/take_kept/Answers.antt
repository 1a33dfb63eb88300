use Rattle.dm_node.proofs.Names.{◌≡◌, ◌<◌, ◌≤◌, ◌++◌, ◌∷◌, [], sym, ap, subst, KnowsIdle, ◌∙◌, arith, node_state, NodeState, here, so_far, with_message}
use Rattle.dm_line.specs.declared.line.Line.TheVariants as line
use Rattle.dm_kernel.specs.Meets as kernel
use Rattle.dm_node.proofs.Arrivals.{none_taken, one_taken, rounds_over}
use Rattle.dm_node.proofs.Speaking.{spoke_line}
use Rattle.dm_node.proofs.node.Node.take_kept.Goals as goal

pub returns-in-None : goal.returns-in-None
returns-in-None c = λ wires.
    let l = c.loop-round in
    let h : l._round < 8 = omega arith in
    let said = so_far wires l.lines.items in
    l.invariant.rest wires c.next_kept.new.self said
    (none_taken l._round (node_state l.self) c.next_kept.new.self c.args.from said h (sym c.next_kept.ensures.value ∙ c.in-None.is) c.next_kept.ensures.state c.next_kept.ensures.streams)

pub loop-round-preserved : goal.loop-round-preserved
loop-round-preserved c =
    let l = c.loop-round in
    let n = node_state l.self in
    let from = c.args.from in
    let m = c.in-Some.message in
    let next = node_state c.next_kept.new.self in
    let h : l._round < 8 = omega arith in
    let mid = record next { kernel = kernel.kernel_state c.enters.new.self } in
    let state = c.next_kept.ensures.state in
    let old = l.lines.items in
    let told : line.Taken from c.here.result c.count-n.result ≡ line.Taken from (here n) (n.receivers from).count =
    ap (λ k. line.Taken from k c.count-n.result) c.here.ensures ∙ ap (λ (s : NodeState). line.Taken from (here s) c.count-n.result) state ∙ ap (λ k. line.Taken from (here n) k) c.count-n.ensures in
    let said : c.say.new.lines.items ≡ old ++ line.Taken from (here n) (n.receivers from).count ∷ [] = c.in_ok-say-in-Some.ensures.ok ∙ ap (λ t. old ++ t ∷ []) told in
    record {
      streams =
          record {
            senders = c.next_kept.ensures.streams.senders;
            receivers = c.next_kept.ensures.streams.receivers;
            idle = subst KnowsIdle (sym c.in_ok-enters-in-Some.ensures.ok) c.next_kept.ensures.streams.idle;
          };
      rest = λ wires after new g.
          l.invariant.rest wires after new
          (one_taken l._round n mid after from m (so_far wires old) (so_far wires c.say.new.lines.items) new h (sym c.next_kept.ensures.value ∙ c.in-Some.is)
          (ap (λ k. record next { kernel = kernel.kernel_state k }) c.in_ok-enters-in-Some.ensures.ok ∙ ap (λ (s : NodeState). with_message s m) state)
          (spoke_line wires old c.say.new.lines.items (line.Taken from (here n) (n.receivers from).count) said) g);
    }

pub returns : goal.returns
returns c = λ wires.
    let l = c.loop-round in
    let h : 8 ≤ l._round = omega arith in
    let said = so_far wires l.lines.items in
    l.invariant.rest wires l.self said (rounds_over l._round l.self c.args.from said h l.invariant.streams)
