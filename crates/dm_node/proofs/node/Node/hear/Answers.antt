use Rattle.dm_node.proofs.Names.{◌≡◌, ◌<◌, ◌≤◌, false, true, [], ◌∷◌, ◌++◌, sym, ap, subst, ◌∙◌, arith, is_some, due, window, with_acked, Says, lets_go, Gave, node_state, here, so_far, with_sender}
use Rattle.dm_line.specs.declared.line.Line.TheVariants as line
use Rattle.dm_node.proofs.Names.{ℕ, ◌-◌, All-drop, IsLawfulMessage, IsRoute, MayAct}
use Rattle.dm_node.proofs.Arrivals.{gave_before, none_goes, none_may_go, one_goes}
use Rattle.dm_node.proofs.Sends.{route_of}
use Rattle.dm_node.proofs.Speaking.{spoke_line}
use Rattle.dm_node.proofs.Staying.{due_here, due_may, with_sender_may}
use Rattle.dm_node.proofs.node.Node.hear.Goals as goal

pub loop-round-init : goal.loop-round-init
loop-round-init c =
    let n = node_state c.args.self.now in
    let from = c.args.from in
    let wires = c.args.wires.now in
    let old = c.args.lines.now.items in
    let told = line.Acked from (here n) c.args.count in
    let said = so_far wires c.say.new.lines.items in
    let now = with_sender n from (with_acked (n.senders from) c.args.count) in
    record {
      may = subst MayAct (sym c.acked.ensures.state)
          (with_sender_may n from (with_acked (n.senders from) c.args.count) c.requires.may.acts
          (All-drop IsLawfulMessage (c.args.count - (n.senders from).acked) (n.senders from).unacked (c.requires.may.acts.unacked from c.requires.may.from.0)));
      streams = c.acked.ensures.streams;
      here = ap here c.acked.ensures.state;
      rest = λ after new g.
          gave_before after (so_far wires old) said new (Says told ∷ []) (lets_go window now from)
          (spoke_line wires old c.say.new.lines.items told (c.in_ok-say.ensures.ok ∙ ap (λ h. old ++ line.Acked from h c.args.count ∷ []) c.here.ensures))
          (subst (λ s. Gave after said new (lets_go window s from)) c.acked.ensures.state g);
    }

pub send_due-requires-clause-route : goal.send_due-requires-clause-route
send_due-requires-clause-route c =
    let may = c.requires.may in
    subst (λ (k : ℕ). IsRoute k c.args.from) (sym c.loop-round.invariant.here) (route_of (here (node_state c.args.self.now)) c.args.from may.acts.here may.from.0 may.from.1)

pub returns-then-not-branch : goal.returns-then-not-branch
returns-then-not-branch c =
    let l = c.loop-round in
    let n = node_state l.self in
    let h : l._round < 8 = omega arith in
    let b = c.if-not-branch.true in
    let none : is_some (due (n.senders c.args.from)) ≡ false = sym c.in_ok-send_due.ensures.was ∙ b in
    let sent = so_far c.send_due.new.wires c.send_due.new.lines.items in
    l.invariant.rest c.send_due.new.self sent
    (none_goes l._round n c.send_due.new.self c.args.from (so_far l.wires l.lines.items) sent h none c.in_ok-send_due.ensures.gave)

pub loop-round-preserved : goal.loop-round-preserved
loop-round-preserved c =
    let l = c.loop-round in
    let n = node_state l.self in
    let h : l._round < 8 = omega arith in
    let b = c.if-not-branch.false in
    let some : is_some (due (n.senders c.args.from)) ≡ true = sym c.in_ok-send_due.ensures.was ∙ b in
    let sent = c.in_ok-send_due.ensures.gave.state in
    record {
      may = subst MayAct (sym sent) (due_may n c.args.from (due (n.senders c.args.from)) c.requires.may.from.0 l.invariant.may);
      streams = c.in_ok-send_due.ensures.gave.streams;
      here = ap here sent ∙ due_here n c.args.from (due (n.senders c.args.from)) ∙ l.invariant.here;
      rest = λ after new g.
          l.invariant.rest after new
          (one_goes l._round n c.send_due.new.self after c.args.from (so_far l.wires l.lines.items) (so_far c.send_due.new.wires c.send_due.new.lines.items) new h some c.in_ok-send_due.ensures.gave g);
    }

pub returns : goal.returns
returns c =
    let l = c.loop-round in
    let h : 8 ≤ l._round = omega arith in
    let said = so_far l.wires l.lines.items in
    l.invariant.rest l.self said (none_may_go l._round l.self c.args.from said h l.invariant.streams)
