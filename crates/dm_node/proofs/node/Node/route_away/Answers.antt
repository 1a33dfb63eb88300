use Rattle.dm_node.proofs.Names.{◌≡◌, ℕ, true, ◌++◌, ◌∷◌, [], ap, sym, subst, ◌∙◌, Message, GaveActs, put_line, routes_away, node_state, so_far}
use Rattle.dm_node.proofs.Names.{◌<◌, arith, here, IsRoute, MayAct}
use Rattle.dm_node.proofs.Speaking.{spoke_line}
use Rattle.dm_node.proofs.States.{given, given_goes}
use Rattle.dm_node.proofs.Staying.{given_may}
use Rattle.dm_node.proofs.node.Node.route_away.Goals as goal

pub send_due-requires-clause-may : goal.send_due-requires-clause-may
send_due-requires-clause-may c =
    let n = node_state c.args.self.now in
    let m = c.args.message in
    let to = c.get-said.result.now.to.at in
    let same : to ≡ m.to.at = ap (λ (x : Message). x.to.at) c.get-said.ensures in
    let small : to < 16 = omega (arith, same, c.requires.route.to) in
    subst MayAct (sym c.in_ok-give.ensures.state) (given_may n to m small c.requires.lawful c.requires.may)

pub send_due-requires-clause-route : goal.send_due-requires-clause-route
send_due-requires-clause-route c =
    let same = ap (λ (x : Message). x.to.at) c.get-said.ensures in
    subst (λ (k : ℕ). IsRoute k c.get-said.result.now.to.at) (sym (ap here c.in_ok-give.ensures.state)) (subst (IsRoute c.args.self.now.kernel.here) (sym same) c.requires.route)

pub returns-in_ok-send_due : goal.returns-in_ok-send_due
returns-in_ok-send_due c =
    let n = node_state c.args.self.now in
    let m = c.args.message in
    let to = c.get-said.result.now.to.at in
    let wires = c.args.wires.now in
    let lines = c.args.lines.now.items in
    let old = so_far wires lines in
    let mid = so_far wires c.say.new.lines.items in
    let new = so_far c.send_due.new.wires c.send_due.new.lines.items in
    let same : to ≡ m.to.at = ap (λ (x : Message). x.to.at) c.get-said.ensures in
    let put = c.put_line-put.ensures ∙ ap (put_line n) c.get-said.ensures in
    subst (λ (t : ℕ). GaveActs c.send_due.new.self old new (routes_away n t m (n.senders t))) same
    (subst (GaveActs c.send_due.new.self old new)
    (sym (given n to m (n.senders to) true c.in_ok-give.ensures.not_worn (sym c.none_waits-at_once.ensures ∙ c.if-at_once.true)))
    (given_goes n (node_state c.give.new.self) c.send_due.new.self to m old mid new c.in_ok-give.ensures.state
    (spoke_line wires lines c.say.new.lines.items (put_line n m) (c.in_ok-say.ensures.ok ∙ ap (λ l. lines ++ l ∷ []) put))
    c.in_ok-send_due.ensures.gave))
