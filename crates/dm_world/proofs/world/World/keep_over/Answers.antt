use Rattle.dm_world.proofs.Names.{get, pid_cmp, ◌≡◌, ◌∙◌, None, Pid, NodeState, ap, sym, rules, node_in, node_state, ended_in}
use Rattle.dm_world.proofs.Nodes.{node_at}
use Rattle.dm_world.proofs.Stepping.{none_kept, one_kept}
use Rattle.dm_world.proofs.world.World.keep_over.Goals as goal

pub returns-in_ok-insert-clause-ended : goal.returns-in_ok-insert-clause-ended
unfolding ended_in
returns-in_ok-insert-clause-ended c = λ p.
    let w = c.args.self.now in
    let here : node_state c.index.result.now ≡ node_in w.boot w.nodes.items c.args.m =
    ap node_state c.index.ensures ∙ node_at w.boot w.nodes.items c.place_of.result c.args.m c.index.result.now c.place_of.ensures c.requires.within in
    let over : c.over.result ≡ (node_in w.boot w.nodes.items c.args.m).kernel.over = c.over.ensures ∙ ap (λ k. k.over) c.kernel.ensures ∙ ap (λ (n : NodeState). n.kernel.over) here in
    one_kept (λ (q : Pid). get pid_cmp w.ended q) (node_in w.boot w.nodes.items c.args.m).kernel.over c.in-Some.pid c.in-Some.why (get pid_cmp c.insert.new.map p) p (sym over ∙ c.in-Some.is) (c.in_ok-insert.ensures.updates.0 p)

pub returns-in_default-clause-ended : goal.returns-in_default-clause-ended
unfolding ended_in
returns-in_default-clause-ended c = λ p.
    let w = c.args.self.now in
    let here : node_state c.index.result.now ≡ node_in w.boot w.nodes.items c.args.m =
    ap node_state c.index.ensures ∙ node_at w.boot w.nodes.items c.place_of.result c.args.m c.index.result.now c.place_of.ensures c.requires.within in
    let over : c.over.result ≡ (node_in w.boot w.nodes.items c.args.m).kernel.over = c.over.ensures ∙ ap (λ k. k.over) c.kernel.ensures ∙ ap (λ (n : NodeState). n.kernel.over) here in
    let none : c.over.result ≡ None = search rules in
    none_kept (λ (q : Pid). get pid_cmp w.ended q) (node_in w.boot w.nodes.items c.args.m).kernel.over p (sym over ∙ none)
