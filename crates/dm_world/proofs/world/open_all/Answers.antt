use Rattle.dm_world.proofs.Names.{◌≡◌, ◌++◌, ◌∷◌, ℕ, [], length, ◌+◌, ap, sym, subst, ◌∙◌, length-append, slice_get, Some, Node, here, node_opened, AreNodes, opened_here, node_state}
use Rattle.dm_world.proofs.Nodes.{are_pushed, opened_pushed}
use Rattle.dm_world.proofs.world.open_all.Goals as goal

pub loop-here-preserved : goal.loop-here-preserved
loop-here-preserved c =
    let b = c.args.boot.now in
    let old = c.loop-here.nodes.items in
    let x = c.in_ok-new.field-0 in
    let m = c.loop-here.here in
    let size = c.loop-here.invariant.size in
    let state = c.in_ok-new.ensures.state in
    let is = c.in_ok-push.ensures.items in
    let all : (k : ℕ) (n : Node) → slice_get (old ++ x ∷ []) k ≡ Some n → node_state n ≡ node_opened b k = opened_pushed b old x m size c.loop-here.invariant.opened state in
    record {
      size = ap length is ∙ length-append old (x ∷ []) ∙ ap (λ k. k + 1) size;
      nodes = subst AreNodes (sym is) (are_pushed old x m size c.loop-here.invariant.nodes (record { streams = c.in_ok-new.ensures.streams; here = ap here state ∙ opened_here b m }));
      opened = λ k n there. all k n (ap (λ xs. slice_get xs k) (sym is) ∙ there);
    }
