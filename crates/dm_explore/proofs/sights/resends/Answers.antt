use Rattle.std.proofs.Common.{sym, ap, ◌∙◌, ◌≡◌, ◌&&◌, subst, arith, length, not, nat_lt, true, ne_eqb, lt-ltb, ◌==◌}
use Rattle.std.proofs.lemmas.Bool.{and_from, not_from_false}
use Rattle.dm_message.specs.declared.Message.{Message}
use Rattle.dm_stream.specs.Sending.{Sending}
use Rattle.dm_node.specs.State.{NodeState}
use Rattle.dm_world.specs.Meets.{world_state}
use Rattle.dm_explore.specs.Sights.{is_out}
use Rattle.dm_explore.proofs.Below.{any_below_at}
use Rattle.dm_explore.proofs.sights.resends.Goals as goal

pub returns-then-out-gt0 : goal.returns-then-out-gt0
returns-then-out-gt0 c =
    let sender : c.sender.result.now ≡ ((world_state c.args.world.now).nodes c.args.m).senders c.loop-to.to = c.sender.ensures ∙ ap (λ (n : NodeState). n.senders c.loop-to.to) c.machine.ensures.state in
    let count = c.out.ensures.count in
    let out : nat_lt c.sender.result.now.acked c.sender.result.now.gone ≡ true = lt-ltb c.sender.result.now.acked c.sender.result.now.gone (omega arith) in
    sym (any_below_at (length c.args.world.now.boot.machines) (is_out (world_state c.args.world.now) c.args.m) c.loop-to.to (omega arith)
    (subst (λ (s : Sending Message). (not (c.args.m == c.loop-to.to) && nat_lt s.acked s.gone) ≡ true) sender (and_from (not (c.args.m == c.loop-to.to)) (nat_lt c.sender.result.now.acked c.sender.result.now.gone) (not_from_false (c.args.m == c.loop-to.to) (ne_eqb c.args.m c.loop-to.to c.if-m-to.true)) out)))
