use Rattle.dm_world.proofs.Names.{◌≡◌, length, arith, ◌++◌, ap, ◌∙◌, NodeState, list_line, names_of, world_state}
use Rattle.dm_world.proofs.Ending.{all_said, said_more}
use Rattle.dm_line.specs.declared.end_line.EndLine.TheVariants as end
use Rattle.dm_world.proofs.world.World.say_inboxes.Goals as goal

pub loop-m-preserved : goal.loop-m-preserved
loop-m-preserved c =
    let m = c.loop-m.m in
    said_more (λ k. list_line (end.Inbox k) (names_of ((world_state c.args.self.now).nodes k).kernel.inbox)) m _ _ _ c.loop-m.invariant
    (c.in_ok-say_inbox.ensures ∙ ap (λ (s : NodeState). c.loop-m.lines.items ++ list_line (end.Inbox m) (names_of s.kernel.inbox)) c.machine.ensures.state)

pub returns : goal.returns
returns c =
    let machines = length c.args.self.now.boot.machines in
    let done : c.loop-m.m ≡ machines = omega (arith, c.loop-m.auto.m-end, c.loop-m-test.false, c.machines-m-end.ensures.all) in
    all_said (λ k. list_line (end.Inbox k) (names_of ((world_state c.args.self.now).nodes k).kernel.inbox)) c.loop-m.m machines _ _ done c.loop-m.invariant
