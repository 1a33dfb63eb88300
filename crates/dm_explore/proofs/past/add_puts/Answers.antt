use Rattle.std.proofs.Common.{ap, ◌∙◌}
use Rattle.dm_explore.proofs.Notes.{line_other, line_put}
use Rattle.dm_explore.proofs.past.add_puts.Goals.{in-Packet+in_ok-push, in_default}
use Rattle.dm_explore.proofs.past.add_puts.Goals as goal

pub loop-line-preserved : goal.loop-line-preserved
loop-line-preserved c = elim c.match-line.branch [
  | in-Packet+in_ok-push w ↦ line_put c.args.lines.now c.loop-line.line-index _ w.in-Packet.from w.in-Packet.to w.in-Packet.k w.in-Packet.load w.acknowledges-acks.result c.args.puts.now.items c.loop-line.puts.items c.match-line.puts.items
      c.loop-line-test.true w.in-Packet.is w.acknowledges-acks.ensures c.loop-line.invariant (ap (λ v. v.items) w.puts-is ∙ w.in_ok-push.ensures.items)
  | in_default w ↦ line_other c.args.lines.now c.loop-line.line-index _ c.args.puts.now.items c.loop-line.puts.items c.match-line.puts.items c.loop-line-test.true w.in_default.not-Packet c.loop-line.invariant (ap (λ v. v.items) w.puts-is)
]
