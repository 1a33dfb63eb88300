use Rattle.dm_world.proofs.Names.{◌<◌, ◌+◌, ◌++◌, None, Some, drop, length, sym, ap, ◌∙◌, arith, append-nil, Vec, Global, EndLine, link_lines}
use Rattle.dm_world.proofs.Ending.{slot_more}
use Rattle.dm_world.proofs.end_process.say_links.Goals.{in-Some+in_ok-push, in_default}
use Rattle.dm_world.proofs.end_process.say_links.Goals as goal

pub loop-slot-preserved : goal.loop-slot-preserved
loop-slot-preserved c =
    let table = c.args.table.now in
    let k = c.loop-slot.slot in
    let ls = c.loop-slot.lines.items in
    let rest = link_lines c.args.pid (k + 1) (drop (k + 1) table) in
    let whole = c.args.lines.now.items ++ link_lines c.args.pid 0 table in
    let within : k < length table = omega (arith, c.loop-slot-test.true, c.cap-slot-end.ensures.cap) in
    elim c.match-get.branch [
      | in-Some+in_ok-push w ↦
          ap (λ (v : Vec EndLine Global). v.items ++ rest) w.lines-is
          ∙ ap (λ x. x ++ rest) w.in_ok-push.ensures.items
          ∙ slot_more c.args.pid table k (Some w.in-Some.link.now) ls whole within (sym w.in-Some.ensures) c.loop-slot.invariant
      | in_default w ↦
          ap (λ (v : Vec EndLine Global). v.items ++ rest) w.lines-is
          ∙ ap (λ x. x ++ rest) (sym (append-nil ls))
          ∙ slot_more c.args.pid table k None ls whole within (sym w.in_default.ensures) c.loop-slot.invariant
    ]
