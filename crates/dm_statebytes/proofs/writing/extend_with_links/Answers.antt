use Rattle.dm_statebytes.proofs.Names.{◌≤◌, ◌<◌, ◌++◌, ◌∙◌, None, Some, length, take_all, ap, sym, subst, arith, append-nil, All, flat_map, spell_slot, FitsSlot}
use Rattle.dm_statebytes.proofs.Loops.{slot_written}
use Rattle.dm_statebytes.proofs.writing.extend_with_links.Goals as goal
use Rattle.dm_statebytes.proofs.writing.extend_with_links.Goals.{in-Some+in_ok-extend_with_link, in_default}

pub loop-slot-preserved : goal.loop-slot-preserved
loop-slot-preserved c =
    let table = c.args.table.now in
    let so_far = c.loop-slot.invariant in
    let within : c.loop-slot.slot < length table = omega (arith, c.loop-slot-test.true, c.cap-slot-end.ensures.cap) in
    elim c.match-get.branch [
      | in-Some+in_ok-extend_with_link w ↦
          rw w.out-is
          (slot_written table c.loop-slot.slot c.args.out.now.items c.loop-slot.out.items w.extend_with_link.new.out.items (Some w.in-Some.link.now) within (sym w.in-Some.ensures) w.in_ok-extend_with_link.ensures.fits so_far.0 so_far.1 w.in_ok-extend_with_link.ensures.ok)
      | in_default w ↦
          rw w.out-is
          (slot_written table c.loop-slot.slot c.args.out.now.items c.loop-slot.out.items c.loop-slot.out.items None within (sym w.in_default.ensures) tt so_far.0 so_far.1 (sym (append-nil c.loop-slot.out.items)))
    ]

pub returns-clause-ok : goal.returns-clause-ok
returns-clause-ok c =
    let table = c.args.table.now in
    let past : length table ≤ c.loop-slot.slot = omega (arith, c.loop-slot-test.false, c.cap-slot-end.ensures.cap) in
    c.loop-slot.invariant.0 ∙ ap (λ slots. c.args.out.now.items ++ flat_map spell_slot slots) (take_all c.loop-slot.slot table past)

pub returns-clause-fits : goal.returns-clause-fits
returns-clause-fits c =
    let table = c.args.table.now in
    let past : length table ≤ c.loop-slot.slot = omega (arith, c.loop-slot-test.false, c.cap-slot-end.ensures.cap) in
    subst (All FitsSlot) (take_all c.loop-slot.slot table past) c.loop-slot.invariant.1
