use Rattle.dm_statebytes.proofs.Names.{◌≡◌, ◌-◌, take, ap, ◌∙◌, arith, common_steps, err_from_is_err_and, read_slots}
use Rattle.dm_statebytes.proofs.Loops.{front_none, slot_empty, slot_held, slots_fail, slots_read}
use Rattle.dm_statebytes.proofs.reading.slots_at.Goals as goal
use Rattle.dm_statebytes.proofs.reading.slots_at.Goals.{then-left-eq1+in_ok-link, else-left-eq1}

pub loop-slot-init : goal.loop-slot-init
loop-slot-init c =
    let n : c.args.cap - 0 ≡ c.args.cap = omega arith in
    (front_none (read_slots (c.args.cap - 0) c.args.mask c.args.bytes.now) ∙ ap (λ k. read_slots k c.args.mask c.args.bytes.now) n, grind (arith, common_steps, c.requires.empty), λ s le. grind (arith, common_steps, c.requires.empty))

pub returns-in_err-link : goal.returns-in_err-link
returns-in_err-link c =
    let p = err_from_is_err_and c.from_residual.result c.from_residual.ensures.1 in
    let total = read_slots c.args.cap c.args.mask c.args.bytes.now in
    rw (p.1, p.2) (slots_fail (take c.loop-slot.slot c.loop-slot.table) c.args.cap c.loop-slot.slot c.loop-slot.left c.loop-slot.rest.now c.in_err-link.field-0.0 total c.loop-slot-test.true c.if-left-eq1.true c.in_err-link.ensures c.loop-slot.invariant.0)

pub loop-slot-preserved : goal.loop-slot-preserved
loop-slot-preserved c =
    let l = c.loop-slot in
    let total = read_slots c.args.cap c.args.mask c.args.bytes.now in
    elim c.if-left-eq1.branch [
      | then-left-eq1+in_ok-link w ↦
          rw (w.table-is, w.rest-is, w.place.ensures)
          (slot_held c.args.cap l.slot l.left l.table l.rest.now w.in_ok-link.link w.in_ok-link.after.now total c.loop-slot-test.true w.if-left-eq1.true w.in_ok-link.ensures l.invariant)
      | else-left-eq1 w ↦
          rw (w.table-is, w.rest-is)
          (slot_empty c.args.cap l.slot l.left l.table l.rest.now total c.loop-slot-test.true w.if-left-eq1.false l.invariant)
    ]

pub returns : goal.returns
returns c =
    let l = c.loop-slot in
    slots_read c.args.cap l.slot l.left l.table l.rest.now (read_slots c.args.cap c.args.mask c.args.bytes.now) (grind (arith, c.loop-slot-test.false)) l.invariant
