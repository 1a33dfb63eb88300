use Rattle.dm_run.proofs.Names.{◌<◌, length, arith, subst, Bool, NoneLeft, world_state}
use Rattle.dm_world.specs.Cursor.{NextIs, found}
use Rattle.dm_run.proofs.Going.{turns_to}
use Rattle.dm_run.proofs.way.next_step.Goals as goal

pub begun-preserved : goal.begun-preserved
begun-preserved c =
    let w = world_state c.args.world.now in
    let n = length c.args.world.now.boot.machines in
    let within : c.begun.way.begun < length c.args.directives.now = omega (arith, c.if-way-directives.false) in
    let none : NoneLeft n w c.begun.way.cursor =
    λ rest. subst (λ (is : Bool). NextIs n w c.begun.way.cursor rest (found is c.next.new.step c.next.new.cursor)) c.if-next.false (c.next.ensures.next rest) in
    record {
      within = omega (arith, within);
      reached = λ es gs led. turns_to c.args.world.now.boot c.args.directives.now c.begun.way c.cursor_of-way.result es gs w _ within c.cursor_of-way.ensures none (c.begun.invariant.reached es gs led);
    }
