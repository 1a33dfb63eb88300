use Rattle.std.specs.Prelude.{replicate}
use Rattle.std.proofs.Common.{refl}
use Rattle.dm_replay.specs.declared.kernel.Kernel.{Kernel}
use Rattle.dm_replay.proofs.Empty.{IsEmpty, sound_empty, state_empty}
use Rattle.dm_replay.proofs.kernel.Kernel.empty.Goals as goal

pub returns-clause-state : goal.returns-clause-state
returns-clause-state c =
    let k : Kernel = record { alloc = c.args.alloc; processes = c.new.result; made = replicate 16 0; bag = c.new-2.result; notes = c.new-3.result; noted = c.new-4.result; board = c.new-5.result; manager = c.in_ok-new.field-0; labels = 0 } in
    let h : IsEmpty c.args.boot.now k =
    record { processes = c.new.ensures; made = refl; bag = c.new-2.ensures; notes = c.new-3.ensures.empty; noted = c.new-4.ensures; board = c.new-5.ensures; manager = c.in_ok-new.ensures.exact }
    in
    state_empty c.args.boot.now k h

pub returns-clause-sound : goal.returns-clause-sound
returns-clause-sound c =
    let k : Kernel = record { alloc = c.args.alloc; processes = c.new.result; made = replicate 16 0; bag = c.new-2.result; notes = c.new-3.result; noted = c.new-4.result; board = c.new-5.result; manager = c.in_ok-new.field-0; labels = 0 } in
    let h : IsEmpty c.args.boot.now k =
    record { processes = c.new.ensures; made = refl; bag = c.new-2.ensures; notes = c.new-3.ensures.empty; noted = c.new-4.ensures; board = c.new-5.ensures; manager = c.in_ok-new.ensures.exact }
    in
    sound_empty c.args.boot.now k c.requires.valid c.in_ok-new.ensures.lawful h
