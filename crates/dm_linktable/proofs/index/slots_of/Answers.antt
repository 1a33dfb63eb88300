use Rattle.dm_linktable.proofs.Names.{get_or, arith, sym, common_steps, Entry}
use Rattle.dm_linktable.proofs.Entries.{mask_at, mask_absent}
use Rattle.dm_linktable.proofs.ReceiverOrder.{absent_between}
use Rattle.dm_linktable.proofs.index.slots_of.Goals as goal

pub returns-in-Ok : goal.returns-in-Ok
returns-in-Ok c =
    let none : Entry = record { receiver = record { home = 0; num = 0 }; slots = 0 } in
    grind (arith, common_steps, mask_at c.args.entries.now c.requires c.in-Ok.place none, c.in-Ok.ensures.1 none)

pub returns-in-Err : goal.returns-in-Err
returns-in-Err c =
    sym (mask_absent c.args.entries.now c.args.receiver (λ k d lt. absent_between (get_or c.args.entries.now k d).receiver c.args.receiver c.in-Err.field-0 k (λ h. c.in-Err.ensures.1 k d h) (λ h. c.in-Err.ensures.2 k d h lt)))
