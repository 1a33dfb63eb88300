use Rattle.dm_linktable.proofs.Names.{◌≡◌, ◌<◌, get_or, sym, arith, Entry, mask_of}
use Rattle.dm_linktable.proofs.Edits.{bits-remove, bits-set, bits_same, index-remove, index-set}
use Rattle.dm_linktable.proofs.Entries.{mask_absent}
use Rattle.dm_linktable.proofs.ReceiverOrder.{absent_between}
use Rattle.dm_linktable.proofs.index.remove.Goals as goal

pub returns-then-slots-eq0-clause-index : goal.returns-then-slots-eq0-clause-index
returns-then-slots-eq0-clause-index c =
    let place = rw c.deref.ensures.value at c.in-Ok.ensures in
    rw c.remove.ensures.items (index-remove c.args.entries.now.items c.requires.index c.in-Ok.place place.0)

pub returns-then-slots-eq0-clause-bits : goal.returns-then-slots-eq0-clause-bits
returns-then-slots-eq0-clause-bits c q t =
    let place = rw c.deref.ensures.value at c.in-Ok.ensures in
    let d : Entry = c.index.result.now in
    let bits = rw c.index.ensures at c.without_slot-slots.ensures.bits in
    rw c.remove.ensures.items
    (bits-remove c.args.entries.now.items c.requires.index c.in-Ok.place c.args.slot c.without_slot-slots.result c.args.receiver q d t place.0 (place.1 d) c.if-slots-eq0.true bits)

pub returns-else-slots-eq0-clause-index : goal.returns-else-slots-eq0-clause-index
returns-else-slots-eq0-clause-index c =
    let place = rw c.deref.ensures.value at c.in-Ok.ensures in
    let e : Entry = record { receiver = c.args.receiver; slots = c.without_slot-slots.result } in
    let some : 0 < e.slots = grind (arith, c.if-slots-eq0.false) in
    index-set c.args.entries.now.items c.requires.index c.in-Ok.place e place.0 (sym (place.1 e)) some (omega arith)

pub returns-else-slots-eq0-clause-bits : goal.returns-else-slots-eq0-clause-bits
returns-else-slots-eq0-clause-bits c q t =
    let place = rw c.deref.ensures.value at c.in-Ok.ensures in
    let d : Entry = c.index.result.now in
    let bits = rw c.index.ensures at c.without_slot-slots.ensures.bits in
    let e : Entry = record { receiver = c.args.receiver; slots = c.without_slot-slots.result } in
    bits-set c.args.entries.now.items c.requires.index c.in-Ok.place c.args.slot 0 e.slots c.args.receiver q d t place.0 (place.1 d) bits

pub returns-in-Err-clause-bits : goal.returns-in-Err-clause-bits
returns-in-Err-clause-bits c q t =
    let place = rw c.deref.ensures.value at c.in-Err.ensures in
    let absent : mask_of c.args.entries.now.items c.args.receiver ≡ 0 =
    mask_absent c.args.entries.now.items c.args.receiver (λ k d lt. absent_between (get_or c.args.entries.now.items k d).receiver c.args.receiver c.in-Err.field-0 k (λ h. place.1 k d h) (λ h. place.2 k d h lt)) in
    bits_same c.args.entries.now.items c.args.slot c.args.receiver q t absent
