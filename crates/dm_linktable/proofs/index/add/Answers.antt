use Rattle.dm_linktable.proofs.Names.{◌≡◌, ◌∙◌, ◌<◌, ap, get_or, length, sym, arith, vec_capacity, vec_len, Entry, mask_of}
use Rattle.dm_linktable.proofs.Edits.{bits-insert, bits-set, index-insert, index-set, within_room}
use Rattle.dm_linktable.proofs.Entries.{mask_absent}
use Rattle.dm_linktable.proofs.ReceiverOrder.{absent_between}
use Rattle.dm_linktable.proofs.index.add.Goals as goal

pub returns-in-Ok-clause-index : goal.returns-in-Ok-clause-index
returns-in-Ok-clause-index c =
    let place = rw c.deref.ensures.value at c.in-Ok.ensures in
    let e : Entry = record { receiver = c.args.receiver; slots = c.with_slot-slots.result } in
    index-set c.args.entries.now.items c.requires.index c.in-Ok.place e place.0 (sym (place.1 e)) c.with_slot-slots.ensures.some (omega arith)

pub returns-in-Ok-clause-bits : goal.returns-in-Ok-clause-bits
returns-in-Ok-clause-bits c q t =
    let place = rw c.deref.ensures.value at c.in-Ok.ensures in
    let d : Entry = c.index.result.now in
    let bits = rw c.index.ensures at c.with_slot-slots.ensures.bits in
    let e : Entry = record { receiver = c.args.receiver; slots = c.with_slot-slots.result } in
    bits-set c.args.entries.now.items c.requires.index c.in-Ok.place c.args.slot 1 e.slots c.args.receiver q d t place.0 (place.1 d) bits

pub returns-in-Err-clause-index : goal.returns-in-Err-clause-index
returns-in-Err-clause-index c =
    let place = rw c.deref.ensures.value at c.in-Err.ensures in
    let e : Entry = record { receiver = c.args.receiver; slots = c.with_slot-slots-in-Err.result } in
    let here : length c.args.entries.now.items ≡ vec_len c.args.entries.now = sym (ap length c.deref.ensures.value) ∙ c.deref.ensures.len in
    let room : vec_len c.args.entries.now < vec_capacity c.args.entries.now = omega (arith, c.requires.room, here) in
    rw (within_room c.insert.result c.insert.new.self.items c.args.entries.now.items _ (c.insert.ensures.succeeds room) c.insert.ensures.items)
    (index-insert c.args.entries.now.items c.requires.index c.in-Err.place e place.0 c.with_slot-slots-in-Err.ensures.some (omega arith) place.1 place.2)

pub returns-in-Err-clause-bits : goal.returns-in-Err-clause-bits
returns-in-Err-clause-bits c q t =
    let place = rw c.deref.ensures.value at c.in-Err.ensures in
    let absent : mask_of c.args.entries.now.items c.args.receiver ≡ 0 =
    mask_absent c.args.entries.now.items c.args.receiver (λ k d lt. absent_between (get_or c.args.entries.now.items k d).receiver c.args.receiver c.in-Err.place k (λ h. place.1 k d h) (λ h. place.2 k d h lt)) in
    let here : length c.args.entries.now.items ≡ vec_len c.args.entries.now = sym (ap length c.deref.ensures.value) ∙ c.deref.ensures.len in
    let room : vec_len c.args.entries.now < vec_capacity c.args.entries.now = omega (arith, c.requires.room, here) in
    rw (within_room c.insert.result c.insert.new.self.items c.args.entries.now.items _ (c.insert.ensures.succeeds room) c.insert.ensures.items)
    (bits-insert c.args.entries.now.items c.in-Err.place c.args.slot c.with_slot-slots-in-Err.result c.args.receiver q t absent c.with_slot-slots-in-Err.ensures.bits)
