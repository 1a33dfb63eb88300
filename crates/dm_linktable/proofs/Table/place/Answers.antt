use Rattle.dm_linktable.proofs.Names.{◌≡◌, ◌<◌, None, Some, length, sym, subst, arith, common_steps, List, Option, Link, link_at}
use Rattle.dm_linktable.proofs.Room.{room}
use Rattle.dm_linktable.proofs.Tables.{table_put}
use Rattle.dm_linktable.proofs.Table.place.Goals as goal

pub add-requires-clause-room : goal.add-requires-clause-room
add-requires-clause-room c =
    let slots = c.self.inside.slots.items in
    let within = subst (λ (s : List (Option Link)). c.args.slot < length s) (sym c.self.view_is) c.requires.within in
    let empty = subst (λ (s : List (Option Link)). link_at s c.args.slot ≡ None) (sym c.self.view_is) c.requires.empty in
    let some = room c.self.inside.index.items c.self.invariant.0.index slots c.self.invariant.0.agrees c.args.slot within empty in
    omega (arith, some, c.self.invariant.1)

pub invariant_of-self : goal.invariant_of-self
invariant_of-self c =
    let slots = c.self.inside.slots.items in
    let within = subst (λ (s : List (Option Link)). c.args.slot < length s) (sym c.self.view_is) c.requires.within in
    let empty = subst (λ (s : List (Option Link)). link_at s c.args.slot ≡ None) (sym c.self.view_is) c.requires.empty in
    (table_put c.self.inside.index.items c.add.new.entries.items slots c.self.invariant.0 c.args.slot c.args.link within empty c.add.ensures.index c.add.ensures.bits, grind (arith, common_steps, c.self.invariant.1, c.add.ensures.capacity))
