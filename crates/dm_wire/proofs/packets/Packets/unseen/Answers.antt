use Rattle.dm_wire.proofs.Names.{length, ap, sym, ◌∙◌, arith, position, packets_in, is_unseen}
use Rattle.dm_wire.proofs.Cursor.{none_unseen, unseen_here}
use Rattle.dm_wire.proofs.Bytes.{length_in}
use Rattle.dm_wire.proofs.packets.Packets.unseen.Goals as goal

pub returns-then-self-len-clause-first : goal.returns-then-self-len-clause-first
returns-then-self-len-clause-first c =
    let p = c.self.inside in
    let size = length_in p.bytes.items 0 p.ends.items p.marks.items c.self.invariant.each in
    sym (unseen_here (packets_in p.bytes.items 0 p.ends.items p.marks.items) p.first_unseen c.self.invariant.first (omega (arith, size, c.if-self-len.true, c.len.ensures, p.ends.ok.0)))
    ∙ ap (position is_unseen) c.self.view_is

pub returns-then-self-len-clause-short : goal.returns-then-self-len-clause-short
returns-then-self-len-clause-short c =
    let p = c.self.inside in
    let size = length_in p.bytes.items 0 p.ends.items p.marks.items c.self.invariant.each in
    omega (arith, size, ap length c.self.view_is, p.ends.ok.0, p.ends.ok.1, p.ends.small)

pub returns-else-self-len-clause-first : goal.returns-else-self-len-clause-first
returns-else-self-len-clause-first c =
    let p = c.self.inside in
    let size = length_in p.bytes.items 0 p.ends.items p.marks.items c.self.invariant.each in
    sym (none_unseen (packets_in p.bytes.items 0 p.ends.items p.marks.items) p.first_unseen c.self.invariant.first (omega (arith, size, c.if-self-len.false, c.len.ensures, p.ends.ok.0)))
    ∙ ap (position is_unseen) c.self.view_is

pub returns-else-self-len-clause-short : goal.returns-else-self-len-clause-short
returns-else-self-len-clause-short c =
    let p = c.self.inside in
    let size = length_in p.bytes.items 0 p.ends.items p.marks.items c.self.invariant.each in
    omega (arith, size, ap length c.self.view_is, p.ends.ok.0, p.ends.ok.1, p.ends.small)
