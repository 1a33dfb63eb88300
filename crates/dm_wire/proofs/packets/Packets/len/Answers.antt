use Rattle.dm_wire.proofs.Names.{length, ap, sym, ◌∙◌}
use Rattle.dm_wire.proofs.Bytes.{length_in}
use Rattle.dm_wire.proofs.packets.Packets.len.Goals as goal

pub returns : goal.returns
returns c =
    let p = c.self.inside in
    c.len.ensures ∙ p.ends.ok.0 ∙ sym (length_in p.bytes.items 0 p.ends.items p.marks.items c.self.invariant.each) ∙ ap length c.self.view_is
