use Rattle.dm_wire.proofs.Names.{Some, get_or, slice_range, ap, ap₂, sym, ◌∙◌, arith, beginning, bytes_at}
use Rattle.dm_wire.proofs.Bytes.{bytes_in, bytes_past}
use Rattle.dm_wire.proofs.packets.Packets.bytes.Goals as goal

pub returns-then-number-len : goal.returns-then-number-len
returns-then-number-len c =
    let p = c.self.inside in
    let k = c.args.number in
    ap Some
    (c.bytes_of.ensures
    ∙ ap₂ (λ bytes ends. slice_range bytes (beginning 0 ends k) (get_or ends k 0)) c.deref.ensures.value c.deref-then-number-len.ensures.value)
    ∙ sym (bytes_in p.bytes.items 0 p.ends.items p.marks.items k c.self.invariant.each (omega (arith, c.if-number-len.true, c.len.ensures, p.ends.ok.0)))
    ∙ ap (λ ps. bytes_at ps k) c.self.view_is

pub returns-else-number-len : goal.returns-else-number-len
returns-else-number-len c =
    let p = c.self.inside in
    let k = c.args.number in
    sym (bytes_past p.bytes.items 0 p.ends.items p.marks.items k (omega (arith, c.if-number-len.false, c.len.ensures, p.ends.ok.0)))
    ∙ ap (λ ps. bytes_at ps k) c.self.view_is
