use Rattle.dm_wire.proofs.Names.{◌≡◌, ◌+◌, false, [], ◌∷◌, ◌++◌, length, ap, ap₂, sym, ◌∙◌, arith, packets_in, just_put}
use Rattle.dm_wire.proofs.Bytes.{hold_put, put_in, length_in}
use Rattle.dm_wire.proofs.packets.Packets.put.Goals as goal

pub invariant_of-self-2 : goal.invariant_of-self-2
invariant_of-self-2 c =
    let p = c.self.inside in
    let packet = c.args.bytes.now in
    let end : c.len.result ≡ length p.bytes.items + length packet = omega (arith, c.len.ensures, c.in_ok-extend_from_slice.ensures.len, c.in_ok-room_for-3.ensures.len, p.bytes.ok.0) in
    let bytes = c.in_ok-extend_from_slice.ensures.items ∙ ap (λ bs. bs ++ packet) c.in_ok-room_for-3.ensures.items in
    let ends = c.push_reserved.ensures.items ∙ ap₂ (λ places place. places ++ place ∷ []) c.in_ok-room_for.ensures.items end in
    let marks = c.push_reserved-2.ensures.items ∙ ap (λ ms. ms ++ false ∷ []) c.in_ok-room_for-2.ensures.items in
    rw (bytes, ends, marks) (hold_put p.bytes.items packet p.ends.items p.marks.items p.first_unseen c.self.invariant)

pub returns-clause-ok : goal.returns-clause-ok
returns-clause-ok c =
    let p = c.self.inside in
    let packet = c.args.bytes.now in
    let end : c.len.result ≡ length p.bytes.items + length packet = omega (arith, c.len.ensures, c.in_ok-extend_from_slice.ensures.len, c.in_ok-room_for-3.ensures.len, p.bytes.ok.0) in
    let bytes = c.in_ok-extend_from_slice.ensures.items ∙ ap (λ bs. bs ++ packet) c.in_ok-room_for-3.ensures.items in
    let ends = c.push_reserved.ensures.items ∙ ap₂ (λ places place. places ++ place ∷ []) c.in_ok-room_for.ensures.items end in
    let marks = c.push_reserved-2.ensures.items ∙ ap (λ ms. ms ++ false ∷ []) c.in_ok-room_for-2.ensures.items in
    (λ i. packets_in (bytes i) 0 (ends i) (marks i))
    ∙ put_in p.bytes.items packet 0 p.ends.items p.marks.items c.self.invariant.each c.self.invariant.ascend
    ∙ ap (λ ps. ps ++ just_put packet ∷ []) c.self.view_is

pub returns-clause-number : goal.returns-clause-number
returns-clause-number c =
    let p = c.self.inside in
    c.len-number.ensures ∙ p.ends.ok.0 ∙ sym (length_in p.bytes.items 0 p.ends.items p.marks.items c.self.invariant.each) ∙ ap length c.self.view_is
