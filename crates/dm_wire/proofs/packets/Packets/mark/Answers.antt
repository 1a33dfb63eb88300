use Rattle.dm_wire.proofs.Names.{◌≡◌, ℕ, ◌<◌, ◌≤◌, Bool, true, false, List, length, get_or, ap, subst, ◌∙◌, arith, marked}
use Rattle.dm_wire.proofs.Bytes.{hold_marked, marked_in, length_in}
use Rattle.dm_wire.proofs.packets.Packets.mark.Goals as goal

pub index_mut-requires : goal.index_mut-requires
index_mut-requires c =
    let p = c.self.inside in
    omega (arith, c.requires, ap length c.self.view_is, length_in p.bytes.items 0 p.ends.items p.marks.items c.self.invariant.each, c.self.invariant.each, p.marks.ok.0)

pub first_unseen-self-inside-requires : goal.first_unseen-self-inside-requires
first_unseen-self-inside-requires c =
    let p = c.self.inside in
    omega (arith, c.self.invariant.first.within, length_in p.bytes.items 0 p.ends.items p.marks.items c.self.invariant.each, c.self.invariant.each, p.marks.ok.0, c.deref.ensures.len)

pub invariant_of-self : goal.invariant_of-self
invariant_of-self c =
    let p = c.self.inside in
    let found = c.first_unseen-self-inside in
    hold_marked p.bytes.items p.ends.items p.marks.items c.args.number p.first_unseen found.result c.self.invariant
    (subst (λ (marks : List Bool). found.result ≤ length marks) c.deref.ensures.value found.ensures.within)
    (subst (λ (marks : List Bool). (k : ℕ) → p.first_unseen ≤ k → k < found.result → get_or marks k false ≡ true) c.deref.ensures.value found.ensures.below)
    (subst (λ (marks : List Bool). get_or marks found.result false ≡ false) c.deref.ensures.value found.ensures.here)

pub returns : goal.returns
returns c =
    let p = c.self.inside in
    marked_in p.bytes.items 0 p.ends.items p.marks.items c.args.number ∙ ap (λ ps. marked ps c.args.number) c.self.view_is
