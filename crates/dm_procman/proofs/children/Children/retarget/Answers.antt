-- Children that are told keep their names.
use Rattle.dm_procman.proofs.Names.{◌≡◌, ◌∙◌, ◌++◌, length, take, drop, map, ap, sym, take-append_seam, length-map, Addr, retargeted, place_named}
use Rattle.dm_procman.proofs.Naming.{place-retargeted}
use Rattle.dm_procman.proofs.children.Children.retarget.Goals as goal

pub invariant_of-self : goal.invariant_of-self
invariant_of-self c = λ p.
    let old = c.self.inside.addresses.items in
    let new = c.retarget_children.new.children in
    let f : Addr → Addr = retargeted c.args.about c.args.at c.args.moves in
    let all : new ≡ map f old = c.retarget_children.ensures.children ∙ ap (map f) c.as_mut_slice.ensures.value in
    let many : c.self.inside.addresses.len ≡ length new = sym (ap length c.retarget_children.ensures.children ∙ length-map c.as_mut_slice.result.now f ∙ c.as_mut_slice.ensures.len) in
    let told : take c.self.inside.addresses.len (new ++ drop (length new) old) ≡ map f old =
    ap (λ n. take n (new ++ drop (length new) old)) many ∙ take-append_seam new (drop (length new) old) ∙ all
    in
    c.self.invariant p ∙ sym (place-retargeted p c.args.about c.args.at c.args.moves old) ∙ sym (ap (place_named p) told)
