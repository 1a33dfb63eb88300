-- The last child is found where its name had no place.
use Rattle.dm_procman.proofs.Names.{◌≡◌, ◌∙◌, if◌then◌else◌, None, Some, [], ◌∷◌, ◌++◌, length, ap, sym, option_or, pid_eq, place_named}
use Rattle.dm_procman.proofs.Naming.{place-push}
use Rattle.dm_procman.proofs.children.Children.push.Goals as goal

pub invariant_of-self-2 : goal.invariant_of-self-2
invariant_of-self-2 c = λ p.
    let old = c.self.inside.addresses.items in
    let all : c.push_reserved.new.self.items ≡ old ++ c.args.child ∷ [] = c.push_reserved.ensures.items ∙ ap (λ l. l ++ c.args.child ∷ []) c.in_ok-reserve_for.ensures.items in
    let place : length c.as_slice-place.result.now ≡ length old = ap length (c.as_slice-place.ensures.value ∙ c.in_ok-reserve_for.ensures.items) in
    c.in_ok-set_place.ensures.ok p
    ∙ (λ i. option_or (c.self.invariant p i) (if pid_eq c.args.child.pid p then Some (place i) else None))
    ∙ sym (place-push p old c.args.child)
    ∙ sym (ap (place_named p) all)
