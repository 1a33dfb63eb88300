-- The place of a name is that of its first child.
use Rattle.dm_procman.proofs.Names.{◌≡◌, ◌∙◌, None, Some, ap, sym, child_named, place_named}
use Rattle.dm_procman.proofs.Naming.{named_at, not_named}
use Rattle.dm_procman.proofs.children.Children.named.Goals as goal

pub returns-in-Some : goal.returns-in-Some
returns-in-Some c =
    let there : place_named c.args.pid c.self.inside.addresses.items ≡ Some c.in-Some.place.now = sym (c.self.invariant c.args.pid) ∙ sym c.in-Some.ensures.value in
    c.at.ensures ∙ named_at c.args.pid c.args.self.now c.in-Some.place.now (ap (place_named c.args.pid) (sym c.self.view_is) ∙ there)

pub returns-in-None : goal.returns-in-None
returns-in-None c =
    let none : place_named c.args.pid c.self.inside.addresses.items ≡ None = sym (c.self.invariant c.args.pid) ∙ sym c.in-None.ensures.value in
    sym (not_named c.args.pid c.self.inside.addresses.items none) ∙ ap (child_named c.args.pid) c.self.view_is
