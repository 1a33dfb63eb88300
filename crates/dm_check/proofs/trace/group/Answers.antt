use Rattle.dm_check.proofs.Names.{rules, ◌≡◌, ◌∙◌, ap, sym, subst, true, false, ℕ, world_state, can_hold, StopsWorn}
use Rattle.dm_check.proofs.trace.group.Goals as goal

pub returns-then-not-can_hold-clause-none : goal.returns-then-not-can_hold-clause-none
returns-then-not-can_hold-clause-none c =
    let holds : c.can_hold.result ≡ false = search rules in
    ap (λ (n : ℕ). can_hold n c.args.step.now) c.requires.machines ∙ sym c.can_hold.ensures ∙ holds

pub returns-in-Err-Worn-clause-none : goal.returns-in-Err-Worn-clause-none
returns-in-Err-Worn-clause-none c =
    let holds : c.can_hold.result ≡ true = search rules in
    (ap (λ (n : ℕ). can_hold n c.args.step.now) c.requires.machines ∙ sym c.can_hold.ensures ∙ holds, subst (StopsWorn c.args.world.now.boot (world_state c.args.world.now) c.args.step.now) c.in-Err-Worn.field-0-is c.in-Err-Worn.ensures.worn)
