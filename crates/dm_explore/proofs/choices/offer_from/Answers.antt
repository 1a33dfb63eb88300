use Rattle.std.proofs.Common.{◌≡◌, ◌+◌, sym, ap, subst, arith, length, List, ℕ, eq-eqb, ne_eqb}
use Rattle.dm_schedule.specs.declared.Step.{Step}
use Rattle.dm_explore.specs.Asked.{bounds_said}
use Rattle.dm_explore.specs.Choices.{of_pair}
use Rattle.dm_explore.proofs.Offering.{ForOthers, for_others_no, for_others_yes, offered_none}
use Rattle.dm_explore.proofs.choices.offer_from.Goals.{then-a-b+in_ok-offer_pair, else-a-b}
use Rattle.dm_explore.proofs.choices.offer_from.Goals as goal

pub loop-b-init : goal.loop-b-init
loop-b-init c = offered_none c.args.world.now c.args.past.now c.args.offered.now.items

pub loop-b-preserved : goal.loop-b-preserved
loop-b-preserved c = elim c.if-a-b.branch [
  | then-a-b+in_ok-offer_pair w ↦ subst (λ (es : List Step). ForOthers c.args.world.now c.args.past.now (λ n s ds. of_pair (bounds_said c.args.bounds.now) s ds c.args.again c.args.a) c.args.a (c.loop-b.b + 1) c.args.offered.now.items es) (sym (ap (λ v. v.items) w.offered-is))
      (for_others_yes c.args.world.now c.args.past.now (λ n s ds. of_pair (bounds_said c.args.bounds.now) s ds c.args.again c.args.a) c.args.a c.loop-b.b c.args.offered.now.items c.loop-b.offered.items w.offer_pair.new.offered.items (ne_eqb c.args.a c.loop-b.b w.if-a-b.true) c.loop-b.invariant w.in_ok-offer_pair.ensures)
  | else-a-b w ↦ subst (λ (es : List Step). ForOthers c.args.world.now c.args.past.now (λ n s ds. of_pair (bounds_said c.args.bounds.now) s ds c.args.again c.args.a) c.args.a (c.loop-b.b + 1) c.args.offered.now.items es) (sym (ap (λ v. v.items) w.offered-is))
      (for_others_no c.args.world.now c.args.past.now (λ n s ds. of_pair (bounds_said c.args.bounds.now) s ds c.args.again c.args.a) c.args.a c.loop-b.b c.args.offered.now.items c.loop-b.offered.items (eq-eqb c.args.a c.loop-b.b w.if-a-b.false) c.loop-b.invariant)
]

pub returns : goal.returns
returns c =
    let end : c.loop-b.b ≡ length c.args.world.now.boot.machines = omega (arith, c.loop-b.auto.b-end, c.loop-b-test.false, c.machines-b-end.ensures.all) in
    subst (λ (k : ℕ). ForOthers c.args.world.now c.args.past.now (λ n s ds. of_pair (bounds_said c.args.bounds.now) s ds c.args.again c.args.a) c.args.a k c.args.offered.now.items c.loop-b.offered.items) end c.loop-b.invariant
