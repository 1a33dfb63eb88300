use Rattle.std.proofs.Common.{◌≡◌, subst, arith, length, ℕ}
use Rattle.dm_explore.specs.Asked.{bounds_said}
use Rattle.dm_explore.specs.Choices.{of_machine}
use Rattle.dm_explore.proofs.Offering.{ForAll, for_all_more, offered_none}
use Rattle.dm_explore.proofs.choices.offer_packets.Goals as goal

pub loop-a-init : goal.loop-a-init
loop-a-init c = offered_none c.args.world.now c.args.past.now c.args.offered.now.items

pub loop-a-preserved : goal.loop-a-preserved
loop-a-preserved c = for_all_more c.args.world.now c.args.past.now (λ n s ds. of_machine n (bounds_said c.args.bounds.now) s ds c.args.again) c.loop-a.a c.args.offered.now.items c.loop-a.offered.items _ c.loop-a.invariant c.in_ok-offer_from.ensures

pub returns : goal.returns
returns c =
    let end : c.loop-a.a ≡ length c.args.world.now.boot.machines = omega (arith, c.loop-a.auto.a-end, c.loop-a-test.false, c.machines-a-end.ensures.all) in
    subst (λ (k : ℕ). ForAll c.args.world.now c.args.past.now (λ n s ds. of_machine n (bounds_said c.args.bounds.now) s ds c.args.again) k c.args.offered.now.items c.loop-a.offered.items) end c.loop-a.invariant
