use Rattle.std.proofs.Common.{◌≡◌, sym, ap, ◌∙◌, subst, arith, length, ◌+◌, List, ℕ}
use Rattle.dm_schedule.specs.declared.Step.{Step}
use Rattle.dm_schedule.specs.declared.Step.TheVariants as step
use Rattle.dm_explore.specs.Sights.{Sight}
use Rattle.dm_explore.proofs.Offering.{ForEach, for_each_no, for_each_yes, offered_none}
use Rattle.dm_explore.proofs.choices.offer_turns.Goals.{then-acts+in_ok-offer, else-acts}
use Rattle.dm_explore.proofs.choices.offer_turns.Goals as goal

pub loop-m-init : goal.loop-m-init
loop-m-init c = offered_none c.args.world.now c.args.past.now c.args.offered.now.items

pub loop-m-preserved : goal.loop-m-preserved
loop-m-preserved c = elim c.if-acts.branch [
  | then-acts+in_ok-offer w ↦ subst (λ (es : List Step). ForEach c.args.world.now c.args.past.now step.Turn (λ (s : Sight). s.acts) (c.loop-m.m + 1) c.args.offered.now.items es) (sym (ap (λ v. v.items) w.offered-is))
      (for_each_yes c.args.world.now c.args.past.now step.Turn (λ (s : Sight). s.acts) c.loop-m.m c.args.offered.now.items c.loop-m.offered.items w.offer.new.offered.items (sym c.acts.ensures ∙ w.if-acts.true) c.loop-m.invariant w.in_ok-offer.ensures)
  | else-acts w ↦ subst (λ (es : List Step). ForEach c.args.world.now c.args.past.now step.Turn (λ (s : Sight). s.acts) (c.loop-m.m + 1) c.args.offered.now.items es) (sym (ap (λ v. v.items) w.offered-is))
      (for_each_no c.args.world.now c.args.past.now step.Turn (λ (s : Sight). s.acts) c.loop-m.m c.args.offered.now.items c.loop-m.offered.items (sym c.acts.ensures ∙ w.if-acts.false) c.loop-m.invariant)
]

pub returns : goal.returns
returns c =
    let end : c.loop-m.m ≡ length c.args.world.now.boot.machines = omega (arith, c.loop-m.auto.m-end, c.loop-m-test.false, c.machines-m-end.ensures.all) in
    subst (λ (k : ℕ). ForEach c.args.world.now c.args.past.now step.Turn (λ (s : Sight). s.acts) k c.args.offered.now.items c.loop-m.offered.items) end c.loop-m.invariant
