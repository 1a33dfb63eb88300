use Rattle.dm_world.proofs.Names.{◌+◌, refl, sym, subst, AreReadBack, MeetsSome, Says, delivers, gave_bytes, world_state}
use Rattle.dm_schedule.specs.declared.Step.TheVariants as step
use Rattle.dm_world.proofs.world.World.find_nothing.Goals as goal

pub returns-clause-meets : goal.returns-clause-meets
returns-clause-meets c =
    let old = c.args.self.now in
    let now = record old { groups = old.groups + 1 } in
    let e = step.Deliver c.args.a c.args.b c.args.k in
    let h = c.requires.world in
    record {
      answers = subst (λ o. MeetsSome (world_state now) c.in_ok-lines.lines.items (delivers (world_state old) e c.args.a c.args.b c.args.k o)) (sym c.requires.none)
          (record { happened = λ i. Says (record { state = world_state now; lines = c.in_ok-lines.ensures.items i }) });
      world = record { valid = h.valid; machines = h.machines; nodes = h.nodes };
      again = subst (λ o. AreReadBack (gave_bytes (world_state old) c.args.a c.args.b o)) (sym c.requires.none) tt;
      whole = tt;
      boot = refl;
    }
