use Rattle.dm_world.proofs.Names.{◌+◌, refl, sym, subst, ℕ, Option, AreReadBack, MeetsSome, Says, asks_at, world_state}
use Rattle.dm_schedule.specs.declared.Step.TheVariants as step
use Rattle.dm_world.specs.Readable.{gave_at}
use Rattle.dm_world.proofs.world.World.say_away.Goals as goal

pub returns-clause-meets : goal.returns-clause-meets
returns-clause-meets c =
    let old = c.args.self.now in
    let now = record old { groups = old.groups + 1 } in
    let e = step.Migrate c.args.pid c.args.to in
    let h = c.requires.world in
    record {
      answers = subst (λ (q : Option ℕ). MeetsSome (world_state now) c.in_ok-lines.lines.items (asks_at (world_state old) e c.args.pid c.args.to q)) (sym c.requires.away)
          (record { happened = λ i. Says (record { state = world_state now; lines = c.in_ok-lines.ensures.items i }) });
      world = record { valid = h.valid; machines = h.machines; nodes = h.nodes };
      again = subst (λ (q : Option ℕ). AreReadBack (gave_at (world_state old) c.args.pid c.args.to q)) (sym c.requires.away) tt;
      whole = tt;
      boot = refl;
    }
