use Rattle.dm_world.proofs.Names.{length, sym, subst, Cursor, One, Falls, world_state}
use Rattle.dm_world.proofs.Falling.{one_falls}
use Rattle.dm_world.proofs.world.World.next.Goals as goal

pub returns-in-One-clause-falls : goal.returns-in-One-clause-falls
returns-in-One-clause-falls c =
    let w = c.args.self.now in
    let n = length w.boot.machines in
    let P : Cursor → Type 0 = λ d. Falls n (world_state w) d c.in-One.one c.behind.result in
    let Q : Cursor → Type 0 = λ d. Falls n (world_state w) (One c.in-One.one) c.in-One.one d in
    λ _. subst P (sym c.in-One.is) (subst Q (sym c.behind.ensures) (one_falls n (world_state w) c.in-One.one))
