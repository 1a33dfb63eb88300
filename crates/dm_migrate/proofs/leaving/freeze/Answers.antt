use Rattle.dm_migrate.proofs.Frozen.{state_some}
use Rattle.dm_migrate.proofs.leaving.freeze.Goals as goal

pub invariant_of-leaving : goal.invariant_of-leaving
invariant_of-leaving c = (
  record { lawful = c.requires.lawful; moves = c.requires.moves; again = c.in-Ok.ensures.again; some = state_some c.args.resident c.requires.lawful; most = c.requires.size },
  c.in-Ok.ensures.ok,
)

pub returns-clause-can_move : goal.returns-clause-can_move
returns-clause-can_move c =
    record { lawful = c.requires.lawful; moves = c.requires.moves; again = c.in-Ok.ensures.again; some = state_some c.args.resident c.requires.lawful; most = c.requires.size }
