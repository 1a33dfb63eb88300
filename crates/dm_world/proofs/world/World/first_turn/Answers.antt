use Rattle.dm_world.proofs.Names.{◌+◌, length, sym, ◌∙◌, arith, world_state, world_seen}
use Rattle.dm_world.proofs.Passes.{none_left, passes_over, stays_on, takes_next}
use Rattle.dm_world.proofs.world.World.first_turn.Goals as goal

pub returns-then-takes_turn-clause-first : goal.returns-then-takes_turn-clause-first
returns-then-takes_turn-clause-first c t =
    let w = c.args.self.now in
    let n = length w.boot.machines in
    let all = c.machines-k-end.ensures.all in
    let test = c.loop-k-test.true in
    c.loop-k.invariant.0 t ∙ takes_next n (world_state w) c.args.pass c.loop-k.k (omega (arith, all, test)) (sym c.takes_turn.ensures ∙ c.if-takes_turn.true) t

pub loop-k-preserved : goal.loop-k-preserved
loop-k-preserved c =
    let w = c.args.self.now in
    let n = length w.boot.machines in
    let all = c.machines-k-end.ensures.all in
    let test = c.loop-k-test.true in
    let takes = sym c.takes_turn.ensures ∙ c.if-takes_turn.false in (
      λ t. c.loop-k.invariant.0 t ∙ passes_over n (world_state w) c.args.pass c.loop-k.k t (omega (arith, all, test)) takes,
      stays_on c.args.pass (world_seen n (world_state w)) c.args.m c.loop-k.k (c.loop-k.k + 1) takes,
    )

pub returns-clause-first : goal.returns-clause-first
returns-clause-first c t =
    let w = c.args.self.now in
    let n = length w.boot.machines in
    let all = c.machines-k-end.ensures.all in
    let test = c.loop-k-test.false in
    c.loop-k.invariant.0 t ∙ none_left n (world_state w) c.args.pass c.loop-k.k (omega (arith, all, test)) t
