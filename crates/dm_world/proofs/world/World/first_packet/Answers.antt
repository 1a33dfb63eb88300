use Rattle.dm_world.specs.Cursor.{FirstIs}
use Rattle.dm_world.proofs.Names.{◌≡◌, ℕ, ◌+◌, ◌-◌, ◌<◌, ◌≤◌, length, subst, sym, ap, ◌∙◌, arith, Some, next_delivery, packets_on, pairs_at, world_state, world_undelivered}
use Rattle.dm_schedule.specs.declared.Step.TheVariants as step
use Rattle.dm_world.proofs.Passing.{first_unseen_is, pairs_past, pairs_row, rows_are_pairs, rows_from, rows_skip}
use Rattle.dm_world.proofs.world.World.first_packet.Goals as goal

pub returns-in-Some-clause-first : goal.returns-in-Some-clause-first
returns-in-Some-clause-first c =
    let w = c.args.self.now in
    let n = length w.boot.machines in
    let all = c.machines-machines.ensures.all in
    let test = c.loop-a-test.true in
    let a = c.loop-a.a in
    let small : a < n = omega (arith, all, test) in
    c.loop-a.invariant
    ∙ ap (next_delivery (world_undelivered (world_state w))) (pairs_row n a c.loop-a.to small)
    ∙ c.in-Some.ensures.first (rows_from n (a + 1))
    ∙ ap (λ ps. Some (step.Deliver a c.in-Some.b c.in-Some.k, ps)) (sym (pairs_row n a c.in-Some.b small))

-- nothing is pending from the machines that are left
pub returns-in_err-a-clause-first : goal.returns-in_err-a-clause-first
returns-in_err-a-clause-first c =
    let w = c.args.self.now in
    let n = length w.boot.machines in
    let all = c.machines-machines.ensures.all in
    let few = c.machines-machines.ensures.few in
    let test = c.loop-a-test.true in
    let a = c.loop-a.a in
    let small : a < n = omega (arith, all, test) in
    subst (FirstIs n (world_state w) (pairs_at n c.args.from c.args.to)) (sym c.from_residual.ensures)
    (c.loop-a.invariant
    ∙ ap (next_delivery (world_undelivered (world_state w))) (pairs_row n a c.loop-a.to small)
    ∙ c.in_default.ensures.first (rows_from n (a + 1))
    ∙ ap (next_delivery (world_undelivered (world_state w))) (rows_are_pairs n (a + 1))
    ∙ rows_skip n (world_state w) (a + 1) n (λ x b from below within. first_unseen_is (packets_on w.wires x b) ∙ c.in_err-a.ensures.none x b from (omega (arith, all, few, within)))
    ∙ ap (next_delivery (world_undelivered (world_state w))) (pairs_past n (a + 1 + n) 0 (omega arith)))

-- nor from those before the next that is looked at
pub loop-a-preserved : goal.loop-a-preserved
loop-a-preserved c =
    let w = c.args.self.now in
    let n = length w.boot.machines in
    let all = c.machines-machines.ensures.all in
    let test = c.loop-a-test.true in
    let a = c.loop-a.a in
    let small : a < n = omega (arith, all, test) in
    let next = c.in_ok-a.a in
    let after = c.in_ok-a.ensures.some.0 in
    let whole : a + 1 + (next - (a + 1)) ≡ next = omega (arith, after) in
    c.loop-a.invariant
    ∙ ap (next_delivery (world_undelivered (world_state w))) (pairs_row n a c.loop-a.to small)
    ∙ c.in_default.ensures.first (rows_from n (a + 1))
    ∙ ap (next_delivery (world_undelivered (world_state w))) (rows_are_pairs n (a + 1))
    ∙ rows_skip n (world_state w) (a + 1) (next - (a + 1))
    (λ x b from below within. first_unseen_is (packets_on w.wires x b) ∙ c.in_ok-a.ensures.some.2 x b from (omega (arith, after, below)))
    ∙ ap (λ (x : ℕ). next_delivery (world_undelivered (world_state w)) (pairs_at n x 0)) whole

pub returns-clause-first : goal.returns-clause-first
returns-clause-first c =
    let w = c.args.self.now in
    let n = length w.boot.machines in
    let all = c.machines-machines.ensures.all in
    let test = c.loop-a-test.false in
    let over : n ≤ c.loop-a.a = omega (arith, all, test) in
    c.loop-a.invariant ∙ ap (next_delivery (world_undelivered (world_state w))) (pairs_past n c.loop-a.a c.loop-a.to over)
