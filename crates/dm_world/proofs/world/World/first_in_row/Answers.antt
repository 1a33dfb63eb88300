use Rattle.dm_world.specs.Cursor.{RowIs}
use Rattle.dm_world.proofs.Names.{subst, ◌<◌, ◌≤◌, ◌+◌, ◌-◌, length, sym, ap, ◌∙◌, arith, next_delivery, packets_on, row_at, world_state, world_undelivered, ℕ, ◌≡◌}
use Rattle.dm_world.proofs.Passing.{first_unseen_is, row_none, row_over, row_same, row_skip, row_some}
use Rattle.dm_world.proofs.world.World.first_in_row.Goals as goal
use Rattle.dm_world.proofs.world.World.first_in_row.Goals.{then-from-b+in_default, else-from-b}

-- no packet from the machine waits on the wires that are left
pub returns-in_err-first-clause-first : goal.returns-in_err-first-clause-first
returns-in_err-first-clause-first c rest =
    let w = c.args.self.now in
    let n = length w.boot.machines in
    subst (RowIs n (world_state w) c.args.from c.args.to rest) (sym c.from_residual.ensures)
    (row_skip n (world_state w) c.args.from c.args.to n rest (λ b from below. first_unseen_is (packets_on w.wires c.args.from b) ∙ c.in_err-first.ensures.none b from)
    ∙ ap (next_delivery (world_undelivered (world_state w))) (row_over n c.args.from (c.args.to + n) rest (omega arith)))

-- nor on those before the first that is looked at
pub loop-b-init : goal.loop-b-init
loop-b-init c rest =
    let w = c.args.self.now in
    let n = length w.boot.machines in
    let first = c.in_ok-first.first in
    let after = c.in_ok-first.ensures.some.0 in
    let whole : c.args.to + (first - c.args.to) ≡ first = omega (arith, after) in
    row_skip n (world_state w) c.args.from c.args.to (first - c.args.to) rest
    (λ b from below. first_unseen_is (packets_on w.wires c.args.from b) ∙ c.in_ok-first.ensures.some.1 b from (omega (arith, after, below)))
    ∙ ap (λ (b : ℕ). next_delivery (world_undelivered (world_state w)) (row_at n c.args.from b rest)) whole

pub returns-in-Some-clause-first : goal.returns-in-Some-clause-first
returns-in-Some-clause-first c rest =
    let w = c.args.self.now in
    let n = length w.boot.machines in
    let all = c.machines-b-end.ensures.all in
    let test = c.loop-b-test.true in
    let small : c.loop-b.b < n = omega (arith, all, test) in
    let found = first_unseen_is (packets_on w.wires c.args.from c.loop-b.b) ∙ sym c.unseen.ensures.first ∙ c.in-Some.is in
    c.loop-b.invariant rest ∙ row_some n (world_state w) c.args.from c.loop-b.b c.in-Some.k rest small c.if-from-b.true found

pub returns-in-Some-clause-fresh : goal.returns-in-Some-clause-fresh
returns-in-Some-clause-fresh c =
    let w = c.args.self.now in
    let n = length w.boot.machines in
    let all = c.machines-b-end.ensures.all in
    let test = c.loop-b-test.true in
    let small : c.loop-b.b < n = omega (arith, all, test) in
    record {
      from = c.requires.from;
      to = small;
      apart = c.if-from-b.true;
      first = first_unseen_is (packets_on w.wires c.args.from c.loop-b.b) ∙ sym c.unseen.ensures.first ∙ c.in-Some.is;
      short = c.unseen.ensures.short;
    }

pub loop-b-preserved : goal.loop-b-preserved
loop-b-preserved c rest =
    let w = c.args.self.now in
    let n = length w.boot.machines in
    let all = c.machines-b-end.ensures.all in
    let test = c.loop-b-test.true in
    let small : c.loop-b.b < n = omega (arith, all, test) in
    c.loop-b.invariant rest
    ∙ elim c.if-from-b.branch [
      | then-from-b+in_default v ↦
          row_none n (world_state w) c.args.from c.loop-b.b rest small v.if-from-b.true (first_unseen_is (packets_on w.wires c.args.from c.loop-b.b) ∙ sym v.unseen.ensures.first ∙ v.in_default.is)
      | else-from-b v ↦ ap (next_delivery (world_undelivered (world_state w))) (row_same n c.args.from c.loop-b.b rest small v.if-from-b.false)
    ]

pub returns-clause-first : goal.returns-clause-first
returns-clause-first c rest =
    let w = c.args.self.now in
    let n = length w.boot.machines in
    let all = c.machines-b-end.ensures.all in
    let test = c.loop-b-test.false in
    let over : n ≤ c.loop-b.b = omega (arith, all, test) in
    c.loop-b.invariant rest ∙ ap (next_delivery (world_undelivered (world_state w))) (row_over n c.args.from c.loop-b.b rest over)
