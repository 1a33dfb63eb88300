use Rattle.dm_records.proofs.Names.{◌≡◌, ◌∙◌, ap, arith, filter, has, length, range_with_len, ℕ}
use Rattle.dm_records.specs.Machines.{machines_with}
use Rattle.dm_records.proofs.Sets.{counted}
use Rattle.dm_records.proofs.machines.Machines.count.Goals as goal

pub loop-machine-preserved : goal.loop-machine-preserved
loop-machine-preserved c = grind (arith, counted (has c.args.self) 0 c.loop-machine.machine)

pub returns : goal.returns
unfolding machines_with
returns c =
    let all : c.loop-machine.machine ≡ 16 = omega arith in
    c.loop-machine.invariant.count ∙ ap (λ (n : ℕ). length (filter (has c.args.self) (range_with_len 0 n))) all
