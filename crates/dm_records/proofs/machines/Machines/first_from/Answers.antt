use Rattle.std.proofs.lemmas.Bool.Decides.{nat_tests}
use Rattle.std.specs.Prelude.{◌/◌}
use Rattle.dm_records.proofs.Names.{◌≡◌, ◌<◌, ◌≤◌, ◌^◌, arith}
use Rattle.dm_records.proofs.Sets.{first_ahead, none_above, none_ahead}
use Rattle.dm_records.proofs.machines.Machines.first_from.Goals as goal

pub returns-then-machine-ge-MACHINES-clause-none : goal.returns-then-machine-ge-MACHINES-clause-none
returns-then-machine-ge-MACHINES-clause-none c =
    let past : 16 ≤ c.args.machine = grind (arith, nat_tests, c.if-machine-ge-MACHINES.true) in
    let fits : c.args.self.bits < 2 ^ 16 = grind (arith, c.well_formed) in
    none_above c.args.self c.args.machine fits past

pub returns-then-ahead-eq0-clause-none : goal.returns-then-ahead-eq0-clause-none
returns-then-ahead-eq0-clause-none c =
    let none : c.args.self.bits / 2 ^ c.args.machine ≡ 0 = grind (arith, nat_tests, c.if-ahead-eq0.true) in
    none_ahead c.args.self c.args.machine none

pub returns-else-ahead-eq0-clause-some : goal.returns-else-ahead-eq0-clause-some
returns-else-ahead-eq0-clause-some c =
    let some : 0 < c.args.self.bits / 2 ^ c.args.machine = grind (arith, nat_tests, c.if-ahead-eq0.false) in
    let fits : c.args.self.bits < 2 ^ 16 = grind (arith, c.well_formed) in
    first_ahead c.args.self c.args.machine fits some
