use Rattle.dm_switchboard.proofs.Imports.{◌≡◌, [], arith, listed}
use Rattle.std.proofs.Common.{◌-◌}
use Rattle.dm_packet.proofs.Names.{err_from_is_err_and}
use Rattle.dm_switchboard.specs.Packed.{read_names}
use Rattle.dm_switchboard.proofs.Loops.{all_read, begins, none_more, one_more}
use Rattle.dm_switchboard.proofs.reading.name_run_at.Goals as goal

pub loop-init : goal.loop-init
loop-init c = begins c.new-names.result.entries c.args.count c.args.bytes.now c.new-names.ensures.empty

pub loop-preserved : goal.loop-preserved
loop-preserved c =
    let l = c.loop in
    one_more (listed l.names.entries) (listed c.add_name.new.names.entries) c.args.count l.counter l.rest.now c.in_ok-after.after.now (read_names c.args.count [] c.args.bytes.now) c.loop-test.true c.in_ok-after.ensures l.invariant

pub returns-in_err-after : goal.returns-in_err-after
returns-in_err-after c =
    let l = c.loop in
    let p = err_from_is_err_and c.from_residual.result c.from_residual.ensures.1 in
    rw (p.1, p.2) (none_more c.from_residual.result (λ m. listed m.entries) c.in_err-after.field-0.0 (listed l.names.entries) (listed c.add_name.new.names.entries) c.args.count l.counter l.rest.now (read_names c.args.count [] c.args.bytes.now) c.loop-test.true c.in_err-after.ensures l.invariant)

pub returns : goal.returns
returns c =
    let l = c.loop in
    let none : c.args.count - l.counter ≡ 0 = omega (arith, c.loop-test.false) in
    all_read (listed l.names.entries) (c.args.count - l.counter) l.rest.now (read_names c.args.count [] c.args.bytes.now) none l.invariant
