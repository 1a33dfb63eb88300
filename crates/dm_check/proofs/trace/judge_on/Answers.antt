use Rattle.dm_check.proofs.Names.{◌≡◌, ◌++◌, ◌<◌, ◌≤◌, ◌+◌, ◌∙◌, ℕ, List, length, ap, sym, subst, arith, true, Boot, Line, pieces, world_state, HasChecked, JudgedBy, text_of_lines, first_line, head_of_line, can_hold, good_verdict, World, Vec, Global, IsRunning}
use Rattle.std.specs.declared.option.Option.TheVariants.{Some}
use Rattle.dm_check.proofs.Checks.{checks_good, checks_less, checks_more, checks_refused, checks_stop, some_lines}
use Rattle.dm_check.proofs.Following.{shorter_lines}
use Rattle.dm_check.proofs.Judging.{if_err}
use Rattle.dm_check.proofs.trace.judge_on.Goals as goal

-- the memory of the lines is no part of what a world stands for
still : (w : World) (lines : Vec Line Global) → IsRunning w → IsRunning (record w { lines = lines })
still w lines h = record { world = record { valid = h.world.valid; machines = h.world.machines; nodes = h.world.nodes }; going = h.going; steps = h.steps; groups = h.groups; went = h.went }

pub returns-in-Err-clause-refused : goal.returns-in-Err-clause-refused
returns-in-Err-clause-refused c =
    let head : head_of_line (first_line (pieces 10 c.groups.rest.now)) ≡ Some c.in-Some.step = sym c.first_head.ensures ∙ c.in-Some.is in
    checks_stop c.args.world.now.boot c.groups.world.boot c.args.trace.now c.groups.rest.now c.groups.number c.groups.groups (world_state c.groups.world) c.in-Some.step c.in-Err.none c.refuse_head.result c.groups.invariant.boot c.groups.invariant.checked head
    c.in-Err.ensures.none c.refuse_head.ensures

pub returns-in-Ok-None-clause-refused : goal.returns-in-Ok-None-clause-refused
returns-in-Ok-None-clause-refused c =
    let b = c.args.world.now.boot in
    let head : head_of_line (first_line (pieces 10 c.groups.rest.now)) ≡ Some c.in-Some.step = sym c.first_head.ensures ∙ c.in-Some.is in
    let machines : length c.groups.world.boot.machines ≡ c.args.machines = ap (λ (d : Boot). length d.machines) c.groups.invariant.boot ∙ c.requires.machines in
    let held : can_hold (length c.groups.world.boot.machines) c.in-Some.step ≡ true = ap (λ (n : ℕ). can_hold n c.in-Some.step) machines ∙ c.in-Ok.ensures.held in
    checks_less b c.groups.world.boot c.args.quantum c.args.trace.now c.groups.rest.now c.groups.number c.groups.groups (world_state c.groups.world) (world_state c.group.new.world) c.in-Some.step c.in-Ok.lines.items c.as_slice-due.result.now c.refuse_stray.result
    c.groups.invariant.boot c.requires.quantum c.as_slice-due.ensures.value c.groups.invariant.checked head held c.in-Ok.ensures.does c.in-Ok.ensures.fits c.refuse_stray.ensures

pub groups-smaller : goal.groups-smaller
groups-smaller c =
    let read : c.groups.rest.now ≡ text_of_lines c.as_slice-due.result.now ++ c.in-Ok-Some.others.now = rw c.in-Ok-Some.field-0-is at c.in-Ok-Some.ensures.some in
    let some : 0 < length c.in-Ok.lines.items =
    some_lines c.groups.world.boot (world_state c.groups.world) (world_state c.group.new.world) c.in-Some.step c.in-Ok.lines.items c.in-Ok.ensures.does in
    let size : length c.as_slice-due.result.now ≡ length c.in-Ok.lines.items = ap (λ (ls : List Line). length ls) c.as_slice-due.ensures.value in
    let less : length c.as_slice-due.result.now + length c.in-Ok-Some.others.now ≤ length c.groups.rest.now = shorter_lines c.as_slice-due.result.now c.groups.rest.now c.in-Ok-Some.others.now read in
    omega (arith, some, size, less)

pub groups-preserved : goal.groups-preserved
groups-preserved c =
    let b = c.args.world.now.boot in
    let read : c.groups.rest.now ≡ text_of_lines c.as_slice-due.result.now ++ c.in-Ok-Some.others.now = rw c.in-Ok-Some.field-0-is at c.in-Ok-Some.ensures.some in
    let head : head_of_line (first_line (pieces 10 c.groups.rest.now)) ≡ Some c.in-Some.step = sym c.first_head.ensures ∙ c.in-Some.is in
    let machines : length c.groups.world.boot.machines ≡ c.args.machines = ap (λ (d : Boot). length d.machines) c.groups.invariant.boot ∙ c.requires.machines in
    let held : can_hold (length c.groups.world.boot.machines) c.in-Some.step ≡ true = ap (λ (n : ℕ). can_hold n c.in-Some.step) machines ∙ c.in-Ok.ensures.held in
    let some : 0 < length c.in-Ok.lines.items =
    some_lines c.groups.world.boot (world_state c.groups.world) (world_state c.group.new.world) c.in-Some.step c.in-Ok.lines.items c.in-Ok.ensures.does in
    let slice : length c.as_slice-due.result.now ≡ length c.in-Ok.lines.items = ap (λ (ls : List Line). length ls) c.as_slice-due.ensures.value in
    let less : length c.as_slice-due.result.now + length c.in-Ok-Some.others.now ≤ length c.groups.rest.now = shorter_lines c.as_slice-due.result.now c.groups.rest.now c.in-Ok-Some.others.now read in
    let size : length c.in-Ok.lines.items ≡ c.len.result = omega (arith, c.len.ensures, c.in-Ok.lines.ok.0) in
    let more = checks_more b c.groups.world.boot c.args.trace.now c.groups.rest.now c.in-Ok-Some.others.now c.groups.number c.groups.groups (world_state c.groups.world) (world_state c.group.new.world) c.in-Some.step c.in-Ok.lines.items c.as_slice-due.result.now
    c.groups.invariant.boot c.as_slice-due.ensures.value c.groups.invariant.checked head held c.in-Ok.ensures.does c.in-Ok.ensures.fits read in
    let checked = subst (λ (n : ℕ). HasChecked b c.args.trace.now c.in-Ok-Some.others.now (c.groups.number + n) (c.groups.groups + 1) (world_state c.group.new.world)) size more in
    let counted : c.group.new.world.groups ≡ c.groups.groups + 1 = omega (arith, c.in-Ok.ensures.counts, c.groups.invariant.counted) in
    let there = subst (λ (w : World). IsRunning w × HasChecked b c.args.trace.now c.in-Ok-Some.others.now (c.groups.number + c.len.result) (c.groups.groups + 1) (world_state w) × (w.boot ≡ b) × (w.groups ≡ c.groups.groups + 1)) (sym c.keep.ensures)
    (still c.group.new.world c.in-Ok.lines c.in-Ok.ensures.running, checked, c.in-Ok.ensures.boot ∙ c.groups.invariant.boot, counted) in
    record {
      running = there.0;
      checked = there.1;
      boot = there.2;
      counted = there.3;
      room = omega (arith, size, slice, less, c.groups.invariant.room);
      few = omega (arith, some, slice, less, c.groups.invariant.few);
    }

pub returns-in_err-ended-clause-refused : goal.returns-in_err-ended-clause-refused
returns-in_err-ended-clause-refused c =
    if_err c.from_residual.result c.in_err-ended.field-0.0 (JudgedBy c.args.world.now.boot c.args.trace.now) c.from_residual.ensures
    (checks_refused c.args.world.now.boot c.groups.world.boot c.args.trace.now c.groups.rest.now c.groups.number c.groups.groups (world_state c.groups.world) c.in_err-ended.field-0.0 c.groups.invariant.boot c.groups.invariant.checked
    c.in_err-ended.ensures.refused)

pub returns-clause-verdict : goal.returns-clause-verdict
returns-clause-verdict c =
    checks_good c.args.world.now.boot c.groups.world.boot c.args.trace.now c.groups.rest.now c.groups.number c.groups.groups (world_state c.groups.world) (λ n. good_verdict n c.in_ok-ended.ended) c.groups.invariant.boot c.groups.invariant.checked
    c.in_ok-ended.ensures.verdict
