use Rattle.dm_world.proofs.Names.{ℕ, length, awaited_kept, first_says, record_kept, world_state}
use Rattle.dm_world.proofs.Ending.{said_first, said_second}
use Rattle.dm_world.proofs.world.World.say_kept.Goals as goal

pub returns-then-branch : goal.returns-then-branch
returns-then-branch c =
    let n = length c.args.self.now.boot.machines in
    let w = world_state c.args.self.now in
    let had = first_says (λ (m : ℕ). record_kept ((w.nodes m).kernel.records c.args.pid)) n in
    let awaited = first_says (λ (m : ℕ). awaited_kept c.args.self.now.boot ((w.nodes m).kernel.records c.args.pid)) n in
    said_first c.in_ok-say_kept_had.field-0 had awaited c.args.lines.now.items c.say_kept_had.new.lines.items c.if-branch.true c.in_ok-say_kept_had.ensures

pub returns : goal.returns
returns c =
    let n = length c.args.self.now.boot.machines in
    let w = world_state c.args.self.now in
    let had = first_says (λ (m : ℕ). record_kept ((w.nodes m).kernel.records c.args.pid)) n in
    let awaited = first_says (λ (m : ℕ). awaited_kept c.args.self.now.boot ((w.nodes m).kernel.records c.args.pid)) n in
    said_second c.in_ok-say_kept_had.field-0 c.in_ok-say_kept_awaited.field-0 had awaited c.args.lines.now.items c.say_kept_had.new.lines.items c.say_kept_awaited.new.lines.items
    c.if-branch.false c.in_ok-say_kept_had.ensures c.in_ok-say_kept_awaited.ensures
