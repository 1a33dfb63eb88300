use Rattle.dm_world.proofs.Names.{ap, sym, ◌∙◌}
use Rattle.dm_world.specs.Ends.{come_whole}
use Rattle.dm_world.proofs.Ending.{kept_said, none_kept_of, not_come}
use Rattle.dm_world.proofs.end_servers.say_kept_whole.Goals as goal

pub returns-then-is_process : goal.returns-then-is_process
returns-then-is_process c = none_kept_of c.args.boot.now c.args.arriving.now c.args.lines.now.items (sym c.is_process.ensures ∙ c.if-is_process.true)

pub returns-in_ok-say_lists-in-Nothing : goal.returns-in_ok-say_lists-in-Nothing
returns-in_ok-say_lists-in-Nothing c =
    kept_said c.args.boot.now c.args.arriving.now c.in_ok-server-in-Nothing.server c.args.lines.now.items c.say_lists.new.lines.items (sym c.in-Nothing.ensures) (sym c.is_process.ensures ∙ c.if-is_process.false) c.in_ok-server-in-Nothing.ensures.exact
    c.in_ok-say_lists-in-Nothing.ensures

pub returns-in-Chunk : goal.returns-in-Chunk
returns-in-Chunk c = not_come c.args.boot.now c.args.arriving.now c.args.lines.now.items (ap (come_whole c.args.boot.now c.args.arriving.now) (sym c.in-Chunk.ensures))

pub returns-in-Block : goal.returns-in-Block
returns-in-Block c = not_come c.args.boot.now c.args.arriving.now c.args.lines.now.items (ap (come_whole c.args.boot.now c.args.arriving.now) (sym c.in-Block.ensures))
