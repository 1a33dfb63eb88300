use Rattle.dm_world.proofs.Names.{◌*◌, ◌++◌, List, ℕ, ap, ◌∙◌, block_line, drop, take, trimmed}
use Rattle.dm_world.proofs.Ending.{said_more}
use Rattle.dm_world.proofs.end_process.say_memory.Goals as goal

pub loop-block-preserved : goal.loop-block-preserved
loop-block-preserved c =
    let k = c.loop-block.block in
    said_more (λ k. block_line c.args.pid k (trimmed (take 256 (drop (256 * k) c.args.memory.now)))) k _ _ _ c.loop-block.invariant
    (c.in_ok-say_block.ensures ∙ ap (λ (bytes : List ℕ). c.loop-block.lines.items ++ block_line c.args.pid k (trimmed bytes)) c.block.ensures)
