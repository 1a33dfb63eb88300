use Rattle.dm_run.proofs.Names.{◌++◌, subst, Boot, List, Line, world_state, length}
use Rattle.dm_text.specs.Text.{text_of_ends, text_of_lines}
use Rattle.dm_world.specs.Ends.{end_lines}
use Rattle.dm_look.specs.Waiting.{waiting}
use Rattle.dm_look.specs.Groups.{IsThere}
use Rattle.dm_look.specs.Looked.{TellsLetters}
use Rattle.dm_look.proofs.Seeing.{seen}
use Rattle.dm_look.proofs.look.look_at.Goals as goal

pub tell-requires-clause-running : goal.tell-requires-clause-running
tell-requires-clause-running c = c.in_ok-last.ensures.running

pub returns-in-Ok-tell : goal.returns-in-Ok-tell
returns-in-Ok-tell c =
    let value = c.as_slice.ensures.value in
    let w = c.go_to.new.world in
    let there : IsThere c.args.boot c.args.directives.now c.args.most c.in_ok-last.last.items w = subst (λ (b : Boot). IsThere b c.args.directives.now c.args.most c.in_ok-last.last.items w) c.in-Ok-begin.ensures.boot c.in_ok-last.ensures in
    seen c.args.boot c.args.directives.now c.args.most c.args.names c.in-Ok.head.items c.in_ok-last.last.items w c.in-Ok-tell.text.items there c.in-Ok.ensures
    (subst (λ (ls : List Line). TellsLetters (waiting (length w.boot.machines) (world_state w)) (c.in-Ok.head.items ++ text_of_lines ls ++ text_of_ends (end_lines w.boot (world_state w))) c.in-Ok-tell.text.items) value c.in-Ok-tell.ensures)
