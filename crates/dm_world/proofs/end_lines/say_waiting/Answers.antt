use Rattle.dm_world.proofs.Names.{◌++◌, [], List, Message, Option, ap, sym, ◌∙◌, append-nil, list_line, names_of, option_map_or}
use Rattle.dm_process.specs.declared.process.Process.{Process}
use Rattle.dm_line.specs.declared.end_line.EndLine.TheVariants as end
use Rattle.dm_world.proofs.Ending.{queue_is}
use Rattle.dm_world.proofs.end_lines.say_waiting.Goals as goal

pub returns-in_ok-say_messages-in-Some : goal.returns-in_ok-say_messages-in-Some
returns-in_ok-say_messages-in-Some c =
    let waits = λ (o : Option Process). option_map_or (λ (x : Process). x.queue) o [] in
    let same = c.messages.ensures ∙ (ap waits c.in-Some.ensures ∙ sym (queue_is c.args.resident.now)) in
    c.in_ok-say_messages-in-Some.ensures ∙ ap (λ (ms : List Message). c.args.lines.now.items ++ list_line (end.Queue c.args.pid) (names_of ms)) same

pub returns-in-None : goal.returns-in-None
returns-in-None c =
    let waits = λ (o : Option Process). option_map_or (λ (x : Process). x.queue) o [] in
    let none = ap waits c.in-None.ensures ∙ sym (queue_is c.args.resident.now) in
    sym (append-nil c.args.lines.now.items) ∙ ap (λ (ms : List Message). c.args.lines.now.items ++ list_line (end.Queue c.args.pid) (names_of ms)) none
