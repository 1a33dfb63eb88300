use Rattle.dm_world.proofs.Names.{◌++◌, [], List, Message, Option, ap, sym, ◌∙◌, append-nil, option_map_or}
use Rattle.std.specs.Prelude.{map}
use Rattle.dm_process.specs.declared.process.Process.{Process}
use Rattle.dm_world.proofs.Ending.{queue_is}
use Rattle.dm_look.proofs.waiting.find_with.Goals as goal

pub returns-in_ok-find_in_queue-in-Some : goal.returns-in_ok-find_in_queue-in-Some
returns-in_ok-find_in_queue-in-Some c =
    let waits = λ (o : Option Process). option_map_or (λ (x : Process). x.queue) o [] in
    let same = c.messages.ensures ∙ (ap waits c.in-Some.ensures ∙ sym (queue_is c.args.resident.now)) in
    c.in_ok-find_in_queue-in-Some.ensures ∙ ap (λ (ms : List Message). map (λ x. x.now) c.args.found.now.items ++ ms) same

pub returns-in-None : goal.returns-in-None
returns-in-None c =
    let waits = λ (o : Option Process). option_map_or (λ (x : Process). x.queue) o [] in
    let none = ap waits c.in-None.ensures ∙ sym (queue_is c.args.resident.now) in
    sym (append-nil (map (λ x. x.now) c.args.found.now.items)) ∙ ap (λ (ms : List Message). map (λ x. x.now) c.args.found.now.items ++ ms) none
