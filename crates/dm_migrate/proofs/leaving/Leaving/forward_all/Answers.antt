use Rattle.dm_migrate.proofs.Names.{◌≡◌, ◌+◌, ◌++◌, map, subst, All, IsMachine, IsLawfulMessage, plain_message, Departure, queue_of, sent_on}
use Rattle.dm_migrate.proofs.Messages.{all_on, lawful_all, plain_on, queue_lawful}
use Rattle.dm_migrate.proofs.leaving.Leaving.forward_all.Goals as goal

pub returns-clause-plain : goal.returns-clause-plain
returns-clause-plain c =
    let d = c.self.inside in
    let n = c.moves-moves.result + 1 in
    let e : c.send_held.new.messages.items ≡ map (sent_on d.to n) (queue_of d.resident ++ d.held.items) =
    all_on d.to n c.in-Ok.messages.items c.send_queue.new.messages.items c.send_held.new.messages.items (queue_of d.resident) d.held.items c.in-Ok.ensures.items c.send_queue.ensures.items c.send_held.ensures.items in
    subst (λ (x : Departure). map plain_message c.send_held.new.messages.items ≡ map plain_message (queue_of x.resident ++ x.held)) c.self.view_is
    (plain_on d.to n c.send_held.new.messages.items (queue_of d.resident) d.held.items e)

pub returns-clause-lawful : goal.returns-clause-lawful
returns-clause-lawful c =
    let d = c.self.inside in
    let n = c.moves-moves.result + 1 in
    let e : c.send_held.new.messages.items ≡ map (sent_on d.to n) (queue_of d.resident ++ d.held.items) =
    all_on d.to n c.in-Ok.messages.items c.send_queue.new.messages.items c.send_held.new.messages.items (queue_of d.resident) d.held.items c.in-Ok.ensures.items c.send_queue.ensures.items c.send_held.ensures.items in
    subst (λ (x : Departure). IsMachine x.to → All IsLawfulMessage x.held → All IsLawfulMessage c.send_held.new.messages.items) c.self.view_is
    (λ a h. lawful_all d.to n c.send_held.new.messages.items (queue_of d.resident) d.held.items e a (queue_lawful d.resident c.self.invariant.0.lawful) h)
