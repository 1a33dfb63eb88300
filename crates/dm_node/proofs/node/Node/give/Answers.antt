use Rattle.dm_node.proofs.Names.{◌≡◌, ap, ◌∙◌, eq-eqb, length, given_count, with_given, sender_at, node_state}
use Rattle.dm_stream.specs.declared.sender.GiveError.TheVariants.{Worn}
use Rattle.dm_node.proofs.States.{apart, sender_set, senders_there, senders_written}
use Rattle.dm_node.proofs.node.Node.give.Goals as goal

pub returns-in-Ok : goal.returns-in-Ok
returns-in-Ok c =
    let n = node_state c.args.self.now in
    let s = n.senders c.args.to in
    let same = rw c.deref_mut.ensures.value at c.in-Ok.ensures.ok in
    let worn = rw c.deref_mut.ensures.value at c.in-Ok.ensures.worn in
    let size = c.in-Ok.ensures.length ∙ ap length c.deref_mut.ensures.value in
    record {
      not_worn = apart (given_count s) s.numbers (λ e. let f = worn.1 e in cc);
      state = senders_written c.args.self.now c.give.new.senders size ∙ sender_set n (sender_at c.give.new.senders) c.args.to (with_given s c.args.message) same;
      streams = senders_there c.args.self.now c.give.new.senders c.requires.streams size;
    }

pub returns-in-Err-Worn : goal.returns-in-Err-Worn
returns-in-Err-Worn c =
    let s = (node_state c.args.self.now).senders c.args.to in
    let worn = rw c.deref_mut.ensures.value at c.in-Err-Worn.ensures.worn in
    let back = rw c.in-Err-Worn.field-0-is at c.in-Err-Worn.ensures.returned in
    record { worn = eq-eqb (given_count s) s.numbers (worn.0 (let w : c.in-Err-Worn.field-0 ≡ Worn c.args.message = c.in-Err-Worn.field-0-is ∙ ap Worn back in cc)); from = cc; to = cc }
