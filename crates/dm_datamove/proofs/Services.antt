-- The service of a request, without places and lawfully.
use Rattle.dm_datamove.proofs.Names.{◌≡◌, ◌∙◌, ℕ, ◌+◌, ◌<◌, ◌≤◌, length, List, take, drop, Some, refl, ap, arith, common_steps, nat_tests, Addr, MsgId, Message, What, plain_message, IsLawfulMessage, Process, IsLawfulProcess, written_at}
use Rattle.dm_datamove.proofs.Names.{IsWithin, after_serving, answer, answer_of, answer_with, plain_served, served_plainly, serving_answer, sym, subst, IsRequest, gone_answer, plainly_gone}
use Rattle.dm_message.specs.declared.What.TheVariants as what

of_what : (here : ℕ) (p : Process) (id : MsgId) (to sender : Addr) (w : What) (a : Message) → IsWithin (length p.memory) w
    → answer_with here p (record { id = id; to = to; sender = sender; what = w }) (answer_of p w) ≡ Some a
    → plain_served (after_serving p w) (plain_message a) ≡ served_plainly p (plain_message (record { id = id; to = to; sender = sender; what = w }))
of_what here p id to sender (what.Read base len) a h e = grind (arith, nat_tests)
of_what here p id to sender (what.Write base bytes) a h e = grind (arith, nat_tests)
of_what here p id to sender w a h e = absurd h

-- the service is that of the kernel without machines
pub serves_plainly : (here : ℕ) (p q : Process) (m a : Message) → IsWithin (length p.memory) m.what → serving_answer here p m ≡ Some a → q ≡ after_serving p m.what
    → plain_served q (plain_message a) ≡ served_plainly p (plain_message m)
serves_plainly here p q m a h e f = ap (λ x. plain_served x (plain_message a)) f ∙ of_what here p m.id m.to m.sender m.what a h e

-- bytes that stand within a memory leave its size
pub length-written : (memory : List ℕ) (base : ℕ) (bytes : List ℕ) → base + length bytes ≤ length memory → length (written_at memory base bytes) ≡ length memory
length-written memory base bytes h = grind (arith, common_steps)

pub with_memory : (p : Process) (memory : List ℕ) → length memory ≡ length p.memory → IsLawfulProcess p → IsLawfulProcess (record p { memory = memory })
with_memory p memory h lawful =
    record {
      home = lawful.home;
      registers = lawful.registers;
      size = rw h lawful.size;
      links = lawful.links;
      slots = lawful.slots;
      status = rw h lawful.status;
      queue = lawful.queue;
    }

after_what : (p : Process) (w : What) → IsWithin (length p.memory) w → IsLawfulProcess p → IsLawfulProcess (after_serving p w)
after_what p (what.Read base len) h lawful = lawful
after_what p (what.Write base bytes) h lawful = with_memory p (written_at p.memory base bytes.items) (length-written p.memory base bytes.items h) lawful
after_what p w h lawful = absurd h

-- the owner is lawful afterwards
pub serves_lawfully : (p q : Process) (w : What) → IsWithin (length p.memory) w → IsLawfulProcess p → q ≡ after_serving p w → IsLawfulProcess q
serves_lawfully p q w h lawful f = rw f (after_what p w h lawful)

answers_what : (here : ℕ) (p : Process) (id : MsgId) (to sender : Addr) (w : What) (a : Message) → here < 16 → IsWithin (length p.memory) w
    → IsLawfulMessage (record { id = id; to = to; sender = sender; what = w })
    → answer_with here p (record { id = id; to = to; sender = sender; what = w }) (answer_of p w) ≡ Some a → IsLawfulMessage a
answers_what here p id to sender (what.Read base len) a machine h lawful e =
    let bytes : List ℕ = take len (drop base p.memory) in
    let n : length bytes ≡ len = grind (arith, common_steps) in
    let f : a ≡ answer here p.moves (record { id = id; to = to; sender = sender; what = what.Read base len }) (what.Block (record { items = bytes })) = cc in
    rw f
    (record {
      from = lawful.from;
      answer = refl;
      to = lawful.sender;
      sender = record { home = lawful.to.home; at = omega arith };
      what = rw n lawful.what.0;
    })
answers_what here p id to sender (what.Write base bytes) a machine h lawful e =
    let f : a ≡ answer here p.moves (record { id = id; to = to; sender = sender; what = what.Write base bytes }) what.Written = cc in
    rw f
    (record {
      from = lawful.from;
      answer = refl;
      to = lawful.sender;
      sender = record { home = lawful.to.home; at = omega arith };
      what = tt;
    })
answers_what here p id to sender w a machine h lawful e = absurd h

-- so is the answer
pub answers_lawfully : (here : ℕ) (p : Process) (m a : Message) → here < 16 → IsWithin (length p.memory) m.what → IsLawfulMessage m → serving_answer here p m ≡ Some a → IsLawfulMessage a
answers_lawfully here p m a machine h lawful e = answers_what here p m.id m.to m.sender m.what a machine h lawful e

gone_of_what : (here : ℕ) (id : MsgId) (to sender : Addr) (w : What) → IsRequest w
    → plain_message (gone_answer here (record { id = id; to = to; sender = sender; what = w })) ≡ plainly_gone (plain_message (record { id = id; to = to; sender = sender; what = w }))
gone_of_what here id to sender (what.Read base len) h = refl
gone_of_what here id to sender (what.Write base bytes) h = refl
gone_of_what here id to sender (what.Move machine) h = refl
gone_of_what here id to sender w h = absurd h

-- what is answered where the receiver has ended is what the kernel without machines answers
pub gone_plainly : (here : ℕ) (m a : Message) → IsRequest m.what → a ≡ gone_answer here m → plain_message a ≡ plainly_gone (plain_message m)
gone_plainly here m a h e = ap plain_message e ∙ gone_of_what here m.id m.to m.sender m.what h

gone_what_lawfully : (here : ℕ) (id : MsgId) (to sender : Addr) (w : What) → here < 16 → IsRequest w → IsLawfulMessage (record { id = id; to = to; sender = sender; what = w })
    → IsLawfulMessage (gone_answer here (record { id = id; to = to; sender = sender; what = w }))
gone_what_lawfully here id to sender (what.Read base len) machine h l = record { from = l.from; answer = refl; to = l.sender; sender = record { home = l.to.home; at = omega (arith, machine) }; what = tt }
gone_what_lawfully here id to sender (what.Write base bytes) machine h l = record { from = l.from; answer = refl; to = l.sender; sender = record { home = l.to.home; at = omega (arith, machine) }; what = tt }
gone_what_lawfully here id to sender (what.Move other) machine h l = record { from = l.from; answer = refl; to = l.sender; sender = record { home = l.to.home; at = omega (arith, machine) }; what = tt }
gone_what_lawfully here id to sender w machine h l = absurd h

pub gone_lawfully : (here : ℕ) (m a : Message) → here < 16 → IsRequest m.what → IsLawfulMessage m → a ≡ gone_answer here m → IsLawfulMessage a
gone_lawfully here m a machine h l e = subst IsLawfulMessage (sym e) (gone_what_lawfully here m.id m.to m.sender m.what machine h l)
