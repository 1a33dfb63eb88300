-- Who asked for a move, and what tells them how it ended.
use Rattle.std.specs.Prelude.{ℕ, true}
use Rattle.dm_link.specs.Names.{pid_of}
use Rattle.dm_message.specs.Ids.{id_of}
use Rattle.dm_message.specs.declared.Asker.{Asker}
use Rattle.dm_message.specs.declared.Message.{Message}
use Rattle.dm_message.specs.declared.MsgId.{MsgId}
use Rattle.dm_message.specs.declared.Outcome.{Outcome}
use Rattle.dm_message.specs.declared.What.TheVariants as what
use Rattle.dm_process.specs.declared.process.Process.{Process}

-- who sent a request to move, and waits for the answer to it
abbrev pub asker_of : Message → Asker
asker_of m = record { n = m.id.n; addr = m.sender }

-- the request: the process manager's message of that number
abbrev pub manager_request : Asker → MsgId
manager_request k = id_of (pid_of 0 2) k.n

-- the answer to it, from the process, which is on machine `here`
abbrev pub moved_answer : ℕ → Process → Outcome → Asker → Message
moved_answer here p outcome k =
    record {
      id = record { from = pid_of 0 2; n = k.n; answer = true };
      to = k.addr;
      sender = record { pid = p.pid; at = here; moves = p.moves };
      what = what.Moved outcome;
    }
