-- One machine over plain functions and lists: its kernel, and both ends of its streams with the other machines.
use Rattle.std.specs.Prelude.{ℕ, nat_lt, if◌then◌else◌, [], ◌∷◌, ◌++◌, length}
use Rattle.dm_message.specs.declared.Message.{Message}
use Rattle.dm_stream.specs.Sending.{Sending, fresh_sending}
use Rattle.dm_stream.specs.Receiving.{Receiving, fresh_receiving}
use Rattle.dm_onekernel.specs.declared.boot.Boot.{Boot}
use Rattle.dm_line.specs.Sets.{at_machine}
use Rattle.dm_kernel.specs.State.{KernelState}
use Rattle.dm_kernel.specs.Begun as kernel

pub record NodeState : Type 0 where
  pub kernel : KernelState
  -- how many machines there are
  pub machines : ℕ
  -- how many messages may be routed to any machine, and how many were to this one
  pub numbers : ℕ
  pub home : ℕ
  -- for each other machine
  pub senders : ℕ → Sending Message
  pub receivers : ℕ → Receiving Message

abbrev pub here : NodeState → ℕ
here n = n.kernel.here

abbrev pub with_sender : NodeState → ℕ → Sending Message → NodeState
with_sender n b s = record n { senders = at_machine n.senders b s }

-- a message comes into the inbox
abbrev pub with_message : NodeState → Message → NodeState
with_message n m = record n { kernel = record n.kernel { inbox = n.kernel.inbox ++ m ∷ [] } }

abbrev pub with_receiver : NodeState → ℕ → Receiving Message → NodeState
with_receiver n a r = record n { receivers = at_machine n.receivers a r }

-- there are streams to 16 machines
-- a machine as the boot file has it: nothing was sent yet
abbrev pub node_opened : Boot → ℕ → NodeState
node_opened b m =
    record {
      kernel = kernel.opened b m;
      machines = length b.machines;
      numbers = b.numbers;
      home = 0;
      senders = λ c. fresh_sending (if nat_lt c 16 then b.numbers else 0);
      receivers = λ c. fresh_receiving;
    }
