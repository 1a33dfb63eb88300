-- The kernel of the code as the kernel without machines that it stands for.
use Rattle.std.specs.Prelude.{if◌then◌else◌, length, option_map, slice_index}
use Rattle.std.specs.declared.option.Option.{Option}
use Rattle.std.specs.declared.option.Option.TheVariants.{None, Some}
use Rattle.std.specs.BTreeMap.{get}
use Rattle.std.specs.Option.{option_map_or}
use Rattle.dm_link.specs.declared.Pid.{Pid}
use Rattle.dm_link.specs.Names.{pid_cmp, pid_eq}
use Rattle.dm_message.specs.declared.Message.{Message}
use Rattle.dm_message.specs.Plain.{PlainMessage, plain_message}
use Rattle.dm_onekernel.specs.declared.boot.Boot.{Boot}
use Rattle.dm_onekernel.specs.Options.{bind}
use Rattle.dm_onekernel.specs.Kernel.{MoveNote, OneKernel, with_message}
use Rattle.dm_onekernel.specs.PlainProcess.{PlainProcess}
use Rattle.dm_onekernel.specs.Step.{alive}
use Rattle.dm_switchboard.specs.Board.{plain_board}
use Rattle.dm_procman.specs.Managing.{plain_manager}
use Rattle.dm_replay.specs.declared.kernel.Kernel.{Kernel}
use Rattle.dm_replay.specs.declared.kernel.Note.{Note}
use Rattle.dm_replay.specs.Living.{at, life_of}
use Rattle.dm_replay.specs.Named.{held}

-- a message of the bag, without places
abbrev pub plain_held : Option Message → Option PlainMessage
plain_held o = bind o plain_message

-- a request that a process follows, without the place of who sent it
abbrev pub plain_note : Note → MoveNote
plain_note n = record { id = n.id; asker = n.asker.pid }

-- the kernel without machines
abbrev pub one_kernel : Boot → Kernel → OneKernel
one_kernel b k =
    record {
      format = b.format;
      machines = length b.machines;
      images = b.images;
      processes = λ q. life_of (at k.processes q);
      made = slice_index k.made;
      bag = λ i. plain_held (held k.bag i);
      notes = λ q. option_map plain_note (get pid_cmp k.notes q);
      noted = held k.noted;
      switchboard = plain_board k.board;
      manager = plain_manager k.manager;
    }

-- a living process that follows no request to move
abbrev pub hand_of : Kernel → Pid → Option PlainProcess
hand_of k p = option_map_or (λ (note : MoveNote). None) (option_map plain_note (get pid_cmp k.notes p)) (alive (life_of (at k.processes p)))

-- while a process is taken out
abbrev pub without_process : OneKernel → Pid → OneKernel
without_process s p = record s { processes = λ q. if pid_eq p q then None else s.processes q }

-- with a message put into the bag, if there is one
abbrev pub put_in : OneKernel → Option Message → OneKernel
put_in s None = s
put_in s (Some m) = with_message s m.id (plain_message m)
