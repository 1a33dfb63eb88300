-- What comes of a piece of a data move, where the process was taken out.
use Rattle.std.specs.Prelude.{length}
use Rattle.std.specs.declared.option.Option.{Option}
use Rattle.std.specs.declared.option.Option.TheVariants.{Some}
use Rattle.dm_link.specs.declared.Pid.{Pid}
use Rattle.dm_message.specs.declared.MsgId.{MsgId}
use Rattle.dm_onekernel.specs.Kernel.{MoveNote, OneKernel, with_sent}
use Rattle.dm_onekernel.specs.Options.{bind}
use Rattle.dm_onekernel.specs.Pieces.{Served, Landed, Next, Done}
use Rattle.dm_onekernel.specs.Step.{goes_on}
use Rattle.dm_onekernel.specs.Switchboard as switchboard_
use Rattle.dm_onekernel.specs.Manager as manager_
use Rattle.dm_message.specs.Plain.{PlainMessage}

-- the owner goes on, and the answer enters the bag
abbrev pub served_at : OneKernel → Pid → Served → OneKernel
served_at s p r = with_sent (goes_on s p r.process) (Some r.answer)

abbrev pub serves_at : OneKernel → Pid → Option Served → Option OneKernel
serves_at s p served = bind served (λ r. Some (served_at s p r))

-- the mover goes on, and the next request enters the bag, if there is one
abbrev pub landed_at : OneKernel → Pid → Landed → OneKernel
landed_at s p (Next request x) = with_sent (goes_on s p x) (Some request)
landed_at s p (Done reply x) = goes_on s p x

abbrev pub lands_at : OneKernel → Pid → Option Landed → Option OneKernel
lands_at s p landed = bind landed (λ r. Some (landed_at s p r))

-- a server takes a message that was taken out of the bag
abbrev pub board_took_at : OneKernel → switchboard_.BoardTook → OneKernel
board_took_at s t = with_sent (record s { switchboard = t.switchboard }) t.answer

abbrev pub board_at : OneKernel → Option PlainMessage → Option OneKernel
board_at s m = bind m (λ m. bind (switchboard_.board_takes s.switchboard m m.what) (λ t. Some (board_took_at s t)))

abbrev pub manager_took_at : OneKernel → manager_.ManagerTook → OneKernel
manager_took_at s t = with_sent (record s { manager = t.manager }) t.message

abbrev pub manager_at : OneKernel → Option PlainMessage → Option OneKernel
manager_at s m = bind m (λ m. bind (manager_.manager_takes s.manager s.machines (length s.images) m m.what) (λ t. Some (manager_took_at s t)))

-- who follows a request to move, and what the note says
abbrev pub noted_by : OneKernel → MsgId → Option (Pid × MoveNote)
noted_by s id = bind (s.noted id) (λ p. bind (s.notes p) (λ n. Some (p, n)))
