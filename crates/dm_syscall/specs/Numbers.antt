-- The calls of processes, as the kernel without machines has them.
use Rattle.dm_onekernel.specs.Calls.{CallNumber}
use Rattle.dm_onekernel.specs.Calls as kernel
use Rattle.dm_syscall.specs.declared.number.Call.{Call}
use Rattle.dm_syscall.specs.declared.number.Call.TheVariants as call

abbrev pub number_of : Call → CallNumber
number_of call.Exit = kernel.Exit
number_of call.Out = kernel.Out
number_of call.Make = kernel.Make
number_of call.Copy = kernel.Copy
number_of call.Drop = kernel.Drop
number_of call.Send = kernel.Send
number_of call.Receive = kernel.Receive
number_of call.Move = kernel.Move
